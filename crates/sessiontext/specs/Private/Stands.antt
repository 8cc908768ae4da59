-- What the readers that go straight on answer: a text is that of what was read, with what is behind it.
--   PartStands text r      so it is of the part that was read; SignStands, of the front of a waiting line; ListStands, of
--                          the list, with a byte behind it; WordStands, of the list of a word
--   LineStands text r      a line that was read is the text's first, of its form
use Rattle.std.specs.Prelude.{◌≡◌, ◌≤◌, [], ◌∷◌, ◌++◌, Option, IfSome}
use denote.Ref.{Bor}
use Rattle.theory.specs.Basics.{Bool, ℕ, List, length, take, drop}
use Rattle.theory.specs.Partition.{Parts}
use Rattle.theory.specs.Limits.{degree_limit}
use Rattle.text.specs.Text.{Text, ascii, decimal, list_text}
use Rattle.textreading.specs.Reading.{first_line}
use Rattle.pages.specs.Page.{word_of}
use Rattle.sessiontext.specs.SessionText.{sign_text}
use Rattle.sessiontext.specs.Reading.{line_in}
use Rattle.sessiontext.specs.Reading.Forms.{InLimit, Waiting}

abbrev pub PartStands : Text → Option (ℕ × Bor Text) → Type 0
PartStands text r = IfSome r (λ p. text ≡ decimal p.0 ++ p.1.now)

abbrev pub SignStands : Text → Option (Bool × Bor Text) → Type 0
SignStands text r = IfSome r (λ s. text ≡ (ascii "line=" ++ sign_text s.0 ++ ascii ";") ++ s.1.now)

abbrev pub ListStands : ℕ → Text → List ℕ → Option (ℕ × Bor Text) → Type 0
ListStands stop text column r =
    IfSome r (λ l. (l.0 ≤ length column) × (text ≡ (list_text (take l.0 column) ++ stop ∷ []) ++ l.1.now))

pub record WordRead (word_of : Parts → ℕ) (stop : ℕ) (text : Text) (word : ℕ) (rest : Text) : Type 0 where
  pub parts : Parts
  pub within : InLimit degree_limit parts
  pub stands : text ≡ (list_text parts ++ stop ∷ []) ++ rest
  pub word_is : word ≡ word_of parts

abbrev pub WordStands : (Parts → ℕ) → ℕ → Text → Option (ℕ × Bor Text) → Type 0
WordStands word_of stop text r = IfSome r (λ w. WordRead word_of stop text w.0 w.1.now)

pub record LineRead (text : Text) (word : ℕ) (rest : Text) : Type 0 where
  pub formed : Waiting degree_limit (first_line text)
  pub word_is : word ≡ word_of (line_in (first_line text))
  pub behind : rest ≡ drop (length (first_line text)) text

abbrev pub LineStands : Text → Option (ℕ × Bor Text) → Type 0
LineStands text r = IfSome r (λ l. LineRead text l.0 l.1.now)
