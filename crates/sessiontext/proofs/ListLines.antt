-- A partition that is read off a line, written out and compared with it.
use mathlib.Core.Path.{◌≡◌, sym, ◌∙◌, ap}
use Rattle.std.specs.Prelude.{Option}
use Rattle.std.specs.Bool.{then_some}
use mathlib.Core.Bool.{false≢true}
use Prim.Native.Nat.{◌≤◌}
use native.Mathlib.Omega.{arith}
use Rattle.theory.specs.Basics.{Bool, true, false, ℕ, length}
use Rattle.theory.proofs.Basics.Keep.{same_test}
use Rattle.theory.specs.Partition.{Parts, degree}
use Rattle.theory.specs.ShapeWord.{shape_word}
use Rattle.std.specs.Prelude.{IsOk}
use Rattle.std.specs.declared.result.Result.{Result}
use Rattle.std.specs.declared.result.Result.TheVariants.{Ok}
use Rattle.words.specs.declared.refusal.Refusal.{Refusal}
use Rattle.words.specs.Answers.{degree_told}
use Rattle.words.specs.Calls.{shape_degree}
use Rattle.sessiontext.specs.Reading.Exact.{shape-kept, shape-within}
use Rattle.sessiontext.proofs.Words.{degree-given, shape-degree}
use Rattle.theory.specs.Limits.{degree_limit}
use Rattle.text.specs.Text.{Text, ascii, list_text, text_line}
use Rattle.text.specs.Wrote.{Wrote}
use Rattle.textreading.specs.Reading.{list_in}
use Rattle.sessiontext.specs.SessionText.Room.{line-length, list-short}
use Rattle.sessiontext.specs.Reading.{in_limit, is_list}
use Rattle.sessiontext.specs.Reading.Forms.{InLimit, in-limit, limit-in, is-list, list-is}
use Rattle.sessiontext.specs.Private.Read.{Tells}
use Rattle.sessiontext.proofs.Own.{Own, own}
use Rattle.sessiontext.proofs.Told.{Compared, told}
use Rattle.sessiontext.proofs.Lists.{told_parts, parts-same}

module _ (name t : Text) where
  pub list-unread : in_limit degree_limit (list_in t) ≡ false → is_list degree_limit name t ≡ false
  list-unread e =
      same_test (is_list degree_limit name t) false
      (λ f. absurd (false≢true (sym e ∙ limit-in (is-list degree_limit name t f).within))) (λ b. absurd (false≢true b))

  module _ {ps : Parts} (e : ps ≡ told_parts t) (f : in_limit degree_limit ps ≡ true) where
    parts-are : ps ≡ list_in t
    parts-are = e ∙ parts-same t (rw e at f)

    pub its-limit : InLimit degree_limit (list_in t)
    its-limit = in-limit degree_limit (list_in t) (rw parts-are at f)

    pub list-own : length name ≤ 8 → {before bytes : Text} {end : ℕ}
        → Wrote (text_line name (list_text ps)) 0 before end bytes → length before ≡ 64
        → Own (text_line name (list_text (list_in t))) end bytes
    list-own h w room =
        own (rw parts-are at w) (omega (arith, line-length name (list_text (list_in t)), list-short its-limit))
        (omega arith)

    pub list-told : (word_of : Parts → ℕ) {b : Bool} {word : ℕ} {r : Option ℕ} → word ≡ word_of ps
        → Compared b t (text_line name (list_text (list_in t))) → r ≡ then_some b word
        → Tells (is_list degree_limit name t) (word_of (list_in t)) r
    list-told word_of {b} w c r =
        told r
        (same_test b (is_list degree_limit name t)
        (λ e. list-is (record { within = its-limit; whole = c.0 e }))
        (λ l. c.1 (is-list degree_limit name t l).whole))
        (λ b. w ∙ ap word_of parts-are)

-- ---- the degree of a shape
module _ (t : Text) (f : is_list degree_limit (ascii "shape=") t ≡ true) where
  its : InLimit degree_limit (list_in t)
  its = (is-list degree_limit (ascii "shape=") t f).within

  module _ {w : ℕ} (e : w ≡ shape_word (list_in t)) (r : Result ℕ Refusal)
      (d : degree_told r ≡ shape_degree degree_limit w) where
    pub degree-read : IsOk r
    degree-read = degree-given (shape-within degree_limit (omega arith) its) r (rw e at d)

    pub degree-told : {n : ℕ} → r ≡ Ok n → n ≡ degree (list_in t)
    degree-told is =
        shape-degree (shape-within degree_limit (omega arith) its) r (rw e at d) is
        ∙ ap degree (shape-kept degree_limit (omega arith) its)
