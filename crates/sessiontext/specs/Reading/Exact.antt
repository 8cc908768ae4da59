-- A text with no line at fault is exactly the text of what it is read as: one session has one text.
use Rattle.std.specs.Prelude.{◌≡◌, ◌<◌, ◌∷◌, ◌++◌}
use Rattle.std.proofs.Math.Path.{refl, sym, ap}
use Rattle.std.proofs.Common.{◌∙◌, ap₂, arith}
use Rattle.std.proofs.Math.ListN.{length-map}
use Rattle.theory.specs.Basics.{true, List, [], map, length, get_or, drop, ℕ, suc, joined, Each}
use Rattle.theory.specs.Partition.{Parts}
use Rattle.theory.specs.Digits.{width}
use Rattle.theory.specs.ShapeWord.{shape_word, shape_of}
use Rattle.theory.proofs.ShapeWord.Good.{good-shape}
use Rattle.theory.proofs.ShapeWord.Words.{small-has-room, word_back, rows-good}
use Rattle.theory.specs.ClassWord.{class_word, class_of}
use Rattle.theory.specs.ClassWord.Laws.{Held}
use Rattle.theory.proofs.ClassWord.Laws.{class-of-word, word_good}
use Rattle.theory.specs.Refusals.Laws.{Within, WithinClass}
use Rattle.text.specs.Text.{Text}
use Rattle.textreading.specs.Reading.{before, lines_of}
use Rattle.textreading.proofs.Reading.Lines.{lines-whole}
use Rattle.sessiontext.specs.SessionText.{Form, weighted_text, line_text_by, session_lines_by, session_text_by}
use Rattle.sessiontext.specs.SessionText.Faithful.{Faithful}
use Rattle.sessiontext.specs.SessionText.Storable.{StorableLineBy}
use Rattle.sessiontext.specs.Reading.{shape_in, class_in, weight_by, line_by, body_by, at_by, following_by, slip_by}
use Rattle.sessiontext.specs.Reading.{lines_by}
use Rattle.sessiontext.specs.Reading.Forms.{Fronted, InLimit, WaitingBy, FormedBy}

-- a list that has an element at place 5
six : (ls : List Text) → (get_or ls 5 [] ≡ [] → ⊥)
    → ls ≡ get_or ls 0 [] ∷ get_or ls 1 [] ∷ get_or ls 2 [] ∷ get_or ls 3 [] ∷ get_or ls 4 [] ∷ get_or ls 5 [] ∷ drop 6 ls
six [] n = absurd (n refl)
six (a ∷ []) n = absurd (n refl)
six (a ∷ b ∷ []) n = absurd (n refl)
six (a ∷ b ∷ c ∷ []) n = absurd (n refl)
six (a ∷ b ∷ c ∷ d ∷ []) n = absurd (n refl)
six (a ∷ b ∷ c ∷ d ∷ e ∷ []) n = absurd (n refl)
six (a ∷ b ∷ c ∷ d ∷ e ∷ f ∷ ls) n = refl

drop-none : (n : ℕ) → drop {A = Text} (suc n) [] ≡ []
drop-none n = refl

-- lines with these in front, and some behind them
behind-front : (front ls : List Text) → Fronted front ls → (drop (length front) ls ≡ [] → ⊥)
    → ls ≡ front ++ drop (length front) ls
behind-front [] ls e some = refl
behind-front (line ∷ front) [] e some = absurd (some (drop-none (length front)))
behind-front (line ∷ front) (l ∷ ls) e some =
    ap₂ ◌∷◌ e.0 (behind-front front ls e.1 some)

module _ (limit : ℕ) (room : limit < width) where
  -- ---- words of what is read
  module _ {ps : Parts} (i : InLimit limit ps) where
    pub shape-kept : shape_of (shape_word ps) ≡ ps
    shape-kept = word_back ps (small-has-room ps i.partition (omega (arith, i.small)))

    held-class : Held ps
    held-class = record { partition = i.partition; room = omega (arith, i.small) }

    pub class-kept : class_of (class_word ps) ≡ ps
    class-kept = class-of-word held-class

    pub shape-within : Within limit (shape_word ps)
    shape-within = record { good = good-shape (shape_word ps) (rows-good ps); small = rw shape-kept i.small }

    pub class-within : WithinClass limit (class_word ps)
    class-within = record { good = word_good held-class; small = rw class-kept i.small }

  module _ {f : Form} (fa : Faithful f) where
    -- ---- a waiting line, whether or not its text is of its form
    module _ (t : Text) (fits : f.fits (weight_by f t) ≡ true) (shape : InLimit limit (shape_in t))
        (class : InLimit limit (class_in t)) where
      pub told_text : line_text_by f (line_by f t) ≡ weighted_text (f.weight_text (weight_by f t)) (shape_in t) (class_in t)
      unfolding line_by
      told_text = rw (shape-kept shape, class-kept class) refl

      pub told-storable : StorableLineBy fa limit (line_by f t)
      unfolding line_by
      told-storable = record {
        kept = fa.fits_kept (before 59 t) fits;
        shape = shape-within shape;
        class = class-within class;
      }

      pub told-written : fa.law.Written (line_by f t)
      unfolding line_by
      told-written =
          fa.kept-written _ (fa.fits_kept (before 59 t) fits) (omega (arith, (shape-within shape).good.below))
          (omega (arith, (class-within class).good.below))

    -- ---- a waiting line
    module _ {t : Text} (w : WaitingBy f limit t) where
      pub line-exact : line_text_by f (line_by f t) ≡ t
      line-exact = told_text t w.fits w.shape w.class ∙ sym w.whole

      pub line-storable : StorableLineBy fa limit (line_by f t)
      line-storable = told-storable t w.fits w.shape w.class

      pub line-written : fa.law.Written (line_by f t)
      line-written = told-written t w.fits w.shape w.class

    lines-exact : (ts : List Text) → Each (WaitingBy f limit) ts → map (line_text_by f) (map (line_by f) ts) ≡ ts
    lines-exact [] e = refl
    lines-exact (t ∷ ts) e = rw (line-exact e.0, lines-exact ts e.1)

    -- ---- a text
    module _ (text : Text) (g : FormedBy f limit text) where
      some-line : at_by f text 5 ≡ [] → ⊥
      some-line none = omega (arith, ap length (sym none ∙ g.count))

      all_lines : lines_of text
          ≡ f.front
          ++ (at_by f text 0 ∷ at_by f text 1 ∷ at_by f text 2 ∷ at_by f text 3 ∷ at_by f text 4 ∷ at_by f text 5
          ∷ following_by f text)
      all_lines =
          behind-front f.front (lines_of text) g.front
          (λ none. some-line (ap (λ (ls : List Text). get_or ls 5 []) none))
          ∙ ap (λ (ls : List Text). f.front ++ ls) (six (body_by f text) some-line)

      session-lines : session_lines_by f (slip_by f text) (lines_by f text) ≡ lines_of text
      unfolding session_lines_by slip_by lines_by
      session-lines =
          rw (
            shape-kept g.shape.within,
            class-kept g.class.within,
            ← g.degrees,
            length-map,
            lines-exact (following_by f text) g.lines,
            ← g.degree-line.whole,
            ← g.shape.whole,
            ← g.class.whole,
            ← g.steps.whole,
            ← g.settled.whole,
            ← g.count,
          ) (sym all_lines)

      pub text-exact : text ≡ session_text_by f (slip_by f text) (lines_by f text)
      unfolding session_text_by
      text-exact = sym (lines-whole text) ∙ ap (joined (λ t. t)) (sym session-lines)
