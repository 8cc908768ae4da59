-- The text of a session as it is written, part by part.
--   front_text f              the lines in front
--   asked_text slip           the lines on what was asked for: degree, shape, class
--   reached_text slip count   the lines on what was reached: steps, settled, lines
--   behind_text shape class   what stands behind the weight of a waiting line
use Rattle.std.specs.Prelude.{◌≡◌, refl, ◌∷◌, ◌++◌}
use Rattle.std.proofs.Common.{◌∙◌, append_assoc}
use Rattle.std.proofs.Math.Path.{ap}
use Rattle.theory.specs.Basics.{List, [], map, length, ℕ, nat_abs, joined}
use Rattle.theory.specs.Partition.{Parts, degree}
use Rattle.theory.specs.ShapeWord.{shape_of}
use Rattle.theory.specs.ClassWord.{class_of}
use Rattle.text.specs.Text.{Text, ascii, decimal, integer, list_text, field}
use Rattle.pages.specs.Line.{Line}
use Rattle.pages.specs.declared.Slip.{Slip}
use Rattle.sessiontext.specs.SessionText.{Form, weighted_text, line_text_by, session_lines_by, session_text_by}

pub joined-map : {A B : Type 0} (text : B → Text) (f : A → B) (xs : List A)
    → joined text (map f xs) ≡ joined (λ x. text (f x)) xs
joined-map text f [] = refl
joined-map text f (x ∷ xs) = ap (λ (t : Text). text (f x) ++ t) (joined-map text f xs)

joined-more : (xs ys : List Text) → joined (λ t. t) (xs ++ ys) ≡ joined (λ t. t) xs ++ joined (λ t. t) ys
joined-more [] ys = refl
joined-more (x ∷ xs) ys =
    ap (λ (t : Text). x ++ t) (joined-more xs ys) ∙ rw (append_assoc x (joined (λ t. t) xs) (joined (λ t. t) ys)) refl

abbrev pub front_text : Form → Text
front_text f = joined (λ t. t) f.front

abbrev pub asked_text : Slip → Text
asked_text slip =
    field "degree=" (decimal (degree (shape_of slip.shape))) ++ field "shape=" (list_text (shape_of slip.shape))
    ++ field "class=" (list_text (class_of slip.class))

abbrev pub reached_text : Slip → ℕ → Text
reached_text slip count =
    field "steps=" (decimal (nat_abs slip.steps)) ++ field "settled=" (integer slip.settled)
    ++ field "lines=" (decimal count)

abbrev pub behind_text : Parts → Parts → Text
behind_text shape class = ascii ";" ++ list_text shape ++ ascii ";" ++ list_text class ++ ascii "\n"

pub weighted-parts : (weight : Text) (shape class : Parts)
    → weighted_text weight shape class ≡ ascii "line=" ++ weight ++ behind_text shape class
unfolding weighted_text
weighted-parts weight shape class = simp append_assoc

seven : (a b c d e f g : Text) → a ++ (b ++ (c ++ (d ++ (e ++ (f ++ g))))) ≡ a ++ b ++ c ++ (d ++ e ++ f) ++ g
seven a b c d e f g = simp append_assoc

module _ (f : Form) (slip : Slip) (lines : List Line) where
  pub session-parts : session_text_by f slip lines
      ≡ front_text f ++ (asked_text slip ++ reached_text slip (length lines) ++ joined (line_text_by f) lines)
  unfolding session_text_by session_lines_by
  session-parts =
      joined-more f.front _
      ∙ ap (λ (t : Text). front_text f ++ t)
      (rw (joined-map (λ t. t) (line_text_by f) lines)
      (seven (field "degree=" (decimal (degree (shape_of slip.shape))))
      (field "shape=" (list_text (shape_of slip.shape))) (field "class=" (list_text (class_of slip.class)))
      (field "steps=" (decimal (nat_abs slip.steps))) (field "settled=" (integer slip.settled))
      (field "lines=" (decimal (length lines))) (joined (line_text_by f) lines)))
