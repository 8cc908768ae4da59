-- The digits are read one after the other, and what was cut off at the greatest number stays so.
use Rattle.std.proofs.Common.{◌≡◌, ◌∙◌, ℕ, ◌∷◌, refl, rules, min, fold}
use Rattle.std.proofs.lemmas.Iterator.{YieldsList-from_slice}
use Rattle.std.proofs.lemmas.Iterator.Consumers.{fold_from_yields_List}
use Rattle.theory.specs.Basics.{[]}
use Rattle.text.specs.Text.{Text}
use Rattle.text.specs.Wrote.{most}
use Rattle.textreading.specs.Reading.{step, number_from, number_in}
use Rattle.textreading.specs.Reading.Numbers.{step-most}
use Rattle.textreading.proofs.number_in.Goals as goal

abbrev cut_off : ℕ → ℕ → ℕ
cut_off n b = min (step n b) most

read : (n : ℕ) (t : Text) → fold cut_off (min n most) t ≡ min (number_from n t) most
read n [] = refl
read n (b ∷ t) = rw (step-most n b) (read (step n b) t)

pub returns : goal.returns
unfolding number_in
returns c =
    fold_from_yields_List
    _
    cut_off
    0
    c.fold.result
    c.fold.ensures.ran
    (YieldsList-from_slice c.args.text.now cc)
    (λ n b r q k. search rules)
    ∙ read 0 c.args.text.now
