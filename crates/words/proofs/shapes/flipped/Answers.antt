-- The lowest places, as many as there are trailing zeros, keep their zeros.
use Rattle.std.specs.Prelude.{◌≡◌, ◌+◌, ◌-◌, ◌*◌, ◌/◌, ◌%◌, ◌^◌}
use Rattle.std.proofs.Common.{sym, ap, ◌∙◌, arith, pos_of_ne-zero}
use Rattle.std.specs.Int.Count.{count_trailing_zeros}
use Rattle.std.proofs.lemmas.Nat.{trailing_le}
use Rattle.theory.specs.Basics.{ℕ}
use Rattle.theory.specs.Digits.{digits, word}
use Rattle.theory.proofs.Digits.Laws.{word_below}
use Rattle.theory.proofs.Digits.Low.{trailing-more}
use Rattle.theory.specs.ShapeWord.{conjugate, conjugate_word}
use Rattle.theory.proofs.ShapeWord.Flips.{flips, conjugate-digits, flip-step, flip-end}
use Rattle.theory.proofs.ShapeWord.Counts.{conjugate-of-zero}
use Rattle.words.proofs.shapes.flipped.Goals as goal

step : (c : goal.In-loop-left)
    → let t = count_trailing_zeros 32 c.args.word in
    let l = c.loop-left.left in
    let x = c.loop-left.rest in
    word l (flips (l - t) x) ≡ (1 - x % 2) * 2 ^ (l - 1) % 2 ^ 32 + word (l - 1) (flips (l - 1 - t) (x / 2))
step c = flip-step 32 c.loop-left.left (count_trailing_zeros 32 c.args.word) c.loop-left.rest (omega arith) (omega arith)

pub returns-then-word-eq0 : goal.returns-then-word-eq0
returns-then-word-eq0 c = sym (ap conjugate_word c.if-word-eq0.true ∙ conjugate-of-zero 31)

pub loop-left-init : goal.loop-left-init
loop-left-init c =
    let w = c.args.word in
    let t = count_trailing_zeros 32 w in
    let trailing = trailing-more 31 w (pos_of_ne-zero c.if-word-eq0.false) c.requires in
    let e : conjugate_word w ≡ word 31 (flips (31 - t) (w / 2 ^ t)) = rw trailing (ap (word 31) (conjugate-digits 31 w)) in
    (omega (arith, trailing, trailing_le 31 w), omega arith)

pub overflow_add-out : goal.overflow_add-out
overflow_add-out c = omega (arith, step c, word_below 31 (conjugate (digits 31 c.args.word)))

pub loop-left-preserved : goal.loop-left-preserved
loop-left-preserved c = omega (arith, step c)

pub returns : goal.returns
returns c =
    let t = count_trailing_zeros 32 c.args.word in
    let e : c.loop-left.left ≡ t = omega arith in
    let f = ap (λ (l : ℕ). word l (flips (l - t) c.loop-left.rest)) e ∙ flip-end t c.loop-left.rest in
    omega arith
