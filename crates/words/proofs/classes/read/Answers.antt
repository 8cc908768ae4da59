-- A part that rises is no partition's, and one that does not leaves the question to those behind it.
use borrow.Author.Rules.{rules}
use Rattle.std.specs.Prelude.{◌≡◌, ◌∷◌, ◌<◌, ◌≤◌, ◌^◌}
use Rattle.std.proofs.Common.{sym, ◌∙◌, ap, arith, lt-ltb, le-ltb}
use Rattle.theory.specs.Basics.{true, false, [], ℕ, length}
use Rattle.theory.specs.Partition.{Parts, first, is_partition, degree}
use Rattle.theory.proofs.Partition.Laws.{fall, rise, first-degree}
use Rattle.theory.specs.ClassWord.{class_of, good_class}
use Rattle.theory.proofs.ClassWord.Laws.{good-of-below, bad-above}
use Rattle.theory.specs.Refusals.{class_checks}
use Rattle.theory.specs.Limits.{degree_limit}
use Rattle.words.specs.Parts.{parts_left}
use Rattle.words.specs.Answers.{Err}
use Rattle.words.specs.declared.refusal.Refusal.TheVariants.{BadClass}
use Rattle.words.specs.Private.Reading.{Measured}
use Rattle.words.proofs.PartsLeft.{part-positive, parts-room, few-parts}
use Rattle.words.proofs.classes.read.Goals as goal

bad : (w : ℕ) → good_class w ≡ false → Measured (class_checks degree_limit w) (class_of w) (Err BadClass)
bad w e = record { refused = rw e; given = tt }

pub returns-then-word-ge2147483648 : goal.returns-then-word-ge2147483648
returns-then-word-ge2147483648 c = bad c.args.word (bad-above c.args.word c.if-word-ge2147483648.true)

pub loop-part-init : goal.loop-part-init
loop-part-init c =
    let w : ℕ = c.args.word in
    let whole = ap parts_left c.into_iter-part-iterator.ensures.into_iter_gives ∙ c.of-part-items.ensures.parts (search rules) in
    let small : first (class_of w) ≤ 31 = omega (arith, first-degree (class_of w), parts-room w) in (
      tt,
      tt,
      omega arith,
      omega (arith, ap length whole),
      ap (λ ps. is_partition (31 ∷ ps)) whole ∙ fall 31 (class_of w) (omega arith) small,
    )

pub returns-then-last-part : goal.returns-then-last-part
returns-then-last-part c =
    let w : ℕ = c.args.word in
    let l = c.loop-part in
    let e = c.in-Some.ensures.steps in
    bad w
    (good-of-below w (omega arith) ∙ sym l.invariant.4
    ∙ rise l.last (parts_left l.part-iterator) (omega (arith, ap first e)))

pub overflow_add-count : goal.overflow_add-count
overflow_add-count c = omega (arith, few-parts c.args.word)

pub loop-part-preserved : goal.loop-part-preserved
loop-part-preserved c =
    let l = c.loop-part in
    let e = c.in-Some.ensures.steps in
    let falls = fall l.last (parts_left l.part-iterator) l.invariant.2 (omega (arith, ap first e)) in (
      tt,
      tt,
      part-positive l.part-iterator.rest e,
      omega (arith, ap length e),
      sym (falls ∙ ap is_partition e) ∙ l.invariant.4,
    )

good : (w last : ℕ) (left : Parts) → w < 2 ^ 31 → 0 < last → is_partition (last ∷ left) ≡ is_partition (class_of w)
    → left ≡ [] → good_class w ≡ true
good w last left h p e none =
    good-of-below w h ∙ sym e ∙ fall last left p (omega (arith, ap first none)) ∙ ap is_partition none

pub returns-then-degree-gt-LIMIT : goal.returns-then-degree-gt-LIMIT
returns-then-degree-gt-LIMIT c =
    let w : ℕ = c.args.word in
    let l = c.loop-part in
    let whole = good w l.last (parts_left l.part-iterator) (omega arith) l.invariant.2 l.invariant.4 c.in-None.ensures.steps.0 in
    let large = lt-ltb degree_limit (degree (class_of w)) (omega (arith, c.last_one-degree.ensures)) in
    record { refused = rw (whole, large); given = tt }

pub returns : goal.returns
returns c =
    let w : ℕ = c.args.word in
    let l = c.loop-part in
    let none : parts_left l.part-iterator ≡ [] = c.in-None.ensures.steps.0 in
    let whole = good w l.last (parts_left l.part-iterator) (omega arith) l.invariant.2 l.invariant.4 none in
    let n = c.last_one-degree.ensures in
    let within = le-ltb degree_limit (degree (class_of w)) (omega (arith, n)) in
    record { refused = rw (whole, within); given = (n, omega (arith, ap length none)) }
