-- Each row takes its zero out of the ones, and at the end those behind the last row go.
use borrow.Author.Rules.{rules}
use Rattle.std.specs.Prelude.{◌≡◌, ◌++◌, ◌+◌, ◌-◌, ◌^◌, ◌<◌, ◌≤◌}
use Rattle.std.proofs.Common.{sym, ap, ◌∙◌, arith, pos_of_ne-zero}
use Rattle.std.specs.Int.Count.{count_leading_zeros}
use Rattle.theory.specs.Basics.{true, ℕ, replicate, length}
use Rattle.theory.specs.Partition.{Parts, first, is_partition}
use Rattle.theory.specs.Digits.{word}
use Rattle.theory.proofs.Digits.Laws.{word_none}
use Rattle.theory.specs.ClassWord.{class_of}
use Rattle.theory.proofs.ClassWord.Laws.{parts_none}
use Rattle.theory.proofs.ClassWord.Reading.{first_part}
use Rattle.theory.specs.ShapeWord.{shape_digits, shape_word}
use Rattle.theory.proofs.ShapeWord.Words.{small-has-room}
use Rattle.theory.specs.OldForm.{new_word}
use Rattle.words.specs.Parts.{parts_left}
use Rattle.oldlists.proofs.Taking.{Taking, zero-taken, all-taken}
use Rattle.oldlists.proofs.forms.new_word.Goals as goal

pub returns-then-word-eq0 : goal.returns-then-word-eq0
returns-then-word-eq0 c = sym (ap new_word c.if-word-eq0.true ∙ ap shape_word (parts_none 0 31) ∙ word_none 31)

-- before the first row is read, it stands as the row read last
start : (w : ℕ) (ps : Parts) → ps ≡ class_of w → (w ≡ 0 → ⊥) → w < 2 ^ 31 → is_partition (class_of w) ≡ true
    → length (class_of w) + first (class_of w) ≤ 31 → Taking (new_word w) (count_leading_zeros 32 w) 31 2147483648 ps
start w ps e n h p room =
    let starts = ap first (first_part 31 w (pos_of_ne-zero n) h).reads in
    let none : count_leading_zeros 32 w - first (class_of w) ≡ 0 = omega arith in
    let whole = ap (λ (k : ℕ). word 31 (replicate k true ++ shape_digits (class_of w))) none in
    rw e
    (record {
      partition = p;
      falls = omega arith;
      room = omega arith;
      digits = omega arith;
      whole = omega arith;
    })

pub loop-part-init : goal.loop-part-init
loop-part-init c =
    let w : ℕ = c.args.word in
    let p = c.requires in
    let fits = small-has-room (class_of w) p.good.partition (omega arith) in
    let whole = ap parts_left c.into_iter-part-iterator.ensures.into_iter_gives ∙ c.of-part-items.ensures.parts (search rules) in
    (tt, tt, start w _ whole c.if-word-eq0.false p.good.below p.good.partition (omega (arith, fits.room)))

pub overflow_sub-bits : goal.overflow_sub-bits
overflow_sub-bits c = (zero-taken c.loop-part.invariant.2 c.in-Some.ensures.steps).takes

pub loop-part-preserved : goal.loop-part-preserved
loop-part-preserved c = (tt, tt, (zero-taken c.loop-part.invariant.2 c.in-Some.ensures.steps).again)

pub overflow_sub-result-2 : goal.overflow_sub-result-2
overflow_sub-result-2 c = (all-taken c.loop-part.invariant.2 c.in-None.ensures.steps.0).takes

pub returns : goal.returns
returns c = (all-taken c.loop-part.invariant.2 c.in-None.ensures.steps.0).whole
