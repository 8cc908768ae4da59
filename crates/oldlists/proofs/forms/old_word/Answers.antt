-- The digits complemented have a one for each row.
use borrow.Author.Rules.{rules}
use Rattle.std.specs.Prelude.{◌≡◌, ◌+◌, ◌-◌, ◌*◌, ◌%◌, ◌^◌, ◌<◌, ◌≤◌}
use Rattle.std.proofs.Common.{sym, ap, ◌∙◌, arith, pow_pos}
use Rattle.std.specs.Int.Count.{count_trailing_zeros}
use Rattle.std.proofs.lemmas.Nat.{trailing_le}
use lib.Count
use Rattle.theory.specs.Basics.{ℕ}
use Rattle.theory.proofs.Digits.Laws.{word_below, word_none, one_shifted}
use Rattle.theory.proofs.Digits.Low.{trailing-more}
use Rattle.theory.specs.ClassWord.{class_digits, class_word, class_of}
use Rattle.theory.specs.ShapeWord.{shape_of}
use Rattle.theory.proofs.ShapeWord.Reading.{ones-digits}
use Rattle.theory.proofs.ShapeWord.Words.{rows-have-room}
use Rattle.theory.proofs.ShapeWord.Counts.{rows-of-zero}
use Rattle.theory.proofs.ShapeWord.Complement.{rows_after, complement-room, rows_told}
use Rattle.theory.specs.OldForm.{old_word}
use Rattle.words.specs.Parts.{parts_left}
use Rattle.words.proofs.PartsLeft.{part-positive}
use Rattle.words.proofs.ClassWriting.{start_writing, part-written, all-written}
use Rattle.oldlists.proofs.forms.old_word.Goals as goal

-- the digits of a word that is not 0, complemented by two differences: b is the last one, behind which t digits stand
record Complemented (word t b : ℕ) : Type 0 where
  bit : t < 32
  some : 0 < b
  room : word + b ≤ 2 ^ 31
  rows : rows_after (Count.ones word) (class_of (2 ^ 31 - b - word)) ≡ shape_of word

complemented : (word : ℕ) → (word ≡ 0 → ⊥) → word < 2 ^ 31
    → let t : ℕ = count_trailing_zeros 32 word in Complemented word t (1 * 2 ^ t % 2 ^ 32)
complemented word n h =
    let e = trailing-more 31 word (omega arith) h in
    let bit : count_trailing_zeros 32 word < 32 = omega (arith, trailing_le 31 word) in
    rw (one_shifted 32 (count_trailing_zeros 32 word) bit, e)
    (record {
      bit = omega (arith, trailing_le 31 word);
      some = pow_pos (count_trailing_zeros 31 word);
      room = complement-room 31 word h;
      rows = rw (← ones-digits 31 word h) (sym (rows_told 31 word h));
    })

pub returns-then-word-eq0 : goal.returns-then-word-eq0
returns-then-word-eq0 c = sym (ap old_word c.if-word-eq0.true ∙ ap class_word (rows-of-zero 31) ∙ word_none 31)

pub overflow_sub-complement-2 : goal.overflow_sub-complement-2
overflow_sub-complement-2 c =
    omega (arith, (complemented c.args.word c.if-word-eq0.false (omega (arith, c.requires.good.below))).room)

pub loop-part-init : goal.loop-part-init
loop-part-init c =
    let w : ℕ = c.args.word in
    let s = complemented w c.if-word-eq0.false (omega (arith, c.requires.good.below)) in
    let whole = ap parts_left c.into_iter-part-iterator.ensures.into_iter_gives ∙ c.of-part-items.ensures.parts (search rules) in
    let rows = ap (rows_after (Count.ones w)) whole ∙ s.rows in
    (tt, tt, start_writing (shape_of w) rows (rows-have-room 31 w).partition (omega (arith, c.requires.small)))

pub overflow_sub-length : goal.overflow_sub-length
overflow_sub-length c = omega (arith, part-positive c.loop-part.part-iterator.rest c.in-Some.ensures.steps)

pub overflow_add-bits : goal.overflow_add-bits
overflow_add-bits c =
    let row = part-written c.loop-part.invariant.2 (ap (rows_after c.loop-part.length) c.in-Some.ensures.steps) in
    omega (arith, row.within, word_below 31 (class_digits (shape_of c.args.word)))

pub loop-part-preserved : goal.loop-part-preserved
loop-part-preserved c =
    let row = part-written c.loop-part.invariant.2 (ap (rows_after c.loop-part.length) c.in-Some.ensures.steps) in
    (tt, tt, row.again)

pub returns : goal.returns
returns c = all-written c.loop-part.invariant.2 (ap (rows_after c.loop-part.length) c.in-None.ensures.steps.0)
