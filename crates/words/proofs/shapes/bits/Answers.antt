-- Each row is written by its zero and the ones by which it exceeds the next.
use Rattle.std.specs.Prelude.{◌≡◌, ◌∷◌, ◌+◌, ◌-◌, ◌*◌, ◌%◌, ◌^◌, ◌<◌, ◌≤◌}
use Rattle.std.proofs.Common.{sym, ◌∙◌, ap, arith, pow_mono}
use Rattle.theory.specs.Basics.{ℕ, suc, length, drop}
use Rattle.theory.specs.Partition.{Parts, first}
use Rattle.theory.proofs.Partition.Laws.{front}
use Rattle.theory.specs.Digits.{word}
use Rattle.theory.proofs.Digits.Laws.{one_shifted, word_below, word_none}
use Rattle.theory.specs.ShapeWord.{shape_digits}
use Rattle.theory.proofs.ShapeWord.Words.{HasRoom, small-has-room}
use Rattle.theory.proofs.ShapeWord.Reading.{shape-word-front}
use Rattle.words.proofs.PartLists.{first-left, next-left, none_left}
use Rattle.words.proofs.shapes.bits.Goals as goal

-- The row r of ps before the rows rs, of which q is the first, is added to the first of `left` digits as a zero and the
-- ones between two masks.
record RowAdded (left r q : ℕ) (ps rs : Parts) (top next : ℕ) : Type 0 where
  falls : q ≤ r
  more : r - q < left
  masks : next ≤ top
  fits : HasRoom (left - 1 - (r - q)) rs
  wrote : word left (shape_digits ps) ≡ (top - next) + word (left - 1 - (r - q)) (shape_digits rs)

row-added : (left r q : ℕ) (ps rs : Parts) → HasRoom left ps → left ≤ 31 → ps ≡ r ∷ rs → first rs ≡ q
    → RowAdded left r q ps rs (1 * 2 ^ (left - 1) % 2 ^ 32) (1 * 2 ^ (left - 1 - (r - q)) % 2 ^ 32)
row-added left r q ps rs f l e eq =
    let p = front r rs (rw e at f.partition) in
    let room : suc (length rs) + r ≤ left = rw e at f.room in
    let falls : q ≤ r = rw eq at p.falls in
    rw (one_shifted 32 (left - 1) (omega arith), one_shifted 32 (left - 1 - (r - q)) (omega arith))
    (record {
      falls = falls;
      more = omega arith;
      masks = pow_mono (omega arith);
      fits = record { partition = p.rest; room = omega arith };
      wrote = rw (e, ← eq) (shape-word-front left r rs p.falls room);
    })

abbrev Step : goal.After-part_at → Type 0
Step c =
    let ps : Parts = c.args.parts.now in
    let l = c.loop-i in
    let r = c.from.result in
    let q = c.part_at.result in
    RowAdded l.left r q (drop l.i ps) (drop (l.i + 1) ps) (1 * 2 ^ (l.left - 1) % 2 ^ 32)
    (1 * 2 ^ (l.left - 1 - (r - q)) % 2 ^ 32)

step : (c : goal.After-part_at) → Step c
step c =
    let ps = c.args.parts.now in
    let i = c.loop-i.i in
    let v = c.loop-i.invariant in
    let e = rw (← c.from.ensures) at (next-left ps i c.loop-i-test.true) in
    row-added _ _ _ (drop i ps) (drop (i + 1) ps) v.0 v.1 e (first-left ps (i + 1) ∙ sym c.part_at.ensures)

pub loop-i-init : goal.loop-i-init
loop-i-init c =
    let p = c.requires in
    (small-has-room c.args.parts.now p.partition (omega arith), omega arith, omega arith)

pub overflow_sub-more : goal.overflow_sub-more
overflow_sub-more c = omega (arith, step c)

pub overflow_sub-top : goal.overflow_sub-top
overflow_sub-top c = omega (arith, step c)

pub overflow_sub-left : goal.overflow_sub-left
overflow_sub-left c = omega (arith, step c)

pub overflow_shl-bits : goal.overflow_shl-bits
overflow_shl-bits c = omega (arith, step c)

pub overflow_shl-bits-in-loop-i : goal.overflow_shl-bits-in-loop-i
overflow_shl-bits-in-loop-i c = omega (arith, step c)

pub overflow_sub-bits : goal.overflow_sub-bits
overflow_sub-bits c = omega (arith, step c)

pub overflow_add-bits : goal.overflow_add-bits
overflow_add-bits c = omega (arith, step c, word_below 31 (shape_digits c.args.parts.now))

pub loop-i-preserved : goal.loop-i-preserved
loop-i-preserved c =
    let s = step c in
    let v = c.loop-i.invariant in
    (s.fits, omega arith, omega arith)

pub returns : goal.returns
returns c =
    let n = c.loop-i.left in
    let e = none_left c.args.parts.now c.loop-i.i c.loop-i-test.false in
    omega (arith, ap (λ (ps : Parts). word n (shape_digits ps)) e, word_none n)
