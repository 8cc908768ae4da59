-- `gathered::joining::append` meets its contract: the hook lines that are left, put from the next line on.
use Rattle.std.proofs.Common.{◌≡◌, ◌∙◌, ap, pos, length, get_or, set, arith}
use borrow.Author.Rules.{rules}
use mir.Facts.{to_z-of_z}
use mir.Syntax.{w64}
use mir.Val.{SFits}
use Rattle.gathered.proofs.Loops.{picked-not, counted-here, append-here, picked_none}
use Rattle.gathered.proofs.joining.append.Goals as goal
use Rattle.gathered.proofs.joining.append.Goals.{then-place-none, else-place-none}

pub bounds-page-next : goal.bounds-page-next
bounds-page-next c =
    let some = counted-here 0 c.args.none c.loop-j.page c.args.places.now c.args.words.now c.loop-j.j c.loop-j.next c.loop-j-test.true c.requires.1 c.if-place-none.true in
    omega (arith, some, c.loop-j.invariant.counted, c.loop-j.auto.page, c.requires.3)

pub bounds-column-next : goal.bounds-column-next
bounds-column-next c =
    let some = counted-here 0 c.args.none c.loop-j.page c.args.places.now c.args.words.now c.loop-j.j c.loop-j.next c.loop-j-test.true c.requires.1 c.if-place-none.true in
    omega (arith, some, c.loop-j.invariant.counted, c.loop-j.auto.column, c.requires.0, c.requires.3)

pub loop-j-preserved : goal.loop-j-preserved
loop-j-preserved c =
    let more = c.loop-j-test.true in
    let l = c.loop-j in
    elim c.if-place-none.branch [
      | then-place-none w ↦
          let here = w.if-place-none.true in
          let fits : SFits w64 (get_or c.args.weights.now l.j (pos 0)) = search rules in
          let column-now : c.if-place-none.column ≡ set l.column l.next (get_or c.args.weights.now l.j (pos 0)) =
          w.column-is ∙ ap (set l.column l.next) (to_z-of_z fits) in
          record {
            counted = rw w.next-is (counted-here 0 c.args.none l.page c.args.places.now c.args.words.now l.j l.next more c.requires.1 here)
                ∙ l.invariant.counted;
            page = rw (w.page-is, w.next-is) (append-here 0 _ _ _ _ _ _ more c.requires.1 here) ∙ l.invariant.page;
            column = rw (column-now, w.next-is) (append-here (pos 0) _ _ _ _ _ _ more c.requires.2 here) ∙ l.invariant.column;
          }
      | else-place-none w ↦
          let not = w.if-place-none.false in
          let same = picked-not 0 c.args.none l.page c.args.places.now c.args.words.now l.j l.next more c.requires.1 not in
          let same-weights = picked-not (pos 0) c.args.none l.column c.args.places.now c.args.weights.now l.j l.next more c.requires.2 not in
          record {
            counted = rw (w.next-is, ← same) l.invariant.counted;
            page = rw (w.page-is, w.next-is, ← same) l.invariant.page;
            column = rw (w.column-is, w.next-is, ← same-weights) l.invariant.column;
          }
    ]

pub returns : goal.returns
returns c =
    let words-done = picked_none c.args.none c.args.places.now c.args.words.now c.loop-j.j c.loop-j-test.false in
    let weights-done = picked_none c.args.none c.args.places.now c.args.weights.now c.loop-j.j c.loop-j-test.false in (
      omega (arith, c.loop-j.invariant.counted, ap length words-done),
      rw words-done at c.loop-j.invariant.page,
      rw weights-done at c.loop-j.invariant.column,
    )
