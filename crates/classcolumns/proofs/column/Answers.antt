-- `classcolumns::column`: the class is judged by its degree and the room by the count of partitions, and the parts of
-- the class word are the cycles whose column is written.
use Rattle.std.proofs.Common.{sym, ◌∙◌}
use Rattle.std.proofs.lemmas.Result.{err_from_is_err_and}
use native.Mathlib.Omega.{arith}
use lib.Seq.{length-take-le}
use Rattle.theory.specs.Limits.{degree_limit}
use Rattle.words.proofs.Told.{refuses, given-where, count-told-number}
use Rattle.listing.proofs.Indexes.{section-found}
use Rattle.classcolumns.proofs.ColumnAnswers.{refused-class, class-given, counted, parts-read}
use Rattle.classcolumns.proofs.ColumnAnswers.{short-column, filled-column}
use Rattle.classcolumns.proofs.column.Goals as goal

pub returns-in_err-degree : goal.returns-in_err-degree
returns-in_err-degree c =
    let p = err_from_is_err_and c.from_residual.result c.from_residual.ensures.1 in
    rw (p.1, p.2) (refused-class _ _ _ c.in_err-degree.ensures _ (refuses _))

pub unwrap-count-requires : goal.unwrap-count-requires
unwrap-count-requires c =
    section-found degree_limit _ c.section.result c.section.ensures (class-given c.in_ok-degree.ensures).small

pub returns-then-values-count : goal.returns-then-values-count
returns-then-values-count c =
    let given = class-given c.in_ok-degree.ensures in
    let count = counted given c.args.values.now (rw c.unwrap-count.ensures at c.section.ensures) in
    short-column given _ (omega (arith, count, c.if-values-count.true))

pub slice_bounds-parts-end-2 : goal.slice_bounds-parts-end-2
slice_bounds-parts-end-2 c =
    let read = parts-read (omega arith) (class-given c.in_ok-degree.ensures) _ _ c.parts.ensures in
    let x = given-where c.parts.result (sym (count-told-number c.parts.result) ∙ read.none) in rw (rw x.1 at c.unwrap_or-cycles.ensures) (rw x.1 at read.inside)

pub slice_bounds-write-end : goal.slice_bounds-write-end
slice_bounds-write-end c =
    let read = parts-read (omega arith) (class-given c.in_ok-degree.ensures) _ _ c.parts.ensures in let x = given-where c.parts.result (sym (count-told-number c.parts.result) ∙ read.none) in
    sym (length-take-le _ _ (rw (sym (rw x.1 at c.unwrap_or-cycles.ensures)) at (rw x.1 at read.inside)))

pub write-requires : goal.write-requires
write-requires c =
    let given = class-given c.in_ok-degree.ensures in
    let count = counted given c.args.values.now (rw c.unwrap-count.ensures at c.section.ensures) in
    let read = parts-read (omega arith) given _ _ c.parts.ensures in let x = given-where c.parts.result (sym (count-told-number c.parts.result) ∙ read.none) in let front = rw (sym (rw x.1 at c.unwrap_or-cycles.ensures)) at (rw x.1 at read.front) in
    rw front
    (record {
      cycles = (given.cycles, given.degree);
      degree_in_bounds = rw given.degree (omega (arith, count, c.if-values-count.false));
    })

pub returns : goal.returns
returns c =
    let given = class-given c.in_ok-degree.ensures in
    let count = counted given c.args.values.now (rw c.unwrap-count.ensures at c.section.ensures) in
    let read = parts-read (omega arith) given _ _ c.parts.ensures in let x = given-where c.parts.result (sym (count-told-number c.parts.result) ∙ read.none) in let cycles = rw (sym (rw x.1 at c.unwrap_or-cycles.ensures)) at (rw x.1 at read.front) in
    filled-column given _ (omega (arith, count, c.if-values-count.false)) _ _ count (rw cycles at c.write.ensures)
