-- `chartable::main`: the text is no longer than the bytes at whose front it stands.
use Rattle.std.proofs.Common.{arith, sym, length-append, length-take-le}
use Rattle.tabletext.specs.Table.{chartable_into}
use Rattle.chartable.proofs.main.Goals as goal

pub slice_bounds-out-end : goal.slice_bounds-out-end
unfolding chartable_into
slice_bounds-out-end c =
    let o = c.answer-length.ensures in
    rw (o.answers, o.leaves, length-append) (omega arith)

pub slice_bounds-write_all-end : goal.slice_bounds-write_all-end
unfolding chartable_into
slice_bounds-write_all-end c =
    let o = c.answer-length.ensures in
    sym (length-take-le _ _ (rw (o.answers, o.leaves, length-append) (omega arith)))
