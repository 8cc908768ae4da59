-- Each line is read where it stands.
use Rattle.std.proofs.Common.{sym, ◌∙◌, ap, arith}
use Rattle.std.proofs.lemmas.Result.{err_from_is_err_and}
use lib.Seq.{length-take-le}
use Rattle.theory.specs.Basics.{length}
use Rattle.textreading.specs.Reading.{lines_of}
use Rattle.sessiontext.proofs.Told.{err-told}
use Rattle.sessiontext.proofs.Heads.{six, ends, line-1, line-2, line-3, line-4, line-5, line-6, rest, rest-whole}
use Rattle.sessiontext.proofs.Heads.{at-fault, no-degree, no-shape, other-degree, no-class, no-steps, no-settled}
use Rattle.sessiontext.proofs.Heads.{no-count, head_read, steps-kept, settled-kept}
use Rattle.sessiontext.proofs.reading.head.Goals as goal

pub slice_bounds-number-end-2 : goal.slice_bounds-number-end-2
slice_bounds-number-end-2 c =
    let t = c.args.text.now in
    let six = six c.args.text.now c.line_end-shape_at.ensures c.line_end-class_at.ensures c.line_end-steps_at.ensures
    c.line_end-settled_at.ensures c.line_end-count_at.ensures c.line_end-end.ensures in
    sym (length-take-le _ _ (ends t six).0)

pub returns-in_err-degree : goal.returns-in_err-degree
returns-in_err-degree c =
    let t = c.args.text.now in
    let six = six c.args.text.now c.line_end-shape_at.ensures c.line_end-class_at.ensures c.line_end-steps_at.ensures
    c.line_end-settled_at.ensures c.line_end-count_at.ensures c.line_end-end.ensures in
    let p = err_from_is_err_and c.from_residual.result c.from_residual.ensures.1 in
    let none = c.in_err-degree.ensures.ok_part in
    let test = rw (none, line-1 t six) at c.number.ensures in
    rw (p.1, p.2, err-told none c.in_err-degree.ensures.value)
    (at-fault t (omega arith) (no-degree t test))

pub slice_bounds-shape-end : goal.slice_bounds-shape-end
slice_bounds-shape-end c =
    let t = c.args.text.now in
    let six = six c.args.text.now c.line_end-shape_at.ensures c.line_end-class_at.ensures c.line_end-steps_at.ensures
    c.line_end-settled_at.ensures c.line_end-count_at.ensures c.line_end-end.ensures in
    (ends t six).1

pub returns-in_err-shape : goal.returns-in_err-shape
returns-in_err-shape c =
    let t = c.args.text.now in
    let six = six c.args.text.now c.line_end-shape_at.ensures c.line_end-class_at.ensures c.line_end-steps_at.ensures
    c.line_end-settled_at.ensures c.line_end-count_at.ensures c.line_end-end.ensures in
    let d = rw (c.in_ok-degree.ensures.ok_part, line-1 t six) at c.number.ensures in
    let p = err_from_is_err_and c.from_residual-in_err-shape.result c.from_residual-in_err-shape.ensures.1 in
    let none = c.in_err-shape.ensures.ok_part in
    let test = rw (none, line-2 t six) at c.shape.ensures in
    rw (p.1, p.2, err-told none c.in_err-shape.ensures.value)
    (at-fault t (omega arith) (no-shape t d.0 test))

pub returns-then-degree-shape : goal.returns-then-degree-shape
returns-then-degree-shape c =
    let t = c.args.text.now in
    let six = six c.args.text.now c.line_end-shape_at.ensures c.line_end-class_at.ensures c.line_end-steps_at.ensures
    c.line_end-settled_at.ensures c.line_end-count_at.ensures c.line_end-end.ensures in
    let d = rw (c.in_ok-degree.ensures.ok_part, line-1 t six) at c.number.ensures in
    let s = rw (c.in_ok-shape.ensures.ok_part, line-2 t six) at c.shape.ensures in
    at-fault t (omega arith) (other-degree t d.0 s.0 (λ e. c.if-degree-shape.true (d.1 ∙ e ∙ sym s.2)))

pub slice_bounds-class-end : goal.slice_bounds-class-end
slice_bounds-class-end c =
    let t = c.args.text.now in
    let six = six c.args.text.now c.line_end-shape_at.ensures c.line_end-class_at.ensures c.line_end-steps_at.ensures
    c.line_end-settled_at.ensures c.line_end-count_at.ensures c.line_end-end.ensures in
    (ends t six).2

pub returns-in_err-class : goal.returns-in_err-class
returns-in_err-class c =
    let t = c.args.text.now in
    let six = six c.args.text.now c.line_end-shape_at.ensures c.line_end-class_at.ensures c.line_end-steps_at.ensures
    c.line_end-settled_at.ensures c.line_end-count_at.ensures c.line_end-end.ensures in
    let d = rw (c.in_ok-degree.ensures.ok_part, line-1 t six) at c.number.ensures in
    let s = rw (c.in_ok-shape.ensures.ok_part, line-2 t six) at c.shape.ensures in
    let same = sym d.1 ∙ c.if-degree-shape.false ∙ s.2 in
    let p = err_from_is_err_and c.from_residual-in_err-class.result c.from_residual-in_err-class.ensures.1 in
    let none = c.in_err-class.ensures.ok_part in
    let test = rw (none, line-3 t six) at c.class.ensures in
    rw (p.1, p.2, err-told none c.in_err-class.ensures.value)
    (at-fault t (omega arith) (no-class t d.0 s.0 same test))

pub slice_bounds-steps-end : goal.slice_bounds-steps-end
slice_bounds-steps-end c =
    let t = c.args.text.now in
    let six = six c.args.text.now c.line_end-shape_at.ensures c.line_end-class_at.ensures c.line_end-steps_at.ensures
    c.line_end-settled_at.ensures c.line_end-count_at.ensures c.line_end-end.ensures in
    (ends t six).3

pub returns-in_err-steps : goal.returns-in_err-steps
returns-in_err-steps c =
    let t = c.args.text.now in
    let six = six c.args.text.now c.line_end-shape_at.ensures c.line_end-class_at.ensures c.line_end-steps_at.ensures
    c.line_end-settled_at.ensures c.line_end-count_at.ensures c.line_end-end.ensures in
    let d = rw (c.in_ok-degree.ensures.ok_part, line-1 t six) at c.number.ensures in
    let s = rw (c.in_ok-shape.ensures.ok_part, line-2 t six) at c.shape.ensures in
    let k = rw (c.in_ok-class.ensures.ok_part, line-3 t six) at c.class.ensures in
    let same = sym d.1 ∙ c.if-degree-shape.false ∙ s.2 in
    let p = err_from_is_err_and c.from_residual-in_err-steps.result c.from_residual-in_err-steps.ensures.1 in
    let none = c.in_err-steps.ensures.ok_part in
    let test = rw (none, line-4 t six) at c.steps.ensures in
    rw (p.1, p.2, err-told none c.in_err-steps.ensures.value)
    (at-fault t (omega arith) (no-steps t d.0 s.0 same k.0 test))

pub slice_bounds-settled-end : goal.slice_bounds-settled-end
slice_bounds-settled-end c =
    let t = c.args.text.now in
    let six = six c.args.text.now c.line_end-shape_at.ensures c.line_end-class_at.ensures c.line_end-steps_at.ensures
    c.line_end-settled_at.ensures c.line_end-count_at.ensures c.line_end-end.ensures in
    (ends t six).4

pub returns-in_err-settled : goal.returns-in_err-settled
returns-in_err-settled c =
    let t = c.args.text.now in
    let six = six c.args.text.now c.line_end-shape_at.ensures c.line_end-class_at.ensures c.line_end-steps_at.ensures
    c.line_end-settled_at.ensures c.line_end-count_at.ensures c.line_end-end.ensures in
    let d = rw (c.in_ok-degree.ensures.ok_part, line-1 t six) at c.number.ensures in
    let s = rw (c.in_ok-shape.ensures.ok_part, line-2 t six) at c.shape.ensures in
    let k = rw (c.in_ok-class.ensures.ok_part, line-3 t six) at c.class.ensures in
    let n = rw (c.in_ok-steps.ensures.ok_part, line-4 t six) at c.steps.ensures in
    let same = sym d.1 ∙ c.if-degree-shape.false ∙ s.2 in
    let p = err_from_is_err_and c.from_residual-in_err-settled.result c.from_residual-in_err-settled.ensures.1 in
    let none = c.in_err-settled.ensures.ok_part in
    let test = rw (none, line-5 t six) at c.settled.ensures in
    rw (p.1, p.2, err-told none c.in_err-settled.ensures.value)
    (at-fault t (omega arith) (no-settled t d.0 s.0 same k.0 n.0 test))

pub slice_bounds-line_count-count : goal.slice_bounds-line_count-count
slice_bounds-line_count-count c =
    let t = c.args.text.now in
    let six = six c.args.text.now c.line_end-shape_at.ensures c.line_end-class_at.ensures c.line_end-steps_at.ensures
    c.line_end-settled_at.ensures c.line_end-count_at.ensures c.line_end-end.ensures in
    (ends t six).5

pub slice_bounds-line_count-start : goal.slice_bounds-line_count-start
slice_bounds-line_count-start c =
    let t = c.args.text.now in
    let six = six c.args.text.now c.line_end-shape_at.ensures c.line_end-class_at.ensures c.line_end-steps_at.ensures
    c.line_end-settled_at.ensures c.line_end-count_at.ensures c.line_end-end.ensures in
    (ends t six).5

pub slice_bounds-counts-end : goal.slice_bounds-counts-end
slice_bounds-counts-end c =
    let t = c.args.text.now in
    let six = six c.args.text.now c.line_end-shape_at.ensures c.line_end-class_at.ensures c.line_end-steps_at.ensures
    c.line_end-settled_at.ensures c.line_end-count_at.ensures c.line_end-end.ensures in
    (ends t six).5

pub returns-then-not-counts : goal.returns-then-not-counts
returns-then-not-counts c =
    let t = c.args.text.now in
    let six = six c.args.text.now c.line_end-shape_at.ensures c.line_end-class_at.ensures c.line_end-steps_at.ensures
    c.line_end-settled_at.ensures c.line_end-count_at.ensures c.line_end-end.ensures in
    let d = rw (c.in_ok-degree.ensures.ok_part, line-1 t six) at c.number.ensures in
    let s = rw (c.in_ok-shape.ensures.ok_part, line-2 t six) at c.shape.ensures in
    let k = rw (c.in_ok-class.ensures.ok_part, line-3 t six) at c.class.ensures in
    let n = rw (c.in_ok-steps.ensures.ok_part, line-4 t six) at c.steps.ensures in
    let z = rw (c.in_ok-settled.ensures.ok_part, line-5 t six) at c.settled.ensures in
    let same = sym d.1 ∙ c.if-degree-shape.false ∙ s.2 in
    let count =
    c.line_count-lines.ensures ∙ ap (λ u. length (lines_of u)) (rest-whole t six) ∙ ap length (rest t six) in
    let told = rw (line-6 t six) at c.counts.ensures in
    at-fault t (omega arith) (no-count t d.0 s.0 same k.0 n.0 z.0 count (sym told ∙ c.if-not-counts.true))

pub returns : goal.returns
returns c =
    let t = c.args.text.now in
    let six = six c.args.text.now c.line_end-shape_at.ensures c.line_end-class_at.ensures c.line_end-steps_at.ensures
    c.line_end-settled_at.ensures c.line_end-count_at.ensures c.line_end-end.ensures in
    let d = rw (c.in_ok-degree.ensures.ok_part, line-1 t six) at c.number.ensures in
    let s = rw (c.in_ok-shape.ensures.ok_part, line-2 t six) at c.shape.ensures in
    let k = rw (c.in_ok-class.ensures.ok_part, line-3 t six) at c.class.ensures in
    let n = rw (c.in_ok-steps.ensures.ok_part, line-4 t six) at c.steps.ensures in
    let z = rw (c.in_ok-settled.ensures.ok_part, line-5 t six) at c.settled.ensures in
    let same = sym d.1 ∙ c.if-degree-shape.false ∙ s.2 in
    let count =
    c.line_count-lines.ensures ∙ ap (λ u. length (lines_of u)) (rest-whole t six) ∙ ap length (rest t six) in
    let told = rw (line-6 t six) at c.counts.ensures in
    rw (settled-kept t z.0 z.1, steps-kept t n.0 n.1)
    (head_read t d.0 s.0 same k.0 n.0 z.0 count (sym told ∙ c.if-not-counts.false) six s.1 k.1 z.1 n.1)
