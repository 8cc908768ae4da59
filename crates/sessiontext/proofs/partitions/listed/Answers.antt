-- The list is written out and compared with the line.
use Rattle.std.proofs.Common.{refl, ◌∙◌, sym}
use Rattle.sessiontext.proofs.Own.{own-count}
use Rattle.sessiontext.proofs.Told.{compared-own}
use Rattle.sessiontext.proofs.Lists.{many-parts, limit_same}
use Rattle.sessiontext.proofs.ListLines.{list-unread, list-own, list-told}
use Rattle.sessiontext.proofs.partitions.listed.Goals as goal

pub returns-in_err-parts : goal.returns-in_err-parts
returns-in_err-parts g c =
    rw c.from_residual.ensures (list-unread c.args.name.now _ (many-parts c.args.line.now c.in_err-parts.ensures))

pub returns-in_err-word : goal.returns-in_err-word
returns-in_err-word g c =
    let none = rw c.in_ok-parts.ensures at c.in_err-word.ensures in
    rw c.from_residual-in_err-word.ensures
    (list-unread c.args.name.now _ (sym (limit_same c.args.line.now) ∙ none))

pub slice_bounds-own-end : goal.slice_bounds-own-end
slice_bounds-own-end g c =
    (list-own c.args.name.now _ c.in_ok-parts.ensures c.in_ok-word.ensures.0 c.requires c.line-end.ensures refl).inside

pub slice_bounds-same-end : goal.slice_bounds-same-end
slice_bounds-same-end g c =
    own-count
    (list-own c.args.name.now _ c.in_ok-parts.ensures c.in_ok-word.ensures.0 c.requires c.line-end.ensures refl)

pub returns : goal.returns
returns g c =
    let parts = c.in_ok-parts.ensures in
    let read = c.in_ok-word.ensures in
    let line = list-own c.args.name.now c.args.line.now parts read.0 c.requires c.line-end.ensures refl in
    list-told c.args.name.now c.args.line.now parts read.0 g.N.Notation.word_of read.1
    (compared-own c.same.ensures line) c.then_some.ensures
