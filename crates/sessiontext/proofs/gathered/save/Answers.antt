-- `sessiontext::gathered::save`: slip, page and coefficients are judged, then the room, and only then the text is
-- written.
use Rattle.std.proofs.Common.{◌≡◌, ◌≤◌, length, take, List, ℕ, sym, ◌∙◌, arith}
use Rattle.std.proofs.lemmas.Result.{err_from_is_err_and}
use lib.Seq.{length-take-le}
use borrow.Author.Tests.{leb-true, leb-false}
use Rattle.theory.specs.Basics.{ℤ}
use Rattle.theory.specs.Limits.{degree_limit, page_limit}
use Rattle.theory.specs.Refusals.{first_of}
use Rattle.words.proofs.Told.{refuses}
use Rattle.pages.specs.declared.Slip.{Slip}
use Rattle.pages.specs.Mode.{gathered_mode, waiting_in}
use Rattle.pages.specs.Sound.{page_checks_in}
use Rattle.pages.specs.Sound.Laws.{SoundIn}
use Rattle.pages.specs.Lawful.Checks.{passed-page}
use Rattle.pages.specs.Lawful.Gathered.{as_long, gathered-lawful}
use Rattle.sessiontext.specs.SessionText.Faithful.Gathered.{gathered-faithful}
use Rattle.sessiontext.specs.SessionText.Storable.{StorableBy, sound-storable}
use Rattle.sessiontext.proofs.Saving.{page-refuses, room-refuses, saves}
use Rattle.sessiontext.proofs.gathered.save.Goals as goal

-- ---- what the judge tells
module _ (slip : Slip) (page : List ℕ) (column : List ℤ)
    (passes : 0 ≡ first_of (page_checks_in gathered_mode degree_limit slip (page, column))) where
  abbrev lent : gathered_mode.Lent
  lent = (page, column)

  passed : (first_of (gathered_mode.lent_checks lent) ≡ 0) × SoundIn gathered_mode degree_limit slip lent
  passed = passed-page gathered-lawful degree_limit slip lent (sym passes)

  page-fits : slip.lines ≤ length page
  page-fits = passed.1.fit

  column_fits : slip.lines ≤ length column
  column_fits = omega (arith, page-fits, (as_long page column passed.0).1)

  many : length (take slip.lines page) ≡ slip.lines
  many = length-take-le slip.lines page page-fits

  as_many : length (take slip.lines page) ≡ length (take slip.lines column)
  as_many = many ∙ sym (length-take-le slip.lines column column_fits)

  few : length (take slip.lines page) ≤ page_limit
  few = omega (arith, many, page-fits, (as_long page column passed.0).0)

  storable : StorableBy gathered-faithful degree_limit slip (waiting_in gathered_mode slip lent)
  storable = sound-storable gathered-faithful passed.1 passed.0

pub returns-in_err-refusal : goal.returns-in_err-refusal
returns-in_err-refusal c =
    let p = err_from_is_err_and c.from_residual.result c.from_residual.ensures.1 in
    let a = c.args in
    rw (p.1, p.2) (page-refuses gathered-faithful a.slip _ a.text.now _ c.in_err-refusal.ensures (refuses _))

pub slice_bounds-has_room-end : goal.slice_bounds-has_room-end
slice_bounds-has_room-end c =
    let a = c.args in
    sym (length-take-le _ _ (page-fits a.slip a.page.now a.coefficients.now c.in_ok-refusal.ensures))

pub slice_bounds-has_room-end-2 : goal.slice_bounds-has_room-end-2
slice_bounds-has_room-end-2 c =
    let a = c.args in
    sym (length-take-le _ _ (column_fits a.slip a.page.now a.coefficients.now c.in_ok-refusal.ensures))

pub has_room-requires : goal.has_room-requires
has_room-requires c =
    let a = c.args in
    let e = c.in_ok-refusal.ensures in (
      as_many a.slip a.page.now a.coefficients.now e,
      storable a.slip a.page.now a.coefficients.now e,
      few a.slip a.page.now a.coefficients.now e,
    )

pub returns-then-not-has_room : goal.returns-then-not-has_room
returns-then-not-has_room c =
    let a = c.args in
    room-refuses gathered-faithful a.slip (a.page.now, a.coefficients.now) a.text.now (sym c.in_ok-refusal.ensures)
    (leb-false _ _ (sym c.has_room.ensures ∙ c.if-not-has_room.true))

pub slice_bounds-session-end : goal.slice_bounds-session-end
slice_bounds-session-end c =
    let a = c.args in
    sym (length-take-le _ _ (page-fits a.slip a.page.now a.coefficients.now c.in_ok-refusal.ensures))

pub slice_bounds-session-end-2 : goal.slice_bounds-session-end-2
slice_bounds-session-end-2 c =
    let a = c.args in
    sym (length-take-le _ _ (column_fits a.slip a.page.now a.coefficients.now c.in_ok-refusal.ensures))

pub session-requires : goal.session-requires
session-requires c =
    let a = c.args in
    let e = c.in_ok-refusal.ensures in
    (as_many a.slip a.page.now a.coefficients.now e, storable a.slip a.page.now a.coefficients.now e)

pub returns : goal.returns
returns c =
    let a = c.args in
    saves gathered-faithful a.slip (a.page.now, a.coefficients.now) a.text.now (sym c.in_ok-refusal.ensures)
    (leb-true _ _ (sym c.has_room.ensures ∙ c.if-not-has_room.false)) (omega arith) c.session.ensures
