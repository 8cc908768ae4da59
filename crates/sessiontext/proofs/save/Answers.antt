-- `sessiontext::save`: slip and page are judged, then the room, and only then the text is written.
use Rattle.std.proofs.Common.{◌≡◌, List, ℕ, sym, ◌∙◌, arith}
use Rattle.std.proofs.lemmas.Result.{err_from_is_err_and}
use lib.Seq.{length-take-le}
use borrow.Author.Tests.{leb-true, leb-false}
use Rattle.theory.specs.Limits.{degree_limit}
use Rattle.theory.specs.Refusals.{first_of}
use Rattle.words.proofs.Told.{refuses}
use Rattle.pages.specs.declared.Slip.{Slip}
use Rattle.pages.specs.Mode.{plain_mode, waiting}
use Rattle.pages.specs.Sound.{page_checks}
use Rattle.pages.specs.Sound.Laws.{Sound}
use Rattle.pages.specs.Lawful.Plain.{plain-lawful}
use Rattle.pages.specs.Lawful.Checks.{passed-page}
use Rattle.sessiontext.specs.SessionText.Storable.{Storable, sound-storable}
use Rattle.sessiontext.specs.SessionText.Faithful.Plain.{plain-faithful}
use Rattle.sessiontext.proofs.Saving.{page-refuses, room-refuses, saves}
use Rattle.sessiontext.proofs.save.Goals as goal

-- ---- what the judge tells
module _ (slip : Slip) (page : List ℕ) (none : 0 ≡ first_of (page_checks degree_limit slip page)) where
  passed : (first_of (plain_mode.lent_checks page) ≡ 0) × Sound degree_limit slip page
  unfolding plain-lawful
  passed = passed-page plain-lawful degree_limit _ _ (sym none)

  storable : Storable degree_limit slip (waiting slip page)
  storable = sound-storable plain-faithful passed.1 passed.0

pub returns-in_err-refusal : goal.returns-in_err-refusal
returns-in_err-refusal c =
    let p = err_from_is_err_and c.from_residual.result c.from_residual.ensures.1 in
    let a = c.args in
    rw (p.1, p.2) (page-refuses plain-faithful a.slip a.page.now a.text.now _ c.in_err-refusal.ensures (refuses _))

pub slice_bounds-has_room-end : goal.slice_bounds-has_room-end
slice_bounds-has_room-end c =
    sym (length-take-le _ _ (passed c.args.slip c.args.page.now c.in_ok-refusal.ensures).1.fit)

pub has_room-requires : goal.has_room-requires
has_room-requires c =
    let a = c.args in
    let (lent, sound) = passed a.slip a.page.now c.in_ok-refusal.ensures in (
      storable a.slip a.page.now c.in_ok-refusal.ensures,
      omega (arith, plain-lawful.short a.page.now lent, sound.fit, length-take-le a.slip.lines a.page.now sound.fit),
    )

pub returns-then-not-has_room : goal.returns-then-not-has_room
returns-then-not-has_room c =
    let a = c.args in
    room-refuses plain-faithful a.slip a.page.now a.text.now (sym c.in_ok-refusal.ensures)
    (leb-false _ _ (sym c.has_room.ensures ∙ c.if-not-has_room.true))

pub slice_bounds-session-end : goal.slice_bounds-session-end
slice_bounds-session-end c =
    sym (length-take-le _ _ (passed c.args.slip c.args.page.now c.in_ok-refusal.ensures).1.fit)

pub session-requires : goal.session-requires
session-requires c = storable c.args.slip c.args.page.now c.in_ok-refusal.ensures

pub returns : goal.returns
returns c =
    let a = c.args in
    saves plain-faithful a.slip a.page.now a.text.now (sym c.in_ok-refusal.ensures)
    (leb-true _ _ (sym c.has_room.ensures ∙ c.if-not-has_room.false)) (omega arith) c.session.ensures
