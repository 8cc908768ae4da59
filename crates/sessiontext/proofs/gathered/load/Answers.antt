-- Every line is judged before the first word is written.
use Rattle.std.proofs.Common.{length, refl, sym, arith}
use borrow.Author.Tests.{lt-ltb, le-ltb, ne_eqb}
use Rattle.theory.specs.Limits.{page_limit}
use Rattle.pages.specs.Mode.{gathered_mode}
use Rattle.pages.specs.Lawful.Gathered.{lent-passes}
use Rattle.sessiontext.specs.SessionText.{gathered_form}
use Rattle.sessiontext.specs.SessionText.Faithful.Gathered.{gathered-faithful}
use Rattle.sessiontext.proofs.Loading.{head-fault, lent-refuses, text-faulty, lines-many, lines-unsound, loads}
use Rattle.sessiontext.proofs.GatheredLoading.{left-whole, left-rest, left-lines, left-count, lines-count, left-fault}
use Rattle.sessiontext.proofs.GatheredLoading.{left-formed, left-taken, put-down}
use Rattle.sessiontext.proofs.gathered.load.Goals as goal

pub returns-then-page-gt-PAGE_LIMIT : goal.returns-then-page-gt-PAGE_LIMIT
returns-then-page-gt-PAGE_LIMIT c =
    let page = c.args.page.now in
    rw c.not_loaded.ensures
    (lent-refuses gathered-faithful c.args.text.now (page, c.args.coefficients.now) 6
    (rw (lt-ltb page_limit (length page) c.if-page-gt-PAGE_LIMIT.true) refl) (λ z. omega arith) refl)

pub returns-then-page-coefficients : goal.returns-then-page-coefficients
returns-then-page-coefficients c =
    let page = c.args.page.now in
    let column = c.args.coefficients.now in
    rw c.not_loaded-then-page-coefficients.ensures
    (lent-refuses gathered-faithful c.args.text.now (page, column) 21
    (rw (
      le-ltb page_limit (length page) c.if-page-gt-PAGE_LIMIT.false,
      ne_eqb (length page) (length column) c.if-page-coefficients.true,
    ) refl) (λ z. omega arith) refl)

pub returns-in-Err : goal.returns-in-Err
returns-in-Err c =
    let text = c.args.text.now in
    let lent : gathered_mode.Lent = (c.args.page.now, c.args.coefficients.now) in
    let passes = lent-passes lent.0 lent.1 c.if-page-gt-PAGE_LIMIT.false c.if-page-coefficients.false in
    let fault = c.in-Err.ensures in
    rw c.not_loaded-in-Err.ensures
    (text-faulty gathered-faithful text lent passes (head-fault gathered_form text fault.0 fault.1) fault.1)

pub returns-in-Some : goal.returns-in-Some
returns-in-Some c =
    let text = c.args.text.now in
    let lent : gathered_mode.Lent = (c.args.page.now, c.args.coefficients.now) in
    let passes = lent-passes lent.0 lent.1 c.if-page-gt-PAGE_LIMIT.false c.if-page-coefficients.false in
    let fault = c.in-Some.ensures in
    rw c.not_loaded-in-Some.ensures
    (text-faulty gathered-faithful text lent passes (left-fault text c.in-Ok.ensures fault.0) fault.1)

pub returns-then-page-slip : goal.returns-then-page-slip
returns-then-page-slip c =
    let text = c.args.text.now in
    let lent : gathered_mode.Lent = (c.args.page.now, c.args.coefficients.now) in
    let passes = lent-passes lent.0 lent.1 c.if-page-gt-PAGE_LIMIT.false c.if-page-coefficients.false in
    let head = c.in-Ok.ensures in
    rw c.not_loaded-then-page-slip.ensures
    (lines-many gathered-faithful text lent passes (left-fault text head (sym c.in_default.ensures))
    (rw (lines-count text head) at c.if-page-slip.true))

pub sound-requires : goal.sound-requires
sound-requires c =
    left-taken c.args.text.now c.in-Ok.ensures c.in_default.ensures c.args.page.now c.if-page-slip.false c.if-page-gt-PAGE_LIMIT.false

pub returns-then-not-sound : goal.returns-then-not-sound
returns-then-not-sound c =
    let text = c.args.text.now in
    let lent : gathered_mode.Lent = (c.args.page.now, c.args.coefficients.now) in
    let passes = lent-passes lent.0 lent.1 c.if-page-gt-PAGE_LIMIT.false c.if-page-coefficients.false in
    let head = c.in-Ok.ensures in
    rw c.not_loaded-then-not-sound.ensures
    (lines-unsound gathered-faithful text lent passes (left-fault text head (sym c.in_default.ensures))
    (rw (lines-count text head) at c.if-page-slip.false)
    (rw (head.slip, left-lines text head) at c.sound.ensures) c.if-not-sound.true)

pub put-requires-clause-each : goal.put-requires-clause-each
put-requires-clause-each c =
    let text = c.args.text.now in
    let head = c.in-Ok.ensures in
    rw (left-rest text head) (left-formed text head c.in_default.ensures)

pub put-requires-clause-text_in_bounds : goal.put-requires-clause-text_in_bounds
put-requires-clause-text_in_bounds c =
    let text = c.args.text.now in
    let head = c.in-Ok.ensures in
    (rw (left-rest text head) (rw (left-count text head) at c.if-page-slip.false), c.if-page-coefficients.false)

pub returns : goal.returns
returns c =
    let text = c.args.text.now in
    let lent : gathered_mode.Lent = (c.args.page.now, c.args.coefficients.now) in
    let passes = lent-passes lent.0 lent.1 c.if-page-gt-PAGE_LIMIT.false c.if-page-coefficients.false in
    let head = c.in-Ok.ensures in
    let taken = left-taken text head c.in_default.ensures c.args.page.now c.if-page-slip.false c.if-page-gt-PAGE_LIMIT.false in
    let room = rw (lines-count text head) at c.if-page-slip.false in
    let sound = rw (head.slip, left-lines text head) at c.sound.ensures in
    let put = rw (left-whole text head) at c.put.ensures in
    let down =
    rw (left-lines text head) at
    (put-down c.in-Ok.head.slip _ taken.count c.if-page-slip.false c.if-page-coefficients.false put c.clear.ensures
    c.clear-2.ensures) in
    rw head.slip
    (loads gathered-faithful text lent passes (left-fault text head (sym c.in_default.ensures)) room sound
    c.if-not-sound.false down)
