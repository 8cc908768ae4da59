-- Every line is judged before the first word is written.
use Rattle.std.proofs.Common.{◌≤◌, length, refl, sym, ◌∙◌, ap, arith}
use borrow.Author.Tests.{lt-ltb, le-ltb}
use Rattle.theory.specs.Limits.{degree_limit, page_limit}
use Rattle.pages.specs.Budget.{budget_of}
use Rattle.sessiontext.specs.Reading.{lines_in}
use Rattle.sessiontext.specs.SessionText.{plain_form}
use Rattle.sessiontext.specs.SessionText.Faithful.Plain.{plain-faithful}
use Rattle.sessiontext.specs.Reading.Forms.{formed}
use Rattle.sessiontext.proofs.Loading.{head-fault, lent-refuses, text-faulty, lines-many, lines-unsound, loads}
use Rattle.sessiontext.proofs.Loading.{lines-enough, lines-put, head-count, head-follows, head-rest, head-line-fault}
use Rattle.sessiontext.proofs.load.Goals as goal

pub returns-then-page-gt-PAGE_LIMIT : goal.returns-then-page-gt-PAGE_LIMIT
returns-then-page-gt-PAGE_LIMIT c =
    let page = c.args.page.now in
    rw c.not_loaded.ensures
    (lent-refuses plain-faithful c.args.text.now page 6
    (rw (lt-ltb page_limit (length page) c.if-page-gt-PAGE_LIMIT.true) refl) (λ z. omega arith) refl)

pub returns-in-Err : goal.returns-in-Err
returns-in-Err c =
    let text = c.args.text.now in
    let page = c.args.page.now in
    let fault = c.in-Err.ensures in
    rw c.not_loaded-in-Err.ensures
    (text-faulty plain-faithful text page
    (rw (le-ltb page_limit (length page) c.if-page-gt-PAGE_LIMIT.false) refl)
    (head-fault plain_form text fault.0 fault.1) fault.1)

pub returns-in-Err-judge : goal.returns-in-Err-judge
returns-in-Err-judge c =
    let text = c.args.text.now in
    let page = c.args.page.now in
    let fault = c.in-Err-judge.ensures in
    rw c.not_loaded-in-Err-judge.ensures
    (text-faulty plain-faithful text page
    (rw (le-ltb page_limit (length page) c.if-page-gt-PAGE_LIMIT.false) refl)
    (head-line-fault text c.in-Ok.ensures fault.0) fault.1)

pub returns-then-page-slip : goal.returns-then-page-slip
returns-then-page-slip c =
    let text = c.args.text.now in
    let page = c.args.page.now in
    let head = c.in-Ok.ensures in
    rw c.not_loaded-then-page-slip.ensures
    (lines-many plain-faithful text page (rw (le-ltb page_limit (length page) c.if-page-gt-PAGE_LIMIT.false) refl)
    (head-line-fault text head (sym c.in-Ok-judge.ensures.0)) (rw (head-count text head) at c.if-page-slip.true))

pub returns-then-not-enough : goal.returns-then-not-enough
returns-then-not-enough c =
    let text = c.args.text.now in
    let page = c.args.page.now in
    let head = c.in-Ok.ensures in
    let enough =
    lines-enough text c.in-Ok-judge.ensures.1 (head-rest text head)
    (c.budget.ensures ∙ ap (budget_of degree_limit) head.slip) in
    rw c.not_loaded-then-not-enough.ensures
    (lines-unsound plain-faithful text page (rw (le-ltb page_limit (length page) c.if-page-gt-PAGE_LIMIT.false) refl)
    (head-line-fault text head (sym c.in-Ok-judge.ensures.0)) (rw (head-count text head) at c.if-page-slip.false) enough
    c.if-not-enough.true)

pub put-requires-clause-each : goal.put-requires-clause-each
put-requires-clause-each c =
    let text = c.args.text.now in
    let head = c.in-Ok.ensures in
    rw (head-rest text head)
    (formed plain_form degree_limit text (head-line-fault text head (sym c.in-Ok-judge.ensures.0))).lines

pub put-requires-clause-text_in_bounds : goal.put-requires-clause-text_in_bounds
put-requires-clause-text_in_bounds c =
    let text = c.args.text.now in
    let head = c.in-Ok.ensures in
    rw (head-rest text head) (rw (head-follows text head) at c.if-page-slip.false)

pub returns : goal.returns
returns c =
    let text = c.args.text.now in
    let page = c.args.page.now in
    let head = c.in-Ok.ensures in
    let room : length (lines_in text) ≤ length page = rw (head-count text head) at c.if-page-slip.false in
    let enough =
    lines-enough text c.in-Ok-judge.ensures.1 (head-rest text head)
    (c.budget.ensures ∙ ap (budget_of degree_limit) head.slip) in
    rw head.slip
    (loads plain-faithful text page (rw (le-ltb page_limit (length page) c.if-page-gt-PAGE_LIMIT.false) refl)
    (head-line-fault text head (sym c.in-Ok-judge.ensures.0)) room enough c.if-not-enough.false
    (lines-put text page c.put.ensures (head-rest text head) (head-count text head) c.clear.ensures room))
