use Rattle.std.proofs.lemmas.Result.{err_from_is_err_and}
use Rattle.pages.proofs.Budgets.{enough-told}
use Rattle.sessiontext.proofs.Told.{err-told, some-left, none-left}
use Rattle.sessiontext.proofs.AllLines.{behind-line, judged-all, judged-fault, judged-next}
use Rattle.sessiontext.proofs.waiting.judge.Goals as goal

pub returns-in_err-word : goal.returns-in_err-word
returns-in_err-word c =
    let p = err_from_is_err_and c.from_residual.result c.from_residual.ensures.1 in
    let none = c.in_err-word.ensures.ok_part in
    let number = err-told none c.in_err-word.ensures.value in
    rw (p.1, p.2, number)
    (judged-fault _ _ c.loop-rest.invariant (some-left _ c.loop-rest-test.ensures) (rw none at c.next.ensures))

pub loop-rest-smaller : goal.loop-rest-smaller
loop-rest-smaller c =
    let read = rw c.in_ok-word.ensures.ok_part at c.next.ensures in
    (behind-line read.2 (some-left _ c.loop-rest-test.ensures)).shorter

pub loop-rest-preserved : goal.loop-rest-preserved
loop-rest-preserved c =
    let read = rw c.in_ok-word.ensures.ok_part at c.next.ensures in
    judged-next _ _ c.loop-rest.invariant (some-left _ c.loop-rest-test.ensures) read.0 read.1 read.2 c.spend-left.ensures

pub returns : goal.returns
returns c =
    let all = judged-all _ _ c.loop-rest.invariant (none-left _ c.loop-rest-test.ensures) in
    (all.0, rw (c.is_some.ensures, enough-told c.loop-rest.left) all.1)
