use Rattle.sessiontext.proofs.Told.{is-told, some-left, none-left}
use Rattle.sessiontext.proofs.AllLines.{behind-line, put_all, put-formed, put-room, put_next}
use Rattle.sessiontext.proofs.waiting.put.Goals as goal

pub unwrap-word-requires : goal.unwrap-word-requires
unwrap-word-requires c =
    is-told c.next.result _ c.next.ensures (put-formed _ _ c.loop-rest.invariant (some-left _ c.loop-rest-test.ensures))

pub bounds-page-count : goal.bounds-page-count
bounds-page-count c = put-room _ _ c.loop-rest.invariant (some-left _ c.loop-rest-test.ensures)

pub loop-rest-smaller : goal.loop-rest-smaller
loop-rest-smaller c =
    let read = rw c.unwrap-word.ensures at c.next.ensures in
    (behind-line read.2 (some-left _ c.loop-rest-test.ensures)).shorter

pub loop-rest-preserved : goal.loop-rest-preserved
loop-rest-preserved c =
    let read = rw c.unwrap-word.ensures at c.next.ensures in
    put_next _ _ c.loop-rest.invariant (some-left _ c.loop-rest-test.ensures) read.1 read.2

pub returns : goal.returns
returns c = put_all _ _ c.loop-rest.invariant (none-left _ c.loop-rest-test.ensures)
