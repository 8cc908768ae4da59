-- `sessiontext::gathered::has_room`: so many bytes are enough for any text of so many lines, else a writing on no bytes
-- tells the text's length.
use Rattle.std.specs.Prelude.{◌≡◌}
use Rattle.std.proofs.Common.{sym, ap, arith}
use borrow.Author.Tests.{le-leb}
use Rattle.theory.specs.Basics.{length, ◌≤?◌}
use Rattle.pages.specs.Mode.{alongside}
use Rattle.pages.specs.Lawful.Gathered.{length-alongside}
use Rattle.sessiontext.specs.SessionText.{gathered_form, session_text_by}
use Rattle.sessiontext.specs.SessionText.Room.{gathered-session-short}
use Rattle.sessiontext.proofs.gathered.has_room.Goals as goal

pub returns-then-lines-room : goal.returns-then-lines-room
returns-then-lines-room c =
    let a = c.args in
    let many = length-alongside a.lines.now a.coefficients.now c.requires.0 in
    sym (le-leb _ a.room (omega (arith, gathered-session-short c.requires.1, many, c.if-lines-room.true)))

pub returns : goal.returns
returns c =
    let a = c.args in
    let count : c.session.result ≡ length (session_text_by gathered_form a.slip (alongside a.lines.now a.coefficients.now)) =
    omega (
      arith,
      c.session.ensures.ends,
      gathered-session-short c.requires.1,
      length-alongside a.lines.now a.coefficients.now c.requires.0,
      c.requires.2,
    ) in
    ap (◌≤? a.room) count
