-- `sessiontext::has_room`: so many bytes are enough for any text of so many lines, else the text's length is that of
-- the first six lines and of the others.
use Rattle.std.specs.Prelude.{◌≡◌, ◌+◌, ◌++◌}
use Rattle.std.proofs.Common.{sym, ap, arith}
use lib.ListN.{length-map, length-append}
use borrow.Author.Tests.{le-leb}
use Rattle.theory.specs.Basics.{map, length, joined, ◌≤?◌}
use Rattle.pages.specs.Page.{line_of}
use Rattle.sessiontext.specs.SessionText.{plain_form, line_text, session_text}
use Rattle.sessiontext.specs.SessionText.Laws.{asked_text, reached_text, session-parts}
use Rattle.sessiontext.specs.SessionText.Room.{plain-session-short}
use Rattle.sessiontext.proofs.has_room.Goals as goal

count : (c : goal.After-all) → c.head-head.result + c.all.result
    ≡ length (session_text c.args.slip (map line_of c.args.lines.now))
count c =
    let lines = c.args.lines.now in
    let slip = c.args.slip in
    let long = length-map lines line_of in
    let whole = ap length (rw long at (session-parts plain_form slip (map line_of lines))) in
    omega (
      arith,
      whole,
      length-append (asked_text slip ++ reached_text slip (length lines)) (joined line_text (map line_of lines)),
      c.head-head.ensures.ends,
      c.all.ensures,
      plain-session-short c.requires.0,
      c.requires.1,
    )

pub returns-then-lines-room : goal.returns-then-lines-room
returns-then-lines-room c =
    sym
    (le-leb _ c.args.room
    (omega (arith, plain-session-short c.requires.0, length-map c.args.lines.now line_of, c.if-lines-room.true)))

pub overflow_add-result : goal.overflow_add-result
overflow_add-result c =
    omega (arith, count c, plain-session-short c.requires.0, length-map c.args.lines.now line_of, c.requires.1)

pub returns : goal.returns
returns c = ap (◌≤? c.args.room) (count c)
