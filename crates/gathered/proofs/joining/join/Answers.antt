-- `gathered::joining::join` meets its contract: the lines that stay, and the new ones put behind them.
use Rattle.std.proofs.Common.{sym, ◌∙◌, arith}
use Rattle.gathered.proofs.Nexts.{places-long, page-long, column-long, room, appended}
use Rattle.gathered.proofs.joining.join.Goals as goal

pub append-requires : goal.append-requires
append-requires c =
    let j = c.requires in
    let o = c.keep_lines-stay.ensures in (
      page-long _ _ _ _ _ _ _ j o ∙ sym (column-long _ _ _ _ _ _ _ j o),
      places-long _ _ _ _ _ _ _ j,
      places-long _ _ _ _ _ _ _ j ∙ j.able.weighed,
      omega (arith, room _ _ _ _ _ _ _ j o, page-long _ _ _ _ _ _ _ j o),
    )

pub returns : goal.returns
returns c =
    let e = c.append.ensures in
    appended _ _ _ _ _ _ _ c.requires c.keep_lines-stay.ensures e.0 e.1 e.2
