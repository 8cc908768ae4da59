-- A name, a value and a newline, one behind the other.
use Rattle.std.proofs.Common.{◌≤◌, length, arith}
use Rattle.text.specs.Wrote.{most}
use Rattle.text.specs.Wrote.Laws.{wrote_then}
use Rattle.text.proofs.fields.line.Goals as goal

pub returns : goal.returns
returns g c =
    let room : length c.args.out.now ≤ most = omega arith in
    wrote_then (wrote_then c.put-end.ensures room c.write-end.ensures) room c.byte.ensures
