-- `chartable::read_full` meets its contract. What is counted stands in the buffer, and is what the reader has lost.
use Rattle.std.proofs.Common.{◌≤◌, length, take}
use Rattle.std.specs.Io.Iter.{bytes_remaining}
use Rattle.std.specs.Io.KnownBytes.{Consumes}
use Rattle.chartable.proofs.read_full.Given as goal

abbrev pub invariant-loop-count : goal.invariant-loop-count
invariant-loop-count g l =
    (l.count ≤ length l.buffer)
    × Consumes (g.R.Read.remaining l.fn.reader) (bytes_remaining g.R.Read.remaining l.bytes) (take l.count l.buffer)
