-- After i turns the newlines of the first i bytes are counted.
use Rattle.std.proofs.Common.{◌≡◌, ◌≤◌, ◌+◌, drop}
use Rattle.textreading.proofs.Newlines.{newlines}
use Rattle.textreading.proofs.line_count.Given as goal

abbrev pub invariant-loop-byte : goal.invariant-loop-byte
invariant-loop-byte l =
    (l.count ≤ l.byte-index) × (l.count + newlines (drop l.byte-index l.text) ≡ newlines l.text)
