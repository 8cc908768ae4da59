-- `sessiontext::weighted::line`: a name, the coefficient and what stands behind it.
use Rattle.std.specs.Prelude.{◌≡◌, ◌/◌, ◌%◌, ◌^◌}
use Rattle.std.proofs.Common.{arith}
use borrow.Author.Rules.{rules}
use mir.Facts.{to_z-of_z}
use mir.Syntax.{w64}
use mir.Val.{to_z, of_z}
use Rattle.text.specs.Wrote.Laws.{wrote_then}
use Rattle.sessiontext.specs.SessionText.Laws.{weighted-parts}
use Rattle.sessiontext.proofs.weighted.line.Goals as goal

pub returns : goal.returns
returns c =
    let x = c.args.coefficient in
    -- the word of a good line has a clear sign digit
    let clear : c.args.line / 2 ^ 32 % 2 ^ 31 ≡ c.args.line / 2 ^ 32 = omega (arith, c.requires.shape.good.below) in
    -- the coefficient as it is handed on
    let handed : to_z w64 (of_z w64 x) ≡ x = to_z-of_z {w = w64} (search rules) in
    rw (weighted-parts _ _ _)
    (wrote_then (wrote_then c.put-end.ensures (omega arith) (rw handed at c.write-end.ensures)) (omega arith)
    (rw clear at c.words_behind.ensures))
