-- `gathered::own::ratio`: no check refuses the watch of the line by itself.
use Rattle.std.proofs.Common.{◌∙◌, arith}
use native.Mathlib.Nat.{le_refl}
use lib.IntN.{pos}
use Rattle.theory.specs.Limits.{degree_limit}
use Rattle.gathered.proofs.Ratios.{ratio-alone}
use Rattle.gathered.proofs.own.ratio.Goals as goal

pub returns : goal.returns
returns c =
    c.watch.ensures
    ∙ ratio-alone c.args.line (pos 1) c.requires degree_limit (le_refl degree_limit) 0 (omega arith) _ c.alone.ensures
