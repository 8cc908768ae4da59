-- `gathered::joining::saved` meets its contract: the three cases.
use Rattle.std.proofs.Common.{refl, arith}
use Rattle.gathered.proofs.Sizes.{sum-none, sum-some}
use Rattle.gathered.proofs.Loops.{saved-none, saved-two, saved-one}
use Rattle.gathered.proofs.joining.saved.Goals as goal

pub returns-then-column-place : goal.returns-then-column-place
returns-then-column-place c = saved-none _ _ _ c.if-column-place.true

pub returns-then-column-place-eq0 : goal.returns-then-column-place-eq0
returns-then-column-place-eq0 c =
    saved-two _ _ _ c.if-column-place.false
    (sum-none _ c.args.weight _ (omega (arith, c.requires.0 c.args.place, c.requires.1)) refl c.if-column-place-eq0.true)

pub returns : goal.returns
returns c =
    saved-one _ _ _ c.if-column-place.false
    (sum-some _ c.args.weight _ (omega (arith, c.requires.0 c.args.place, c.requires.1)) refl c.if-column-place-eq0.false)
