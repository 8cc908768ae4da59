-- What the fold has told of all elements is `every` of them.
use Rattle.std.proofs.Common.{◌∙◌, ◌&&◌, true, rules}
use Rattle.std.proofs.lemmas.Iterator.{YieldsList-from_slice}
use Rattle.std.proofs.lemmas.Iterator.Consumers.{fold_from_yields_List}
use Rattle.clearing.proofs.Zeros.{fold-every}
use Rattle.clearing.proofs.block_is_clear.Goals as goal

pub returns : goal.returns
returns g c =
    fold_from_yields_List
    _
    (λ b x. b && g.T.Zero.is_zero x)
    true
    c.fold.result
    c.fold.ensures.ran
    (YieldsList-from_slice c.args.block.now cc)
    (λ b x r q k. search rules)
    ∙ fold-every g.T.Zero.is_zero c.args.block.now
