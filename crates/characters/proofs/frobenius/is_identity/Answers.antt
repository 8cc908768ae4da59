-- `characters::frobenius::is_identity`: the last one is put there once more.
use Rattle.characters.proofs.Identities.{ones-told}
use Rattle.characters.proofs.frobenius.is_identity.Goals as goal

pub overflow_shl-result : goal.overflow_shl-result
overflow_shl-result c = (ones-told _ c.requires.0 c.requires.1).bits

pub returns : goal.returns
returns c = (ones-told _ c.requires.0 c.requires.1).tells
