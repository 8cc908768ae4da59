-- `pages::gathering::cost` meets its contract: a word's degree is within the limit.
use Rattle.std.proofs.Common.{arith}
use Rattle.theory.specs.Limits.{degree_limit}
use Rattle.pages.proofs.WordDegrees.{word_small}
use Rattle.pages.proofs.gathering.cost.Goals as goal

pub factorial-requires : goal.factorial-requires
factorial-requires c = omega (arith, word_small degree_limit, c.word_degree.ensures.0)
