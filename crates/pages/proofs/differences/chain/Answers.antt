-- `pages::differences::chain` meets its contract: a remainder is below what it is one of.
use Rattle.std.proofs.Common.{arith}
use Rattle.pages.proofs.Chains.{few-chain, many-chain}
use Rattle.pages.proofs.differences.chain.Goals as goal

pub returns-then-chains-lt-MANY_CHAINS : goal.returns-then-chains-lt-MANY_CHAINS
returns-then-chains-lt-MANY_CHAINS c = (few-chain c.args.chains c.args.word c.if-chains-lt-MANY_CHAINS.true, omega arith)

pub returns : goal.returns
returns c = (many-chain c.args.chains c.args.word c.if-chains-lt-MANY_CHAINS.false, omega arith)
