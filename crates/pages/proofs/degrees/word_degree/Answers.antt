-- `pages::degrees::word_degree` meets its contract: what is found is known from then on.
use Rattle.std.proofs.Common.{◌%◌, arith}
use Rattle.theory.specs.Limits.{degree_limit}
use Rattle.pages.specs.Private.Degrees.{word_degree}
use Rattle.pages.proofs.WordDegrees.{word_small, one-more-known}
use Rattle.pages.proofs.degrees.word_degree.Goals as goal

pub returns : goal.returns
returns c =
    let small = word_small degree_limit c.args.kind c.args.word in (
      c.read-degree.ensures,
      one-more-known (word_degree degree_limit c.args.kind) c.args.known.now (c.args.word % 229) c.args.word c.read-degree.result
          c.requires
          c.read-degree.ensures (omega (arith, small, c.read-degree.ensures)),
    )
