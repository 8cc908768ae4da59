-- `pages::gathering::afforded` meets its contract: the words leave enough for what the coefficients ask for besides;
-- zeros say nothing of a word that is not so.
use Rattle.std.proofs.Common.{◌∙◌}
use Rattle.theory.specs.Limits.{degree_limit}
use Rattle.pages.proofs.WordDegrees.{nothing_known}
use Rattle.pages.proofs.GatheredBudgets.{words-dear, then-besides}
use Rattle.pages.proofs.gathering.afforded.Goals as goal

pub returns-in_default : goal.returns-in_default
returns-in_default c = words-dear degree_limit _ _ c.requires _ c.in_default.ensures

pub returns-then-lines-lt-MANY : goal.returns-then-lines-lt-MANY
returns-then-lines-lt-MANY c =
    c.besides.ensures ∙ then-besides degree_limit _ _ c.requires _ _ _ _ c.in-Some.ensures

pub besides-requires-2 : goal.besides-requires-2
besides-requires-2 c = (c.requires, (nothing_known 229).of-shapes)

pub returns : goal.returns
returns c = c.besides-2.ensures ∙ then-besides degree_limit _ _ c.requires _ _ _ _ c.in-Some.ensures
