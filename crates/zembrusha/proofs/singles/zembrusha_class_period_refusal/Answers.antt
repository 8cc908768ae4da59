-- `zembrusha::singles::zembrusha_class_period_refusal`: it refuses as the checks do.
use Rattle.std.proofs.Common.{sym, ◌∙◌}
use Rattle.theory.specs.Limits.{degree_limit}
use Rattle.words.specs.Calls.Laws.{period-refusal}
use Rattle.words.proofs.Told.{number-told-number}
use Rattle.zembrusha.proofs.singles.zembrusha_class_period_refusal.Goals as goal

pub returns : goal.returns
returns c =
    c.refused.ensures ∙ sym (number-told-number c.period.result) ∙ period-refusal degree_limit _ _ c.period.ensures
