-- The first bad word of the list is that of the words not judged yet.
use Rattle.std.specs.Prelude.{◌≡◌}
use Rattle.theory.specs.Basics.{drop}
use Rattle.theory.specs.Limits.{degree_limit}
use Rattle.oldlists.specs.Lists.{first_bad}
use Rattle.oldlists.specs.Private.Forms.{form_checks}
use Rattle.oldlists.proofs.forms.first_bad.Given as goal

abbrev pub invariant-loop-i : goal.invariant-loop-i
invariant-loop-i l =
    first_bad (form_checks degree_limit l.form) 0 l.words
    ≡ first_bad (form_checks degree_limit l.form) l.i (drop l.i l.words)
