-- `oldlists::forms::moved`: where no word is refused, each word is written.
use Rattle.std.proofs.Common.{sym, ap}
use Rattle.theory.specs.Limits.{degree_limit}
use Rattle.oldlists.specs.Lists.{ListAnswer}
use Rattle.oldlists.specs.Private.Forms.{form_checks}
use Rattle.oldlists.proofs.Lists.Laws.{none-bad}
use Rattle.oldlists.proofs.forms.moved.Goals as goal

pub write-requires : goal.write-requires
write-requires c =
    let none = sym (ap (λ (r : ListAnswer). r.refused) c.in_ok-first_bad.ensures) in
    (c.if-given-lent.false, none-bad (form_checks degree_limit c.args.form) 0 c.args.given.now none)
