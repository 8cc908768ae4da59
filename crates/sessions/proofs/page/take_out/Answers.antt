-- `sessions::page::take_out` meets its contract: later lines are pasted one place further down.
use Rattle.std.proofs.Common.{List, ℕ, ◌-◌, ◌∙◌, ap, arith, add-one}
use Rattle.theory.specs.Basics.{set}
use Rattle.sessions.proofs.Pages.{moved-out}
use Rattle.sessions.proofs.page.take_out.Goals as goal

pub returns : goal.returns
returns c =
    ap (λ (page : List ℕ). set page (c.args.lines - 1) 0) c.copy_within.ensures.after
    ∙ moved-out _ _ _ _ _ _ (add-one c.args.line) (omega arith) (omega arith) c.requires.1
