-- `sessions::page::exchange` meets its contract: a strip put behind the lines that are left.
use Rattle.sessions.proofs.Pages.{out-and-put}
use Rattle.sessions.proofs.page.exchange.Goals as goal

pub returns : goal.returns
returns c = cc (out-and-put _ _ _ _ c.requires)
