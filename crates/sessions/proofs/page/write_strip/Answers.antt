-- `sessions::page::write_strip` meets its contract: a strip copied to a part of the page is pasted there.
use Rattle.std.proofs.Common.{◌∙◌, arith, length}
use Rattle.std.proofs.lemmas.Slice.{put_mid-paste}
use Rattle.sessions.proofs.Pages.{put-strip}
use Rattle.sessions.proofs.page.write_strip.Goals as goal

pub returns : goal.returns
returns c =
    put_mid-paste _ _ _ _ c.args.strip.now (length c.args.strip.now) c.copy_from_slice.ensures.after (omega arith) (omega arith)
    ∙ put-strip _ _ _ c.requires
