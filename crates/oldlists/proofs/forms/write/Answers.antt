-- No word is left.
use Rattle.std.proofs.Common.{ap}
use Rattle.std.proofs.lemmas.List.{length-map}
use Rattle.theory.specs.Basics.{map}
use Rattle.words.proofs.PartLists.{none_left}
use Rattle.words.proofs.Columns.{put_whole}
use Rattle.oldlists.specs.Private.Forms.{other_form}
use Rattle.oldlists.proofs.forms.write.Goals as goal

pub returns : goal.returns
returns c =
    let none = none_left c.args.given.now c.loop-i.i c.loop-i-test.false in
    put_whole _ _ (rw length-map c.requires.0) c.loop-i.invariant (ap (map (other_form c.args.form)) none)
