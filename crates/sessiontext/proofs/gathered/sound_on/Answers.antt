-- The lines are put down, and exactly they are judged.
use Rattle.std.proofs.Common.{arith, length, length-drop, drop, ◌-◌, ◌∙◌}
use lib.Seq.{take_all}
use Rattle.words.proofs.Told.{ok-number}
use Rattle.sessiontext.proofs.GatheredLoading.{judged}
use Rattle.sessiontext.proofs.gathered.sound_on.Goals as goal

pub returns : goal.returns
returns c =
    let t = c.requires.all_formed in
    let left = drop c.args.start c.args.text.now in
    let whole =
    take_all (length c.args.text.now - c.args.start) left (omega (arith, length-drop c.args.start c.args.text.now)) in
    c.is_ok.ensures.value ∙ ok-number c.refusal.result
    ∙ judged c.args.slip _ t.count c.requires.lines_in_bounds.0 c.requires.lines_in_bounds.1 (rw whole at c.put.ensures)
    t.formed t.few t.mode c.refusal.ensures
