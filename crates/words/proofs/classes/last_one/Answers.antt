-- `words::classes::last_one`: the zeros behind the last one tell the degree.
use Rattle.std.proofs.Common.{sym, ap, ◌∙◌}
use Rattle.theory.specs.Partition.{degree}
use Rattle.theory.specs.ClassWord.{class_of}
use Rattle.theory.proofs.ClassWord.Laws.{parts_none}
use Rattle.theory.proofs.ClassWord.Reading.{degree-told}
use Rattle.words.proofs.classes.last_one.Goals as goal

pub returns-then-word-eq0 : goal.returns-then-word-eq0
returns-then-word-eq0 c = sym (ap (λ w. degree (class_of w)) c.if-word-eq0.true ∙ ap degree (parts_none 0 31))

pub returns : goal.returns
returns c = sym (degree-told 31 c.args.word c.requires)
