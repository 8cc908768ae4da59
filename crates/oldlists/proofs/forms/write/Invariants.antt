-- The first words stand in their places; those left go to the places behind.
use Rattle.theory.specs.Basics.{map, drop}
use Rattle.words.proofs.Columns.{Putting}
use Rattle.oldlists.specs.Private.Forms.{other_form}
use Rattle.oldlists.proofs.forms.write.Given as goal

abbrev pub invariant-loop-i : goal.invariant-loop-i
invariant-loop-i l =
    Putting (map (other_form l.form) l.given) l.fn.lent l.lent l.i (map (other_form l.form) (drop l.i l.given))
