-- A reader's measure: how the reader makes it, what it tells a caller, and what a caller answers with it.
--   Measures checks ps m       no check refuses, and the measure m has the degree and the count of the parts ps
--   ClassMeasures limit w m    the same of the class word w, which is then good and within the limit
use mathlib.Core.Path.{◌≡◌, sym}
use Prim.Native.Nat.{◌≤◌}
use native.Mathlib.Omega.{arith}
use borrow.Author.Tests.{ltb-false, not-false}
use Rattle.theory.specs.Basics.{true, List, length, ℕ, ℤ, pos, ◌<?◌}
use Rattle.theory.specs.Partition.{Parts, is_partition, degree}
use Rattle.theory.specs.ClassWord.{class_of}
use Rattle.theory.specs.Bounds.Laws.{largest_limit}
use Rattle.theory.specs.Refusals.{Check, first_of, class_checks}
use Rattle.theory.specs.Refusals.Laws.{WithinClass}
use Rattle.theory.proofs.Refusals.Laws.{none-applies}
use Rattle.theory.proofs.Refusals.Laws.{within-class}
use Rattle.words.specs.declared.Measure.{Measure}
use Rattle.words.specs.Answers.{number_answer, numbered}
use Rattle.words.specs.Answers.{Ok, Err, Refusal, number_of}
use Rattle.words.specs.Private.Reading.{Measured, list_checks, ListWithin}
use Rattle.words.proofs.Told.{refuses}
use Rattle.words.proofs.Answers.{number-refused}

-- ---- how it is made, and what it tells
pub record Measures (checks : List Check) (ps : Parts) (m : Measure) : Type 0 where
  pub none : first_of checks ≡ 0
  pub degree : m.degree ≡ degree ps
  pub count : m.count ≡ length ps

module _ (checks : List Check) (ps : Parts) where
  pub measures : {m : Measure} → Measured checks ps (Ok m) → Measures checks ps m
  measures m = record { none = sym m.refused; degree = m.given.0; count = m.given.1 }

  -- a number that is refused with what the reader refused
  pub number-handed : (z : ℤ) {e : Refusal} → Measured checks ps (Err e)
      → number_answer (number_of e) (pos 0) ≡ numbered checks z
  number-handed z {e} m = number-refused checks z (number_of e) m.refused (refuses e)

-- ---- words and lists that pass
pub record ClassMeasures (limit w : ℕ) (m : Measure) : Type 0 where
  pub found : Measures (class_checks limit w) (class_of w) m
  pub within : WithinClass limit w

pub class-measures : (limit w : ℕ) {m : Measure} → Measured (class_checks limit w) (class_of w) (Ok m)
    → ClassMeasures limit w m
class-measures limit w m =
    let found = measures (class_checks limit w) (class_of w) m in
    record { found = found; within = within-class limit w found.none }

-- up to the largest limit there is room
pub class-fits : {limit w : ℕ} → limit ≤ largest_limit → WithinClass limit w → WithinClass largest_limit w
class-fits l p = record { good = p.good; small = omega arith }

pub list-fits : (limit large : ℕ) (ps : Parts) → limit ≤ largest_limit → 0 <? large ≡ true
    → first_of (list_checks limit large ps) ≡ 0 → ListWithin largest_limit ps
list-fits limit large ps l n e =
    let a = none-applies (list_checks limit large ps) (rw n) e in
    let small = ltb-false limit (degree ps) a.1.0 in
    record { partition = not-false (is_partition ps) a.0; small = omega arith }
