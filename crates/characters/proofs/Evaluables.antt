-- Words that the evaluation takes: a pair that is not refused.
use Rattle.theory.specs.Basics.{ℕ}
use Rattle.theory.specs.Digits.{digits, width}
use Rattle.theory.proofs.ShapeWord.Good.{shape-good}
use Rattle.theory.specs.ClassWord.{class_of}
use Rattle.theory.proofs.ClassWord.Laws.{parts-no-zero}
use Rattle.theory.specs.Refusals.Laws.{Matched}
use Rattle.characters.specs.Private.Evaluation.{Evaluable}

pub pair-evaluable : {limit s c : ℕ} → Matched limit s c → Evaluable limit s (class_of c)
pair-evaluable {c = c} m = record {
  good = shape-good m.shape.good;
  no_zero = parts-no-zero 0 (digits width c);
  degrees = m.degrees;
  small = m.class.small;
}
