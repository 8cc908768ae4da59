-- What the call for a column promises (document 01, "Listing", "Order"): it writes to the front of a lent column. The
-- limit on degrees comes first.
use Rattle.theory.specs.Basics.{List, ℕ, ℤ}
use Rattle.theory.specs.ClassWord.{class_of}
use Rattle.theory.specs.Column.{column}
use Rattle.theory.specs.Refusals.{class_checks, no-14}
use Rattle.words.specs.Answers.{written, CountAnswer}

module _ (limit : ℕ) where
  unfoldable pub column_into : ℕ → List ℤ → CountAnswer × List ℤ
  column_into c values = written (class_checks limit c) no-14 (column (class_of c)) values
