-- How the program's input is read: the number that its digits give is written out and compared with it.
--   none   stands for what is read where the input is no line that asks for a degree
use Rattle.theory.specs.Basics.{ℕ}
pub mod Laws

abbrev pub none : ℕ
none = 100
