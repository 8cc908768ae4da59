-- What has a class word, and what is a good one (document 01, "Class word").
--   Held ps       ps is a partition whose digits have room in a word: its degree is at most 31
--   GoodClass w   w is a good class word, as a record
use Rattle.std.specs.Prelude.{◌≡◌, ◌≤◌, ◌<◌, ◌^◌}
use Rattle.theory.specs.Basics.{true, ℕ}
use Rattle.theory.specs.Partition.{Parts, is_partition, degree}
use Rattle.theory.specs.Digits.{width}
use Rattle.theory.specs.ClassWord.{class_of}

pub record Held (ps : Parts) : Type 0 where
  pub partition : is_partition ps ≡ true
  pub room : degree ps ≤ width

pub record GoodClass (w : ℕ) : Type 0 where
  pub below : w < 2 ^ width
  pub partition : is_partition (class_of w) ≡ true
