-- A waiting line as a word (document 01, "Slip and page": "(signed shape word) times 2^32 plus (class word)").
--   Line                its weight, a whole number; its shape word; its class word
--   line_of x            the line of the word x: its weight is 1, or -1 where bit 31 of its shape word is set
--   word_of l            (signed shape word) times 2^32 plus (class word)
--   plain minus s c     a line of this sign, shape word and class word
use Rattle.std.specs.Prelude.{◌+◌, ◌*◌, ◌/◌, ◌%◌, ◌^◌}
use Rattle.std.specs.Int.Signed.{non_neg}
use Rattle.theory.specs.Basics.{Bool, cond, ℕ, ℤ, pos, signed}
use Rattle.theory.specs.Digits.{bit}

pub record Line : Type 0 where
  pub weight : ℤ
  pub shape : ℕ
  pub class : ℕ

abbrev pub line_of : ℕ → Line
line_of x = record { weight = signed (bit 63 x) (pos 1); shape = x / 2 ^ 32 % 2 ^ 31; class = x % 2 ^ 32 }

abbrev pub word_of : Line → ℕ
word_of l = (cond (non_neg l.weight) 0 (2 ^ 31) + l.shape) * 2 ^ 32 + l.class

abbrev pub plain : Bool → ℕ → ℕ → Line
plain minus shape class = record { weight = signed minus (pos 1); shape = shape; class = class }
