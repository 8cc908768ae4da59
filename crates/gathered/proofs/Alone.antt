-- A line of the gathered mode by itself is sound as the one line of a plain session, on a page of its word and zeros.
--   paged k x   a page of the word x and k zeros behind it
use Rattle.std.specs.Prelude.{◌∷◌, ◌/◌, ◌%◌, ◌^◌}
use mathlib.Core.Path.{◌≡◌, refl}
use Prim.Native.Nat.{◌≤◌, ◌<◌}
use native.Mathlib.Nat.{le_refl}
use native.Mathlib.Omega.{arith}
use borrow.Author.Tests.{le-ltb, ne_eqb}
use lib.ListN.{length-replicate}
use Rattle.theory.specs.Basics.{true, false, List, [], length, replicate, ℕ, zero, suc, ℤ, nat_abs}
use Rattle.theory.specs.Basics.{◌=?◌, every}
use Rattle.theory.specs.Digits.{bit}
use Rattle.theory.specs.Limits.{page_limit}
use Rattle.theory.proofs.ShapeWord.Good.{good-shape}
use Rattle.theory.proofs.ClassWord.Laws.{good-class}
use Rattle.theory.specs.Refusals.{first_of}
use Rattle.pages.specs.Page.{line_of}
use Rattle.pages.specs.Page.Words.{unit-weight}
use Rattle.pages.specs.Mode.{weighted, unit, plain_mode}
use Rattle.pages.specs.Sound.{page_checks}
use Rattle.pages.specs.Sound.Laws.{SoundLine, SoundLines, SoundIn, sound-is}
use Rattle.gathered.specs.Private.Alone.{alone}

abbrev pub paged : ℕ → ℕ → List ℕ
paged k x = x ∷ replicate k 0

zeros-idle : (k : ℕ) → every (◌=? 0) (replicate k 0) ≡ true
zeros-idle zero = refl
zeros-idle (suc k) = zeros-idle k

module _ {n : ℕ} (x : ℕ) (z : ℤ) (s : SoundLine n (weighted x z)) where
  -- the sign digit of a sound line's word is clear
  pub shape-fits : x / 2 ^ 32 < 2 ^ 31
  shape-fits = omega (arith, (good-shape (x / 2 ^ 32) s.shape).below)

  -- so the plain line of the word is the line without its coefficient
  pub own_line : line_of x ≡ unit (weighted x z)
  own_line =
      let plus : bit 63 x ≡ false = ne_eqb (x / 2 ^ 63 % 2) 1 (λ e. omega (arith, shape-fits)) in
      let shape : x / 2 ^ 32 % 2 ^ 31 ≡ x / 2 ^ 32 = omega (arith, shape-fits) in
      rw (plus, shape)

  pub own-sound : SoundLine n (line_of x)
  own-sound = rw own_line
      (record { shape = s.shape; class = s.class; degrees = s.degrees; some = s.some; within = s.within })

  module _ (limit : ℕ) (small : n ≤ limit) where
    pub alone-lines : SoundLines limit (alone x) (line_of x ∷ [])
    alone-lines =
        let o = own-sound in
        let one : nat_abs (line_of x).weight ≡ 1 = unit-weight x in
        record {
          words = record {
            shape = record { good = good-shape (line_of x).shape o.shape; small = omega (arith, o.within) };
            class = record {
              good = good-class (line_of x).class o.class;
              small = omega (arith, o.within, o.degrees);
            };
            degrees = o.degrees;
          };
          each = (
            record { shape = o.shape; class = o.class; degrees = o.degrees; some = o.some; within = le_refl _ },
            tt,
          );
          value = rw one (omega arith);
          forward = refl;
          span = omega arith;
        }

    pub alone-sound : (k : ℕ) → SoundIn plain_mode limit (alone x) (paged k x)
    alone-sound k = record {
      mode = refl;
      fit = omega arith;
      idle = zeros-idle k;
      stands = refl;
      lines = alone-lines;
    }

    -- so neither 6 nor 7 refuses it
    pub alone-passes : (k : ℕ) → k < page_limit → first_of (page_checks limit (alone x) (paged k x)) ≡ 0
    alone-passes k short = rw (
      le-ltb page_limit (length (paged k x)) (omega (arith, length-replicate {A = ℕ} k 0)),
      sound-is plain_mode limit (alone x) (paged k x) (alone-sound k),
    )
