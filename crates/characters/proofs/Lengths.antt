-- The lengths of the hooks of a word are multiplied one by one. What is left over has no 0 among its factors, so that
-- no product on the way is above the whole one, which divides n!.
--   Multiplied whole h left all       the product `all` and h for each place of the marks `left` are the whole
--   Next whole h left all z one       the next of these: the highest mark counts `one`
--   Divides s so_far lengths h        so far h!, and the lengths up to h of the hooks of the word s
--   NextLength s so_far lengths h     the same with a further length h
--   Quotient s so_far lengths         n! and all lengths: divided, they are the character degree
use Rattle.std.specs.Prelude.{◌+◌, ◌-◌, ◌*◌, ◌/◌, ◌%◌, ◌^◌}
use mathlib.Core.Path.{◌≡◌, refl, sym, ◌∙◌, ap}
use Prim.Native.Nat.{◌≤◌, ◌<◌}
use native.Mathlib.Nat.{pos_of_ne-zero, mul-pos, mul-one, one-mul, pow-suc, pow-zero, mul_assoc, mul_comm}
use native.Mathlib.Nat.{sub-zero, sub_self, one-le-pow, le-mul_of_pos_right, lt_of_le_of_lt, div-eq_of_eq-mul_left}
use native.Mathlib.Omega.{arith}
use lib.Count.{count_leading_zeros}
use lib.ListN.{length-map}
use Rattle.theory.specs.Basics.{ℕ, zero, suc, length, pos, nat_abs}
use Rattle.theory.specs.Partition.{degree}
use Rattle.theory.specs.Digits.{width}
use Rattle.theory.specs.ShapeWord.{shape_of}
use Rattle.theory.specs.Bounds.{factorial}
use Rattle.theory.specs.Bounds.Laws.{largest_limit}
use Rattle.theory.proofs.Bounds.Laws.{factorial-rises}
use Rattle.theory.specs.Character.{character_degree}
use Rattle.theory.specs.Hooks.{hook_words}
use Rattle.theory.proofs.Hooks.Degrees.{degree-positive, degree-bounded}
use Rattle.theory.specs.Hooks.Marks.{marks, places}
use Rattle.theory.proofs.Hooks.Marks.Laws.{hooks-marked}
use Rattle.theory.proofs.Hooks.Marks.Walk.{highest, places-none}
use Rattle.theory.proofs.Frobenius.HookLengths.{hook_powers, hook-lengths}
use Rattle.theory.specs.Refusals.Laws.{Within}
use Rattle.words.proofs.Factorials.{factorial-fits}
use Rattle.pages.proofs.Signed.{carried, carried-is}

-- ---- the hooks of one length
pub length-next : (all h k whole : ℕ) → 0 < h → all * h ^ suc k ≡ whole → (all * h * h ^ k ≡ whole) × (all * h ≤ whole)
length-next all h k whole long comes =
    let same : all * h * h ^ k ≡ whole =
    mul_assoc all h (h ^ k) ∙ ap (λ (x : ℕ). all * x) (mul_comm h (h ^ k) ∙ sym (pow-suc h k)) ∙ comes in
    (same, rw same at (le-mul_of_pos_right (all * h) (one-le-pow k h long)))

-- by marks, the digits at which hooks end
pub record Multiplied (whole h left all : ℕ) : Type 0 where
  pub below : left < 2 ^ width
  pub comes : all * h ^ length (places width left) ≡ whole

pub record Next (whole h left all z one : ℕ) : Type 0 where
  pub within : z ≤ 31
  pub bits : 31 - z < 32
  pub some : 0 < one
  pub takes : one ≤ left
  pub room : all * h ≤ whole
  pub multiplied : Multiplied whole h (left - one) (all * h)

pub lengths-start : (all s h : ℕ) → 0 < h → s < 2 ^ width
    → Multiplied (all * h ^ length (hook_words h s)) h (marks s h) all
lengths-start all s h long small = record {
  below = unfold marks in omega arith;
  comes = rw (hooks-marked h s long small, length-map);
}

pub lengths-end : {whole h all : ℕ} → Multiplied whole h 0 all → all ≡ whole
lengths-end {whole} {h} {all} m = sym (mul-one all) ∙ rw (places-none width, pow-zero h) at m.comes

pub lengths-next : {whole h left all : ℕ} → 0 < h → Multiplied whole h left all → (left ≡ 0 → ⊥)
    → Next whole h left all (count_leading_zeros 32 left) (1 * 2 ^ (31 - count_leading_zeros 32 left) % 2 ^ 32)
lengths-next {whole} {h} {left} {all} long m more =
    let top = highest width left (pos_of_ne-zero more) m.below in
    let one : ℕ = 1 * 2 ^ (31 - count_leading_zeros 32 left) % 2 ^ 32 in
    let k : ℕ = length (places width (left - one)) in
    let next = length-next all h k whole long (rw top.rest at m.comes) in
    record {
      within = top.within;
      bits = omega (arith, top.below);
      some = top.some;
      takes = top.takes;
      room = next.1;
      multiplied = record { below = omega (arith, m.below); comes = next.0 };
    }

-- ---- the hooks of all lengths
powers-positive : (i n s : ℕ) → 0 < i → 0 < hook_powers i n s
powers-positive i zero s p = omega arith
powers-positive i (suc n) s p =
    mul-pos (one-le-pow (length (hook_words i s)) i p) (powers-positive (suc i) n s (omega arith))

-- the lengths up to h are multiplied, and h! is made of them too
pub record Divides (s so_far lengths h : ℕ) : Type 0 where
  pub within : h ≤ degree (shape_of s)
  pub factor : so_far ≡ factorial h
  pub comes : lengths * hook_powers (suc h) (degree (shape_of s) - h) s ≡ hook_powers 1 (degree (shape_of s)) s

pub record NextLength (s so_far lengths h : ℕ) : Type 0 where
  pub some : 0 < h
  pub few : h < 32
  pub factorial-room : so_far * h < 2 ^ 63
  pub lengths-room : lengths * h ^ length (hook_words h s) < 2 ^ 63
  pub divides : Divides s (so_far * h) (lengths * h ^ length (hook_words h s)) h

pub record Quotient (s so_far lengths : ℕ) : Type 0 where
  pub some : 0 < lengths
  pub fits : so_far / lengths < 2 ^ 63
  pub is : pos (so_far / lengths) ≡ character_degree (shape_of s)

module _ (s : ℕ) (small : degree (shape_of s) ≤ largest_limit) where
  abbrev n : ℕ
  n = degree (shape_of s)

  -- the lengths of all hooks are no more than n!
  whole-within : hook_powers 1 n s ≤ factorial n
  whole-within =
      let f : ℕ = nat_abs (character_degree (shape_of s)) in
      let some : 0 < f = rw (degree-positive s).is (omega arith) in
      rw (mul_comm (hook_powers 1 n s) f ∙ hook-lengths s) at (le-mul_of_pos_right (hook_powers 1 n s) some)

  pub divides-start : Divides s 1 1 0
  unfolding factorial
  divides-start = record { within = omega arith; factor = refl; comes = rw sub-zero (one-mul (hook_powers 1 n s)) }

  module _ {so_far lengths h : ℕ} (d : Divides s so_far lengths h) where
    pub divides-next : h < n → NextLength s so_far lengths (h + 1)
    unfolding factorial
    divides-next l =
        let up : h + 1 ≡ suc h = omega arith in
        let power : ℕ = suc h ^ length (hook_words (suc h) s) in
        let more : n - h ≡ suc (n - suc h) = omega arith in
        let rest : ℕ = hook_powers (suc (suc h)) (n - suc h) s in
        let comes : lengths * power * rest ≡ hook_powers 1 n s =
        mul_assoc lengths power rest ∙ rw more at d.comes in
        let positive = powers-positive (suc (suc h)) (n - suc h) s (omega arith) in
        let within = le-mul_of_pos_right (lengths * power) positive in
        let next : so_far * suc h ≡ factorial (suc h) = rw d.factor (mul_comm (factorial h) (suc h)) in
        let fits = factorial-fits n small in
        rw up
        (record {
          some = omega arith;
          few = omega arith;
          factorial-room = omega (arith, factorial-rises (suc h) n l);
          lengths-room = omega (arith, whole-within);
          divides = record { within = l; factor = next; comes = comes };
        })

    pub divides-end : (h < n → ⊥) → Quotient s so_far lengths
    divides-end l =
        let last : h ≡ n = omega (arith, d.within) in
        let all : lengths ≡ hook_powers 1 n s = sym (mul-one lengths) ∙ rw (last, sub_self) at d.comes in
        let some : 0 < hook_powers 1 n s = powers-positive 1 n s (omega arith) in
        let quotient : factorial n / hook_powers 1 n s ≡ nat_abs (character_degree (shape_of s)) =
        div-eq_of_eq-mul_left some (sym (hook-lengths s)) in
        rw (all, rw last at d.factor)
        (record {
          some = some;
          fits = rw quotient (lt_of_le_of_lt (degree-bounded s) (factorial-fits n small));
          is = rw (quotient, (degree-positive s).is);
        })

-- a character degree has room in 64 bits
pub degree-carried : {limit s : ℕ} → limit ≤ largest_limit → Within limit s
    → carried (character_degree (shape_of s)) ≡ character_degree (shape_of s)
degree-carried {limit} {s} room w =
    carried-is (character_degree (shape_of s))
    (lt_of_le_of_lt (degree-bounded s) (factorial-fits (degree (shape_of s)) (omega (arith, w.small))))
