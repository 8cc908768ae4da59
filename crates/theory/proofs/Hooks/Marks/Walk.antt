-- A walk over the marks of a word: leading zeros give the highest place that is left, and its one comes off.
--   Highest W x z one   of a number x of W digits that is not 0, where z are the leading zeros of W + 1 digits: the
--                       highest one stands at place W - z and counts `one`; without it x has the other places
--   Begun h s b         a hook of length h begins at place b of the word s
use Rattle.std.specs.Prelude.{◌≡◌, refl, ◌<◌, ◌≤◌, ◌∷◌, ◌+◌, ◌-◌, ◌*◌, ◌%◌, ◌^◌}
use Rattle.std.proofs.Common.{sym, ◌∙◌, ap, lt_of_le_of_lt, lt_of_not-le, not-le_of_lt, arith, leb-true, pow_pos, pow_mono}
use Rattle.std.proofs.Math.Nat.{div-eq_of_lt}
use Rattle.std.proofs.Math.Decide.{ℕ_discrete}
use Rattle.std.specs.Int.Count.{count_leading_zeros}
use Rattle.std.proofs.lemmas.Nat.{leading_top}
use Rattle.std.proofs.Math.Pow.{high, low}
use Rattle.theory.specs.Basics.{Bool, true, false, not, cond, List, []}
use Rattle.theory.specs.Basics.{ℕ, zero, suc, ◌≤?◌, ℤ, sum, Each}
use Rattle.theory.proofs.Basics.Laws.{both, each_same, each_both, each-mapped, sum-map}
use Rattle.theory.specs.Digits.{bit, width}
use Rattle.theory.proofs.Digits.Laws.{one_shifted}
use Rattle.theory.proofs.Digits.Bits.{bit_below, bit-rest}
use Rattle.theory.specs.Hooks.{Hook, hook_words}
use Rattle.theory.specs.Hooks.Words.{Left}
use Rattle.theory.proofs.Hooks.Words.{hooks-leave}
use Rattle.theory.specs.Hooks.Marks.{marks, places, marked_hook}
use Rattle.theory.proofs.Hooks.Marks.Laws.{begins, bit-marks, hooks-marked}

-- ---- the highest place
pub record Highest (W x z one : ℕ) : Type 0 where
  pub within : z ≤ W
  pub below : W - z < W
  pub some : 0 < one
  pub takes : one ≤ x
  pub rest : places W x ≡ (W - z) ∷ places W (x - one)

places_same : (n x y : ℕ) → ((b : ℕ) → b < n → bit b x ≡ bit b y) → places n x ≡ places n y
unfolding places
places_same zero x y f = refl
places_same (suc n) x y f = rw (f n (omega arith), places_same n x y (λ b l. f b (omega arith)))

places-zero : (n x : ℕ) → x < 2 ^ n → places (suc n) x ≡ places n x
unfolding places
places-zero n x l = rw (div-eq_of_lt l)

pub places-none : (n : ℕ) → places n 0 ≡ []
unfolding places
places-none zero = refl
places-none (suc n) = places-zero n 0 (pow_pos n) ∙ places-none n

places-one : (n r : ℕ) → r < 2 ^ n → places (suc n) (2 ^ n + r) ≡ n ∷ places n r
unfolding places
places-one n r l =
    let e : 2 ^ n + r ≡ 1 * 2 ^ n + r = omega arith in
    let same : (b : ℕ) → b < n → bit b (1 * 2 ^ n + r) ≡ bit b r =
    λ b m. sym (bit-rest b n (1 * 2 ^ n + r) m) ∙ ap (bit b) (low 1 n l) in
    rw (e, high 1 n l, places_same n (1 * 2 ^ n + r) r same)

places-top : (n b r : ℕ) → b < n → r < 2 ^ b → places n (2 ^ b + r) ≡ b ∷ places n r
places-top zero b r l h = absurd (omega arith)
places-top (suc n) b r l h = elim (ℕ_discrete b n) [
  | yes e ↦ rw e (places-one n r (rw e at h) ∙ ap (λ (bs : List ℕ). n ∷ bs) (sym (places-zero n r (rw e at h))))
  | no f ↦
      let m : 2 ^ suc b ≤ 2 ^ n = pow_mono (omega arith) in
      rw (places-zero n (2 ^ b + r) (omega arith), places-zero n r (omega arith)) (places-top n b r (omega arith) h)
]

-- the highest one is what `1 << (W - z)` gives
pub highest : (W x : ℕ) → 0 < x → x < 2 ^ W
    → Highest W x (count_leading_zeros (suc W) x) (1 * 2 ^ (W - count_leading_zeros (suc W) x) % 2 ^ suc W)
highest W x p h = go (count_leading_zeros (suc W) x) (leading_top (suc W) x p (omega arith))
  where
    go : (z : ℕ) → (j : ℕ) × (z + suc j ≡ suc W) × (2 ^ j ≤ x) × (x < 2 ^ suc j)
        → Highest W x z (1 * 2 ^ (W - z) % 2 ^ suc W)
    go z (j, e, lo, hi) =
        let place : W - z ≡ j = omega arith in
        let one : 1 * 2 ^ (W - z) % 2 ^ suc W ≡ 2 ^ j = rw place (one_shifted (suc W) j (omega arith)) in
        let below : j < W = lt_of_not-le (λ (g : W ≤ j). not-le_of_lt (lt_of_le_of_lt lo h) (pow_mono g)) in
        let whole : 2 ^ j + (x - 2 ^ j) ≡ x = omega arith in
        record {
          within = omega arith;
          below = omega arith;
          some = rw one (pow_pos j);
          takes = rw one lo;
          rest = rw (one, place) (rw whole at (places-top W j (x - 2 ^ j) below (omega arith)));
        }

-- ---- the places of the marks
pub record Begun (h s b : ℕ) : Type 0 where
  pub from : h ≤ b
  pub below : b < width
  pub left : Left h s (marked_hook h s b)

each-place : (n x : ℕ) → Each (λ b. (b < n) × (bit b x ≡ true)) (places n x)
unfolding places
each-place zero x = tt
each-place (suc n) x = go (bit n x) refl
    (each_same (λ b. (b < n) × (bit b x ≡ true)) _ (places n x) (λ b e. (omega arith, e.1)) (each-place n x))
  where
    go : (d : Bool) → bit n x ≡ d → Each (λ b. (b < suc n) × (bit b x ≡ true)) (places n x)
        → Each (λ b. (b < suc n) × (bit b x ≡ true)) (cond d (n ∷ places n x) (places n x))
    go true e rest = ((omega arith, e), rest)
    go false e rest = rest

module _ (h s : ℕ) (long : 1 ≤ h) (small : s < 2 ^ 31) where
  pub marks_begin : Each (Begun h s) (places width (marks s h))
  marks_begin =
      each_same _ (Begun h s) (places width (marks s h)) begun
      (each_both _ _ (places width (marks s h)) (each-place width (marks s h))
      (each-mapped (Left h s) (marked_hook h s) (places width (marks s h))
      (rw (hooks-marked h s long small) at (hooks-leave h s))))
    where
      begun : (b : ℕ) → ((b < width) × (bit b (marks s h) ≡ true)) × Left h s (marked_hook h s b) → Begun h s b
      begun b ((l, one), left) =
          let e : begins h s b ≡ true = sym (bit-marks h s b (omega arith) l) ∙ one in
          let f = (both (not (bit b s)) (bit_below h b s) e).1 in
          record { from = leb-true h b (both (h ≤? b) (bit (b - h) s) f).0; below = l; left = left }

  -- a sum over the hooks as a sum over the places
  pub sum-marked : (f : Hook ℕ → ℤ) → sum f (hook_words h s)
      ≡ sum (λ b. f (marked_hook h s b)) (places width (marks s h))
  sum-marked f = rw (hooks-marked h s long small) (sum-map f (marked_hook h s) (places width (marks s h)))
