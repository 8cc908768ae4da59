-- Bits of a remainder, a complement, a shift, and of what two numbers have in common; digits cut in two.
--   bit_below h b x   the bit of x that stands h places below place b; there is none where b is below h
-- Of the library: bit_and x y has the ones that both x and y have.
use Rattle.std.specs.Prelude.{◌≡◌, refl, ◌<◌, ◌&&◌, ◌++◌, ◌+◌, ◌-◌, ◌*◌, ◌/◌, ◌%◌, ◌^◌}
use Rattle.std.proofs.Common.{sym, ◌∙◌, ap, zero-add, suc-add, add_comm, mod-lt, mul_assoc, arith, le-leb, pow_pos, pow-add, shr-shr, shr_lt}
use Rattle.std.proofs.Math.Decide.{dec_le}
use Rattle.std.proofs.lemmas.Bool.{lt-leb}
use Rattle.std.proofs.Math.Pow.{field, mod-mod-pow, split, high}
use Rattle.std.proofs.lemmas.Nat.{shl-shr, and_shr, and_mod}
use Rattle.std.specs.Int.Bits.{bit_and, shifted_even}
use Rattle.theory.specs.Basics.{Bool, not, ℕ, zero, suc}
use Rattle.theory.specs.Basics.{◌=?◌, ◌≤?◌, odd}
use Rattle.theory.proofs.Basics.Laws.{odd-suc}
use Rattle.theory.specs.Digits.{bit, digits}

-- ---- bits
pub bit-rest : (b n x : ℕ) → b < n → bit b (x % 2 ^ n) ≡ bit b x
bit-rest b n x l =
    let k : ℕ = n - b - 1 in
    let e : n ≡ (k + 1) + b = omega arith in
    ap (λ (m : ℕ). odd (x % 2 ^ m / 2 ^ b)) e ∙ ap odd (field x (k + 1) b)
    ∙ ap (λ (m : ℕ). m =? 1) (mod-mod-pow (x / 2 ^ b) k 1)

-- 2 ^ n - 1 - x is x with all its n digits turned
pub bit_not : (b n x : ℕ) → x < 2 ^ n → b < n → bit b ((2 ^ n - 1) - x) ≡ not (bit b x)
bit_not b n x h l =
    let k : ℕ = n - b - 1 in
    let e : n ≡ suc k + b = omega arith in
    go k (x / 2 ^ b) (x % 2 ^ b) (ap (λ (m : ℕ). 2 ^ m) e ∙ pow-add 2 (suc k) b) (split x b)
    (shr_lt (suc k) b (rw e at h)) (mod-lt x (pow_pos b))
  where
    turned : (c q k : ℕ) → suc c + q ≡ k * 2 → odd c ≡ not (odd q)
    turned c q k e =
        let p : c % 2 ≡ suc q % 2 = omega arith in
        ap (λ (m : ℕ). m =? 1) p ∙ odd-suc q

    go : (k q r : ℕ) → 2 ^ n ≡ 2 ^ suc k * 2 ^ b → q * 2 ^ b + r ≡ x → q < 2 ^ suc k → r < 2 ^ b
        → bit b ((2 ^ n - 1) - x) ≡ not (odd q)
    go k q r p e hq hr =
        let c : ℕ = 2 ^ suc k - 1 - q in
        let t : suc c + q ≡ 2 ^ suc k = omega arith in
        let whole : 2 ^ n ≡ (suc c + q) * 2 ^ b = p ∙ ap (λ (m : ℕ). m * 2 ^ b) (sym t) in
        let parts : (2 ^ n - 1) - x ≡ c * 2 ^ b + (2 ^ b - 1 - r) = omega arith in
        rw (parts, high c b {lo = 2 ^ b - 1 - r} (omega arith)) (turned c q (2 ^ k) (omega arith))

abbrev pub bit_below : ℕ → ℕ → ℕ → Bool
bit_below h b x = h ≤? b && bit (b - h) x

pub bit-shift : (b h x : ℕ) → bit b (x * 2 ^ h) ≡ bit_below h b x
bit-shift b h x = elim (dec_le h b) [
  | yes l ↦
      let e : b ≡ h + (b - h) = omega arith in
      let d : x * 2 ^ h / 2 ^ b ≡ x / 2 ^ (b - h) =
      ap (λ (k : ℕ). x * 2 ^ h / 2 ^ k) e ∙ sym (shr-shr (x * 2 ^ h) h (b - h))
      ∙ ap (λ (k : ℕ). k / 2 ^ (b - h)) (shl-shr x h) in
      rw (d, le-leb h b l)
  | no g ↦
      let k : ℕ = h - b - 1 in
      let e : h ≡ suc k + b = omega arith in
      let d : x * 2 ^ h ≡ x * 2 ^ suc k * 2 ^ b =
      ap (λ (j : ℕ). x * 2 ^ j) e ∙ ap (λ (j : ℕ). x * j) (pow-add 2 (suc k) b)
      ∙ sym (mul_assoc x (2 ^ suc k) (2 ^ b)) in
      rw (d, shl-shr (x * 2 ^ suc k) b, shifted_even x k, lt-leb h b (omega arith))
]

pub bit-and : (b x y : ℕ) → bit b (bit_and x y) ≡ (bit b x && bit b y)
bit-and b x y =
    let e : bit_and x y / 2 ^ b % 2 ≡ bit_and (x / 2 ^ b % 2) (y / 2 ^ b % 2) =
    ap (λ (k : ℕ). k % 2) (and_shr x y b) ∙ and_mod (x / 2 ^ b) (y / 2 ^ b) 1 in
    rw e (one (x / 2 ^ b % 2) (y / 2 ^ b % 2) (omega arith) (omega arith))
  where
    one : (p q : ℕ) → p < 2 → q < 2 → bit_and p q =? 1 ≡ (p =? 1 && q =? 1)
    one zero zero a b = refl
    one zero (suc zero) a b = refl
    one (suc zero) zero a b = refl
    one (suc zero) (suc zero) a b = refl
    one (suc (suc p)) q a b = absurd (omega arith)
    one zero (suc (suc q)) a b = absurd (omega arith)
    one (suc zero) (suc (suc q)) a b = absurd (omega arith)

-- ---- digits
-- the k highest and the n lowest of k + n digits
pub digits-cut : (k n x : ℕ) → digits (k + n) x ≡ digits k (x / 2 ^ n) ++ digits n x
unfolding digits
digits-cut zero n x = rw zero-add
digits-cut (suc k) n x =
    rw (suc-add k n, digits-cut k n x, shr-shr x n k, add_comm k n) refl
