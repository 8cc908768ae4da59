-- A hook by its stretch: the digits behind its zero, down to its one, as a word that has its ones there.
-- A stretch added carries from the one to the zero, and so exchanges the two; it ends in a one, so its zeros are those
-- strictly between.
use Rattle.std.specs.Prelude.{◌≡◌, ◌<◌, ◌≤◌, min, ◌+◌, ◌-◌, ◌*◌, ◌/◌, ◌%◌, ◌^◌}
use Rattle.std.proofs.Math.Path.{sym, ap}
use Rattle.std.proofs.Common.{◌∙◌, ap₂, mul_assoc, add-zero, pow_pos, pow-add}
use Rattle.std.proofs.Math.Nat.{mod-eq_of_lt, div-eq_of_lt}
use native.Mathlib.Omega.{arith}
use Rattle.std.specs.Int.Bits.{bit_and, and_step, and_zero_r}
use Rattle.std.proofs.lemmas.Nat.Bits.{and_high}
use Rattle.std.specs.Int.Count
use Rattle.std.specs.Int.Count.{ones_step, ones-ones}
use Rattle.std.proofs.lemmas.Nat.{ones_cat, ones-le, shl-shr}
use Rattle.std.proofs.Math.Pow.{pow_mono, pow-lt, low, high_ones}
use Rattle.theory.specs.Basics.{Bool, map, ℕ, zero, suc, ◌=?◌}
use Rattle.theory.proofs.Basics.Laws.{map_same}
use Rattle.theory.specs.Digits.{width}
use Rattle.theory.proofs.Digits.Laws.{one_shifted}
use Rattle.theory.specs.Hooks.{Hook, hook_words}
use Rattle.theory.specs.Hooks.Marks.{marks, places, exchanged, minus_at, marked_hook}
use Rattle.theory.proofs.Hooks.Marks.Laws.{hooks-marked}
use Rattle.theory.proofs.Hooks.Marks.Walk.{Begun, marks_begin}
use Rattle.theory.specs.Hooks.Marks.Stretch.{stretch, zeros_odd, raised, hook_by}

-- ---- zeros and ones of a word at the ones of another
ones_and : (a b : ℕ) → Count.ones (bit_and a b) ≡ min (a % 2) (b % 2) + Count.ones (bit_and (a / 2) (b / 2))
ones_and a b =
    let half : bit_and a b / 2 ≡ bit_and (a / 2) (b / 2) = omega (arith, and_step a b) in
    let last : bit_and a b % 2 ≡ min (a % 2) (b % 2) = omega (arith, and_step a b) in
    rw (half, last) at (ones_step (bit_and a b))

one-of-both : (d e : ℕ) → d < 2 → e < 2 → min (1 - d) e + min d e ≡ e
one-of-both d e f g = omega arith

added : (m n a b : ℕ) {x y z e c : ℕ} → x ≡ m + a → y ≡ n + b → z ≡ e + c → m + n ≡ e → a + b ≡ c → x + y ≡ z
added m n a b p q r f g = omega arith

zeros-ones : (n s r : ℕ) → s < 2 ^ n → r < 2 ^ n
    → Count.ones (bit_and ((2 ^ n - 1) - s) r) + Count.ones (bit_and s r) ≡ Count.ones r
zeros-ones zero s r below small =
    let none : r ≡ 0 = omega arith in
    rw (none, and_zero_r (0 - s), and_zero_r s) (omega (arith, ones-le 0 0 (pow_pos 0)))
zeros-ones (suc n) s r below small =
    let others : ℕ = (2 ^ suc n - 1) - s in
    let half : others / 2 ≡ (2 ^ n - 1) - s / 2 = omega arith in
    let last : others % 2 ≡ 1 - s % 2 = omega arith in
    added
    _
    _
    _
    _
    (rw (half, last) at (ones_and others r))
    (ones_and s r)
    (ones_step r)
    (one-of-both (s % 2) (r % 2) (omega arith) (omega arith))
    (zeros-ones n (s / 2) (r / 2) (omega arith) (omega arith))

-- ---- a hook by its stretch
module _ (h s b : ℕ) (from : h ≤ b) (below : b < 31) (small : s < 2 ^ 31) where
  -- what `1 << b` gives, and its stretch
  abbrev one : ℕ
  one = 1 * 2 ^ b % 2 ^ 32

  stretched : stretch one h ≡ 2 ^ b - 2 ^ (b - h)
  unfolding stretch
  stretched =
      let whole : (b - h) + h ≡ b = omega arith in
      let parts : 2 ^ b ≡ 2 ^ (b - h) * 2 ^ h = rw whole at (pow-add 2 (b - h) h) in
      rw (one_shifted 32 b (omega arith)) (ap (λ (x : ℕ). 2 ^ b - x) (rw (← parts) at (shl-shr (2 ^ (b - h)) h)))

  leaves-stretched : raised s (stretch one h) ≡ (marked_hook h s b).leaves
  unfolding raised
  leaves-stretched =
      let lower : 2 ^ (b - h) ≤ 2 ^ b = pow_mono (omega arith) in
      let room : 2 ^ b < 2 ^ 31 = pow-lt below in
      let sums : s + (2 ^ b - 2 ^ (b - h)) ≡ exchanged s h b = omega arith in
      let fits : exchanged s h b < 2 ^ 32 = omega arith in
      rw (stretched, sums, mod-eq_of_lt fits)

  -- the digits of the stretch, as a number, and how many of them are ones
  abbrev among : ℕ
  among = s / 2 ^ (b - h) % 2 ^ h

  ones-among : Count.ones (bit_and s (stretch one h)) ≡ Count.ones among
  ones-among =
      let whole : h + (b - h) ≡ b = omega arith in
      let there : bit_and s (2 ^ b - 2 ^ (b - h)) ≡ among * 2 ^ (b - h) + 0 =
      omega (arith, rw whole at (and_high s h (b - h))) in
      rw (stretched, there) (omega (arith, ones_cat (b - h) among 0 (pow_pos (b - h)), ones-le 0 0 (pow_pos 0)))

  ones-stretch : Count.ones (stretch one h) ≡ h
  ones-stretch =
      let whole : h + (b - h) ≡ b = omega arith in
      let there : 2 ^ b - 2 ^ (b - h) ≡ (2 ^ h - 1) * 2 ^ (b - h) + 0 =
      omega (arith, rw whole at (high_ones h (b - h))) in
      rw (stretched, there)
      (omega (arith, ones_cat (b - h) (2 ^ h - 1) 0 (pow_pos (b - h)), ones-ones h, ones-le 0 0 (pow_pos 0)))

  minus-stretched : zeros_odd s (stretch one h) ≡ (marked_hook h s b).minus
  unfolding zeros_odd minus_at
  minus-stretched =
      let room : 2 ^ b < 2 ^ 31 = pow-lt below in
      let all = zeros-ones 32 s (stretch one h) (omega arith) (rw stretched (omega arith)) in
      let same : Count.ones (bit_and ((2 ^ 32 - 1) - s) (stretch one h)) % 2 ≡ (h + Count.ones among) % 2 =
      omega (arith, all, ones-among, ones-stretch) in
      ap (λ (n : ℕ). n =? 1) same

  pub hook-stretched : hook_by s (stretch one h) ≡ marked_hook h s b
  hook-stretched =
      let hook : Bool → ℕ → Hook ℕ = λ m t. record { minus = m; leaves = t } in
      ap₂ hook minus-stretched leaves-stretched

-- the hooks of a word are those of its marks, each by its stretch
pub hooks-stretched : (h s : ℕ) → 1 ≤ h → s < 2 ^ 31
    → hook_words h s ≡ map (λ b. hook_by s (stretch (2 ^ b) h)) (places width (marks s h))
hooks-stretched h s long small =
    hooks-marked h s long small
    ∙ map_same (Begun h s) (marked_hook h s) (λ b. hook_by s (stretch (2 ^ b) h)) (places width (marks s h))
    (λ b begun. sym
    (rw (one_shifted 32 b (omega (arith, begun.below)))
    at (hook-stretched h s b begun.from begun.below small)))
    (marks_begin h s long small)

-- ---- no word has so long a hook
module _ (h : ℕ) (long : 32 ≤ h) where
  pub marks-none : (s : ℕ) → marks s h ≡ 0
  unfolding marks
  marks-none s =
      let whole : (h - 32) + 32 ≡ h = omega arith in
      let multiple : s * 2 ^ h ≡ (s * 2 ^ (h - 32)) * 2 ^ 32 + 0 =
      rw whole at (ap (λ (x : ℕ). s * x) (pow-add 2 (h - 32) 32)) ∙ sym (mul_assoc s (2 ^ (h - 32)) (2 ^ 32))
      ∙ sym (add-zero _) in
      rw (multiple, low (s * 2 ^ (h - 32)) 32 {lo = 0} (omega arith), and_zero_r ((2 ^ 32 - 1) - s))

  pub stretch-whole : (z : ℕ) → z < 2 ^ 32 → stretch z h ≡ z
  unfolding stretch
  stretch-whole z below =
      let room : 2 ^ 32 ≤ 2 ^ h = pow_mono long in
      let less : z < 2 ^ h = omega arith in
      rw (div-eq_of_lt less) (omega arith)
