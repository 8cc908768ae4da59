-- The marks of a word are its hooks, in order.
use Rattle.std.specs.Prelude.{◌≡◌, ◌<◌, ◌≤◌, ◌&&◌, ◌∷◌, ◌++◌, ◌+◌, ◌-◌, ◌*◌, ◌/◌, ◌%◌, ◌^◌}
use Rattle.std.proofs.Math.Path.{refl, ap, fun_ext}
use Rattle.std.proofs.Common.{sym, ◌∙◌, ap₂, suc-add, zero-add, mod-eq_of_lt, mod-lt, add-one, arith, le-leb, drop_of_length-le, pow_pos, pow_mono, shr-shr, take_at, drop_at}
use Rattle.std.proofs.lemmas.Simd.{map-map}
use Rattle.std.proofs.lemmas.List.{map-append}
use Rattle.std.proofs.Math.Decide.{dec_lt}
use Rattle.std.proofs.lemmas.Bool.{lt-leb}
use Rattle.std.specs.Int.Count
use Rattle.theory.specs.Basics.{Bool, true, false, not, cond, List, [], map, take, drop, length}
use Rattle.theory.specs.Basics.{ℕ, zero, suc, ◌=?◌, odd}
use Rattle.theory.specs.Digits.{Digits, bit, digits, word, ones, zeros, width}
use Rattle.theory.proofs.Digits.Laws.{digits-rest, word-digits, length_digits}
use Rattle.theory.proofs.Digits.LastOne.{ones-append, ones-zeros}
use Rattle.theory.proofs.Digits.Low.{digits_last}
use Rattle.theory.proofs.Digits.Bits.{bit_below, bit-rest, bit_not, bit-shift, bit-and, digits-cut}
use Rattle.theory.specs.ShapeWord.Shifting.{ones_out}
use Rattle.theory.proofs.ShapeWord.Shifting.{ones-out}
use Rattle.theory.proofs.ShapeWord.Reading.{ones-digits}
use Rattle.theory.specs.Hooks.{Hook, hooks, hook_word, hook_words}
use Rattle.theory.proofs.Hooks.Walk.{led, hook_over, hooks-none, hooks-one, hooks-zero}
use Rattle.theory.proofs.Hooks.Laws.{Exchange, exchanges}
use Rattle.theory.proofs.Basics.Laws.{map_same}
use Rattle.theory.specs.Hooks.Marks.{marks, places, exchanged, minus_at, marked_hook}

-- ---- where the marks stand
-- a zero at place b and a one h places below it
abbrev pub begins : ℕ → ℕ → ℕ → Bool
begins h s b = not (bit b s) && bit_below h b s

pub bit-marks : (h s b : ℕ) → s < 2 ^ 32 → b < 31 → bit b (marks s h) ≡ begins h s b
unfolding marks
bit-marks h s b below l =
    bit-rest b 31 _ l ∙ bit-and b ((2 ^ 32 - 1) - s) (s * 2 ^ h % 2 ^ 32)
    ∙ ap₂ (λ (p q : Bool). p && q) (bit_not b 32 s below (omega arith))
    (bit-rest b 32 (s * 2 ^ h) (omega arith) ∙ bit-shift b h s)

-- ---- the sign
-- the k digits between and the one behind them have as many zeros as they are less the ones among them
sign-marked : (k j b x : ℕ) → b - suc k ≡ j → bit j x ≡ true
    → odd (zeros (digits k (x / 2 ^ suc j))) ≡ minus_at x (suc k) b
unfolding minus_at
sign-marked k j b x place one =
    let between : Digits = digits k (x / 2 ^ suc j) in
    let half : x / 2 ^ j / 2 ≡ x / 2 ^ suc j = rw (← add-one j) (shr-shr x j 1) in
    let last : digits (suc k) (x / 2 ^ j) ≡ between ++ (true ∷ []) = rw (half, one) at (digits_last k (x / 2 ^ j)) in
    let all : Count.ones (x / 2 ^ j % 2 ^ suc k) ≡ ones between + 1 =
    sym (ones-digits (suc k) (x / 2 ^ j % 2 ^ suc k) (mod-lt (x / 2 ^ j) (pow_pos (suc k))))
    ∙ ap ones (digits-rest (suc k) (x / 2 ^ j) ∙ last) ∙ ones-append between (true ∷ []) in
    let same : zeros between % 2 ≡ (suc k + Count.ones (x / 2 ^ j % 2 ^ suc k)) % 2 =
    omega (arith, ones-zeros between, length_digits k (x / 2 ^ suc j)) in
    rw place (ap (λ (n : ℕ). n =? 1) same)

-- ---- words of exchanged digits
word-led : (n : ℕ) (d : Bool) (ds : Digits) → word (suc n) (d ∷ ds) ≡ cond d (2 ^ n) 0 + word n ds
unfolding word
word-led n true ds = refl
word-led n false ds = omega arith

word-exchanged : (b a : Digits) → word (length b + suc (length a)) (b ++ true ∷ a)
    ≡ word (length b + suc (length a)) (b ++ false ∷ a) + 2 ^ length a
unfolding word
word-exchanged [] a = rw zero-add (omega arith)
word-exchanged (true ∷ b) a = rw suc-add (omega (arith, word-exchanged b a))
word-exchanged (false ∷ b) a = rw suc-add (word-exchanged b a)

word-digits-rest : (n x : ℕ) → word n (digits n x) ≡ x % 2 ^ n
word-digits-rest n x = ap (word n) (sym (digits-rest n x)) ∙ word-digits n (x % 2 ^ n) (mod-lt x (pow_pos n))

rest-led : (n x : ℕ) → x % 2 ^ suc n ≡ cond (bit n x) (2 ^ n) 0 + x % 2 ^ n
unfolding digits
rest-led n x = sym (word-digits-rest (suc n) x) ∙ word-led n (bit n x) (digits n x)
    ∙ ap (λ (y : ℕ). cond (bit n x) (2 ^ n) 0 + y) (word-digits-rest n x)

-- ---- the hooks of n digits
abbrev as_word : ℕ → Hook Digits → Hook ℕ
as_word n hook = record { minus = hook.minus; leaves = word n hook.leaves }

abbrev led_by : ℕ → Hook ℕ → Hook ℕ
led_by a hook = record { minus = hook.minus; leaves = a + hook.leaves }

module _ (k x : ℕ) where
  -- the hook at place b of the n lowest digits, its leading ones kept
  abbrev exchange : ℕ → ℕ → Hook ℕ
  exchange n b = record { minus = minus_at x (suc k) b; leaves = exchanged (x % 2 ^ n) (suc k) b }

  -- n digits behind a zero: k between, the digit that may be its one, and j after it
  cut : (n j : ℕ) → n ≡ k + suc j → digits n x ≡ digits k (x / 2 ^ suc j) ++ (bit j x ∷ digits j x)
  unfolding digits
  cut n j e = ap (λ (m : ℕ). digits m x) e ∙ digits-cut k (suc j) x

  hook-over : (n j : ℕ) → n ≡ k + suc j → bit n x ≡ false → (d : Bool) → bit j x ≡ d
      → map (as_word (suc n)) (hook_over (digits k (x / 2 ^ suc j)) (d ∷ digits j x))
      ≡ cond d (exchange (suc n) n ∷ []) []
  hook-over n j e z false one = refl
  hook-over n j e z true one =
      let b : Digits = digits k (x / 2 ^ suc j) in
      let a : Digits = digits j x in
      let place : n - suc k ≡ j = omega arith in
      let lb : length b ≡ k = length_digits k (x / 2 ^ suc j) in
      let la : length a ≡ j = length_digits j x in
      let before : word n (b ++ true ∷ a) ≡ x % 2 ^ n =
      ap (λ (d : Bool). word n (b ++ d ∷ a)) (sym one) ∙ ap (word n) (sym (cut n j e)) ∙ word-digits-rest n x in
      let less : word n (b ++ true ∷ a) ≡ word n (b ++ false ∷ a) + 2 ^ j = rw (lb, la, ← e) at (word-exchanged b a) in
      let top : x % 2 ^ suc n ≡ x % 2 ^ n = rw z at (rest-led n x) ∙ zero-add (x % 2 ^ n) in
      let leaves : word (suc n) (true ∷ b ++ false ∷ a) ≡ x % 2 ^ suc n + 2 ^ n - 2 ^ j =
      omega (arith, word-led n true (b ++ false ∷ a)) in
      rw (leaves, sign-marked k j n x place one, place)

  first-hook : (n : ℕ) → bit n x ≡ false → map (as_word (suc n)) (hook_over (take k (digits n x)) (drop k (digits n x)))
      ≡ cond (bit_below (suc k) n x) (exchange (suc n) n ∷ []) []
  first-hook n z = elim (dec_lt k n) [
    | yes l ↦
        let j : ℕ = n - suc k in
        let e : n ≡ k + suc j = omega arith in
        let b : Digits = digits k (x / 2 ^ suc j) in
        let lb : length b ≡ k = length_digits k (x / 2 ^ suc j) in
        rw (le-leb (suc k) n l, cut n j e, take_at b (bit j x ∷ digits j x) k lb, drop_at b (bit j x ∷ digits j x) k lb)
        (hook-over n j e z (bit j x) refl)
    | no g ↦
        let l : length (digits n x) ≤ k = omega (arith, length_digits n x) in
        rw (drop_of_length-le (digits n x) l, lt-leb (suc k) n (omega arith))
  ]

  behind : (n : ℕ) (hs : List (Hook Digits)) (bs : List ℕ) → map (as_word n) hs ≡ map (exchange n) bs
      → map (as_word (suc n)) (map (led (bit n x)) hs) ≡ map (exchange (suc n)) bs
  behind n hs bs e =
      map-map (as_word (suc n)) (led (bit n x)) hs
      ∙ ap (λ (f : Hook Digits → Hook ℕ). map f hs) (fun_ext led-by)
      ∙ sym (map-map (led_by top) (as_word n) hs) ∙ ap (map (led_by top)) e ∙ map-map (led_by top) (exchange n) bs
      ∙ ap (λ (f : ℕ → Hook ℕ). map f bs) (fun_ext exchange-led-by)
    where
      top : ℕ
      top = cond (bit n x) (2 ^ n) 0

      led-by : (hook : Hook Digits) → as_word (suc n) (led (bit n x) hook) ≡ led_by top (as_word n hook)
      led-by hook = rw (word-led n (bit n x) hook.leaves)

      exchange-led-by : (b : ℕ) → led_by top (exchange n b) ≡ exchange (suc n) b
      exchange-led-by b =
          let l : 2 ^ (b - suc k) ≤ 2 ^ b = pow_mono (omega arith) in
          let e : top + exchanged (x % 2 ^ n) (suc k) b ≡ exchanged (x % 2 ^ suc n) (suc k) b =
          omega (arith, rest-led n x) in
          ap (λ (y : ℕ). record { minus = minus_at x (suc k) b; leaves = y }) e

  -- where m has its ones at the zeros that begin a hook, the hooks are those of its places
  hooks-exchanged : (m n : ℕ) → ((b : ℕ) → b < n → bit b m ≡ begins (suc k) x b)
      → map (as_word n) (hooks (suc k) (digits n x)) ≡ map (exchange n) (places n m)
  unfolding digits places
  hooks-exchanged m zero f = rw (hooks-none (suc k))
  hooks-exchanged m (suc n) f = rw (f n (omega arith)) (go (bit n x) refl
      (behind n (hooks (suc k) (digits n x)) (places n m) (hooks-exchanged m n (λ b l. f b (omega arith)))))
    where
      front : (b : Bool) → cond b (exchange (suc n) n ∷ []) [] ++ map (exchange (suc n)) (places n m)
          ≡ map (exchange (suc n)) (cond b (n ∷ places n m) (places n m))
      front true = refl
      front false = refl

      go : (d : Bool) → bit n x ≡ d
          → map (as_word (suc n)) (map (led (bit n x)) (hooks (suc k) (digits n x)))
          ≡ map (exchange (suc n)) (places n m)
          → map (as_word (suc n)) (hooks (suc k) (d ∷ digits n x))
          ≡ map (exchange (suc n)) (cond (not d && bit_below (suc k) n x) (n ∷ places n m) (places n m))
      go true e rest = rw (hooks-one (suc k) (digits n x)) (rw e at rest)
      go false e rest = rw (hooks-zero k (digits n x))
          (map-append (as_word (suc n)) (hook_over (take k (digits n x)) (drop k (digits n x))) _
          ∙ ap₂ (λ (hs gs : List (Hook ℕ)). hs ++ gs) (first-hook n e) (rw e at rest)
          ∙ front (bit_below (suc k) n x))

-- ---- the hooks of a word
pub hooks-marked : (h s : ℕ) → 1 ≤ h → s < 2 ^ 31 → hook_words h s ≡ map (marked_hook h s) (places width (marks s h))
unfolding hook_words
hooks-marked zero s long small = absurd (omega arith)
hooks-marked (suc k) s long small =
    map_same (Exchange (suc k) (digits width s)) _ (λ hook. out (as_word width hook)) (hooks (suc k) (digits width s))
    same (exchanges (suc k) (digits width s))
    ∙ sym (map-map out (as_word width) (hooks (suc k) (digits width s)))
    ∙ ap (map out) (hooks-exchanged k s (marks s (suc k)) width (λ b l. bit-marks (suc k) s b (omega arith) l))
    ∙ map-map out (exchange k s width) (places width (marks s (suc k)))
    ∙ rw (mod-eq_of_lt small)
  where
    out : Hook ℕ → Hook ℕ
    out hook = record { minus = hook.minus; leaves = ones_out hook.leaves }

    same : (hook : Hook Digits) → Exchange (suc k) (digits width s) hook
        → hook_word hook ≡ out (as_word width hook)
    same hook e = rw (← ones-out hook.leaves (e.same_length ∙ length_digits width s))
