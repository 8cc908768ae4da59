-- The hook rule: any cycle of the class may be struck by its hooks (document 01, "Hook of length h").
-- A struck beta-number lands on a one, on a zero, or below all digits; the first is a hook, the others count nothing.
--   counts f hook    what the hook counts, with its sign, where beta-numbers l count f l
use Rattle.std.specs.Prelude.{◌≡◌, refl, ◌<◌, ◌≤◌, ◌∷◌, ◌++◌, ◌-◌, ◌-ℤ◌}
use Rattle.std.proofs.Common.{sym, ◌∙◌, ap, arith, lt-ltb, le-ltb, length-drop, drop_of_length-le, drop-cons}
use Rattle.std.proofs.Math.Path.{fun_ext}
use Rattle.std.proofs.Math.Decide.{dec_lt}
use Rattle.std.proofs.lemmas.List.{length-map}
use Rattle.std.proofs.Math.Seq.{split_at}
use Rattle.std.proofs.Math.IntN.{+ℤ_idr}
use Rattle.theory.specs.Basics.{Bool, true, false, List, [], map, take, drop, length, get_or}
use Rattle.theory.specs.Basics.{ℕ, zero, suc, ℤ, pos, negsuc, neg_ℤ, odd, sum, signed}
use Rattle.theory.proofs.Basics.Laws.{odd-suc, sum_same, sum-append, sum-map}
use Rattle.theory.proofs.Basics.Integers.{signed-not, signed-zero}
use Rattle.theory.specs.Partition.{Parts, times, without}
use Rattle.theory.specs.Partition.Laws.{NoZero}
use Rattle.theory.proofs.Partition.Laws.{split, no-zero-without, times_zero}
use Rattle.theory.specs.Digits.{Digits, zeros}
use Rattle.theory.specs.ShapeWord.{rows, shifted}
use Rattle.theory.specs.Character.{◌on◌}
use Rattle.theory.proofs.Character.Alternating.{here, Alternating, alternating-after, ZeroBelow, raised_by}
use Rattle.theory.proofs.Character.Alternating.{twice-zero}
use Rattle.theory.proofs.Character.Lowered.{lowered, lowered-cons}
use Rattle.theory.proofs.Character.Counted.{counted, counted-alternating, counted-zero-below, counted-any}
use Rattle.theory.specs.Hooks.{Hook, hooks}
use Rattle.theory.proofs.Hooks.Walk.{led, hook_over, hooks-none, hooks-one, hooks-zero}
use Rattle.theory.proofs.Hooks.Laws.{Exchange, exchanges}
use Rattle.theory.proofs.Hooks.Betas.{digit_betas, length-digit_betas, digit_betas-append}
use Rattle.theory.proofs.Hooks.Betas.{digit_betas-shifted, rows-counted}

-- ---- a beta-number that is struck
-- an entry moved behind the entries p: each turns the sign
moved : (f : List ℤ → ℤ) → Alternating f → (x : ℤ) (p q : List ℤ)
    → f (x ∷ (p ++ q)) ≡ signed (odd (length p)) (f (p ++ (x ∷ q)))
moved f alternating x [] q = refl
moved f alternating x (y ∷ p) q =
    rw (odd-suc (length p), signed-not (odd (length p)) (f (y ∷ (p ++ (x ∷ q)))))
    (alternating _ _ (here y x (p ++ q)) ∙ ap neg_ℤ (moved (λ t. f (y ∷ t)) (alternating-after f y alternating) x p q))

abbrev counts : (List ℤ → ℤ) → Hook Digits → ℤ
counts f hook = signed hook.minus (f (digit_betas hook.leaves))

module _ (f : List ℤ → ℤ) (alternating : Alternating f) where
  -- it passes the zeros of b
  passed : (x : ℤ) (b a : Digits) → f (x ∷ digit_betas (b ++ a))
      ≡ signed (odd (zeros b)) (f (raised_by (length a) (digit_betas b) ++ (x ∷ digit_betas a)))
  passed x b a =
      let p : List ℤ = raised_by (length a) (digit_betas b) in
      let e : length p ≡ zeros b = length-map (digit_betas b) _ ∙ length-digit_betas b in
      rw (digit_betas-append b a, ← e) (moved f alternating x p (digit_betas a))

  -- it lands on the digit d between b and a
  landed : (b : Digits) (d : Bool) (a : Digits)
      → f (pos (length a) ∷ digit_betas (b ++ (d ∷ a))) ≡ sum (counts f) (hook_over b (d ∷ a))
  landed b true a =
      passed (pos (length a)) b (true ∷ a)
      ∙ ap (λ l. signed (odd (zeros b)) (f l)) (sym (digit_betas-append b (false ∷ a)))
      ∙ sym (+ℤ_idr (signed (odd (zeros b)) (f (digit_betas (b ++ (false ∷ a))))))
  landed b false a =
      let p : List ℤ = raised_by (suc (length a)) (digit_betas b) in
      passed (pos (length a)) b (false ∷ a)
      ∙ ap (signed (odd (zeros b))) (twice-zero f alternating p (pos (length a)) (digit_betas a))
      ∙ signed-zero (odd (zeros b))

struck-above : (n h : ℕ) → h < n → pos n -ℤ pos (suc h) ≡ pos (n - suc h)
struck-above n h l = rw (le-ltb n (suc h) l)

struck-below : (n h : ℕ) → n ≤ h → pos n -ℤ pos (suc h) ≡ negsuc (suc h - suc n)
struck-below n h l = rw (lt-ltb n (suc h) (omega arith))

struck-zero : (f : List ℤ → ℤ) → Alternating f → ZeroBelow f → (h : ℕ) (ds : Digits)
    → f ((pos (length ds) -ℤ pos (suc h)) ∷ digit_betas ds) ≡ sum (counts f) (hook_over (take h ds) (drop h ds))
struck-zero f alternating below h ds = elim (dec_lt h (length ds)) [
  | yes l ↦ rw (struck-above (length ds) h l, drop-cons ds h false l, ← (length-drop (suc h) ds))
      (ap (λ t. f (pos (length (drop (suc h) ds)) ∷ digit_betas t)) (split_at ds h false l)
      ∙ landed f alternating (take h ds) (get_or ds h false) (drop (suc h) ds))
  | no g ↦
      let l : length ds ≤ h = omega arith in
      rw (struck-below (length ds) h l, drop_of_length-le ds {i = h} l)
      (below [] (suc h - suc (length ds)) (digit_betas ds))
]

-- ---- the hooks
lowered-hooks : (f : List ℤ → ℤ) → Alternating f → ZeroBelow f → (h : ℕ) (ds : Digits)
    → lowered (suc h) f (digit_betas ds) ≡ sum (counts f) (hooks (suc h) ds)
lowered-hooks f alternating below h [] = rw (hooks-none (suc h)) (unfold lowered in refl)
lowered-hooks f alternating below h (true ∷ ds) = rw (hooks-one (suc h) ds)
    (lowered-hooks f alternating below h ds ∙ sym (sum-map (counts f) (led true) (hooks (suc h) ds)))
lowered-hooks f alternating below h (false ∷ ds) = rw (
  hooks-zero h ds,
  lowered-cons (suc h) f (pos (length ds)) (digit_betas ds),
  struck-zero f alternating below h ds,
  lowered-hooks (λ t. f (pos (length ds) ∷ t)) (alternating-after f _ alternating)
      (λ p n q. below (pos (length ds) ∷ p) n q) h ds,
  sum-append (counts f) (hook_over (take h ds) (drop h ds)) (map (led false) (hooks (suc h) ds)),
  sum-map (counts f) (led false) (hooks (suc h) ds),
  sum_same (Exchange (suc h) ds) (λ hook. counts f (led false hook)) (counts (λ t. f (pos (length ds) ∷ t)))
      (hooks (suc h) ds)
      (λ hook e. ap (λ n. signed hook.minus (f (pos n ∷ digit_betas hook.leaves))) e.same_length)
      (exchanges (suc h) ds),
)

-- ---- the rule
pub hook-rule : (h : ℕ) (c : Parts) → NoZero c → (times h c ≡ 0 → ⊥) → (ds : Digits)
    → rows ds on c ≡ sum (λ hook. signed hook.minus (rows (shifted hook.leaves) on without h c)) (hooks h ds)
hook-rule zero c k occurs ds = absurd (occurs (times_zero k))
hook-rule (suc h) c k occurs ds =
    rows-counted c k ds ∙ ap (λ g. g (digit_betas ds)) struck-first
    ∙ lowered-hooks (counted rest) (counted-alternating rest) (counted-zero-below rest) h ds
    ∙ ap (λ g. sum g (hooks (suc h) ds)) (fun_ext (λ hook. ap (signed hook.minus) (left hook.leaves)))
  where
    rest : Parts
    rest = without (suc h) c

    struck-first : counted c ≡ lowered (suc h) (counted rest)
    struck-first =
        let s = split (suc h) c occurs in
        rw s.left (ap counted s.whole ∙ counted-any s.before (suc h) s.behind)

    left : (ds : Digits) → counted rest (digit_betas ds) ≡ rows (shifted ds) on rest
    left ds =
        ap (counted rest) (sym (digit_betas-shifted ds))
        ∙ sym (rows-counted rest (no-zero-without (suc h) k) (shifted ds))
