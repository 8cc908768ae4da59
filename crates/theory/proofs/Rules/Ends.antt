-- Every way of following the three rules ends. Rule 3 exchanges two neighbouring beta-numbers, a smaller one and a
-- greater one behind it: of such pairs there is then one fewer.
--   Next l          some rule applies to the list l, or it is a shape
--   Ends l          every way from l ends: a rule applies or l is a shape, and every way from what rule 3 makes of l ends
--   one-if-less     1 where x is less than y, else 0; greater x l, how many entries of l are greater than x
--   rises l         how many pairs of entries of l have the greater one behind
use Rattle.std.specs.Prelude.{◌≡◌, ◌≤◌, ◌∷◌, ◌++◌, ◌+◌, ◌+ℤ◌, ◌-ℤ◌}
use Rattle.std.proofs.Common.{sym, ◌∙◌, ap, arith}
use Rattle.std.specs.Int.Signed.{non_neg}
use Rattle.std.proofs.Math.IntN.{+ℤ_assoc, +ℤ_comm, +ℤ-neg_ℤ_cancel}
use Rattle.theory.specs.Basics.{cond, List, [], ℕ, zero, suc, length}
use Rattle.theory.specs.Basics.{ℤ, pos, negsuc, neg_ℤ}
use Rattle.theory.proofs.Basics.Integers.{difference-back, from-below, more-one, less_one}
use Rattle.theory.specs.Character.{Term}
use Rattle.theory.proofs.Character.Alternating.{raised_by}
use Rattle.theory.proofs.Character.Betas.{betas, betas-append}
use Rattle.theory.specs.Rules.{Stops, Moves, by-rule-3, Comes, stopped, moved}
use Rattle.theory.proofs.Rules.Laws.{follows}

pub data Next (l : List ℤ) : Type 0 where
  stops : {t : Term (List ℤ)} → Stops l t → Next l
  moves : {k : List ℤ} → Moves l k → Next l

pub data Ends : List ℤ → Type 0 where
  ends : {l : List ℤ} → Next l → ((k : List ℤ) → Moves l k → Ends k) → Ends l

-- ---- pairs that rise
abbrev one-if-less : ℤ → ℤ → ℕ
one-if-less x y = cond (non_neg (x -ℤ y)) 0 1

abbrev greater : ℤ → List ℤ → ℕ
greater x [] = 0
greater x (y ∷ l) = one-if-less x y + greater x l

abbrev pub rises : List ℤ → ℕ
rises [] = 0
rises (x ∷ l) = greater x l + rises l

greater-exchanged : (p : List ℤ) (x y z : ℤ) (q : List ℤ)
    → greater z (p ++ (x ∷ y ∷ q)) ≡ greater z (p ++ (y ∷ x ∷ q))
greater-exchanged [] x y z q = omega arith
greater-exchanged (w ∷ p) x y z q = ap (λ n. one-if-less z w + n) (greater-exchanged p x y z q)

-- x and x + n + 1, exchanged
rises-exchanged : (p : List ℤ) (x : ℤ) (n : ℕ) (q : List ℤ)
    → rises (p ++ (x ∷ (x +ℤ pos (suc n)) ∷ q)) ≡ suc (rises (p ++ ((x +ℤ pos (suc n)) ∷ x ∷ q)))
rises-exchanged [] x n q =
    let more : (x +ℤ pos (suc n)) -ℤ x ≡ pos (suc n) =
    ap (λ z. z -ℤ x) (+ℤ_comm x (pos (suc n))) ∙ +ℤ-neg_ℤ_cancel (pos (suc n)) x in
    let less : x -ℤ (x +ℤ pos (suc n)) ≡ negsuc n = sym (difference-back (x +ℤ pos (suc n)) x) ∙ ap neg_ℤ more in
    rw (more, less) (omega arith)
rises-exchanged (z ∷ p) x n q =
    omega (arith, greater-exchanged p x (x +ℤ pos (suc n)) z q, rises-exchanged p x n q)

-- ---- rule 3 makes one pair fewer
pub moves-fall : {l k : List ℤ} → Moves l k → rises (betas l) ≡ suc (rises (betas k))
moves-fall (by-rule-3 p a b q n e) =
    let behind : b +ℤ pos (length q) ≡ a +ℤ pos (suc (length q)) +ℤ pos (suc n) =
    ap (λ z. z +ℤ pos (length q)) (from-below a b (suc n) e) ∙ +ℤ_assoc a (pos (suc (suc n))) (pos (length q))
    ∙ ap (λ k. a +ℤ pos k) (omega arith) ∙ sym (+ℤ_assoc a (pos (suc (length q))) (pos (suc n))) in
    rw (
      betas-append p (a ∷ b ∷ q),
      betas-append p ((b -ℤ pos 1) ∷ (a +ℤ pos 1) ∷ q),
      less_one b (length q),
      more-one a (length q),
      behind,
    )
    (rises-exchanged (raised_by (suc (suc (length q))) (betas p)) (a +ℤ pos (suc (length q))) n (betas q))

-- ---- every way
pub some-rule : (l : List ℤ) → Next l
some-rule l = first (follows l)
  where
    first : {t : Term (List ℤ)} → Comes l t → Next l
    first (stopped s) = stops s
    first (moved m r) = moves m

pub every-way-ends : (l : List ℤ) → Ends l
every-way-ends l = within (rises (betas l)) l (omega arith)
  where
    within : (n : ℕ) (l : List ℤ) → rises (betas l) ≤ n → Ends l
    within zero l h = ends (some-rule l) (λ k m. absurd (omega (arith, moves-fall m)))
    within (suc n) l h = ends (some-rule l) (λ k m. within n k (omega (arith, moves-fall m)))

pub no-endless-way : (l : ℕ → List ℤ) → ((i : ℕ) → Moves (l i) (l (suc i))) → ⊥
no-endless-way l m = within (rises (betas (l 0))) 0 (omega arith)
  where
    within : (n i : ℕ) → rises (betas (l i)) ≤ n → ⊥
    within zero i h = omega (arith, moves-fall (m i))
    within (suc n) i h = within n (suc i) (omega (arith, moves-fall (m i)))
