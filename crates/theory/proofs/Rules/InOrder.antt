-- Rules 2 and 3 bring parts in order; and parts in order, once trimmed, begin with a positive part.
--   Below c l         in order with c in front
--   InOrder l         in order, and still so with a 0 put behind the last part
--   PositiveFirst l   no part, or a positive one in front
use Rattle.std.specs.Prelude.{◌≡◌, refl, ◌∷◌, ◌++◌, ◌+◌, ◌+ℤ◌, ◌-ℤ◌}
use Rattle.std.proofs.Common.{sym, ◌∙◌, ap, subst, arith}
use Rattle.std.proofs.Math.Dec.{eqb-suc-zero}
use Rattle.std.proofs.Math.IntN.{pos-ne-negsuc, +ℤ-neg_ℤ_cancel, -ℤ-+ℤ_cancel}
use Rattle.theory.specs.Basics.{true, List, [], ℕ, zero, suc, every, ◌=?◌}
use Rattle.theory.specs.Basics.{ℤ, pos, negsuc, nat_abs}
use Rattle.theory.specs.Character.{plus, turn, before, sink, ordered, trimmed}
use Rattle.theory.proofs.Basics.Integers.{from-difference, from-below, more-one, less_one, swap-back}
use Rattle.theory.proofs.Character.Terms.{Holds, holds-map, holds-turn, holds_then, sink-cases}
use Rattle.theory.specs.Rules.{AtMost, Descending}

-- ---- rules 2 and 3
one_less : (b c : ℤ) → AtMost b (c +ℤ pos 1) → AtMost (b -ℤ pos 1) c
one_less b c (n, e) = (n, sym (+ℤ-neg_ℤ_cancel c (pos 1)) ∙ ap (λ x. x -ℤ pos 1) e ∙ swap-back b (pos n) (negsuc 0))

exchange-falls : (a b : ℤ) (n : ℕ) → a -ℤ b ≡ negsuc (suc n) → AtMost (a +ℤ pos 1) (b -ℤ pos 1)
exchange-falls a b n e = (
  n,
  ap (λ x. x -ℤ pos 1) (from-below a b (suc n) e ∙ sym (more-one a (suc n)))
      ∙ swap-back (a +ℤ pos 1) (pos (suc n)) (negsuc 0) ∙ less_one (a +ℤ pos 1) n,
)

-- what holds of what the part a comes to, b - 1 in front of it
sunk : (P Q : List ℤ → Type 0) (a b : ℤ) (bs : List ℤ) → ((l : List ℤ) → P l → Q ((b -ℤ pos 1) ∷ l))
    → Holds P (sink (a +ℤ pos 1) bs) → Holds Q (turn (before (b -ℤ pos 1) (sink (a +ℤ pos 1) bs)))
sunk P Q a b bs e h =
    rw (holds-turn Q (before (b -ℤ pos 1) (sink (a +ℤ pos 1) bs)))
    (rw (holds_then Q (λ l. plus ((b -ℤ pos 1) ∷ l)) (sink (a +ℤ pos 1) bs))
    (holds-map P (λ l. Q ((b -ℤ pos 1) ∷ l)) (sink (a +ℤ pos 1) bs) e h))

abbrev Below : ℤ → List ℤ → Type 0
Below c l = Descending (c ∷ l)

below-back : (b : ℤ) (bs : List ℤ) → Below b bs → Below (b -ℤ pos 1 +ℤ pos 1) bs
below-back b bs d = subst (λ x. Below x bs) (sym (-ℤ-+ℤ_cancel b (pos 1))) d

sink-below : (c a : ℤ) (bs : List ℤ) → Below (c +ℤ pos 1) bs → AtMost a c → Holds (Below c) (sink a bs)
sink-below c a [] d h = (h, tt)
sink-below c a (b ∷ bs) d h = go (λ k. sink-below (b -ℤ pos 1) (a +ℤ pos 1) bs (below-back b bs d.1) k)
  where
    go : (AtMost (a +ℤ pos 1) (b -ℤ pos 1) → Holds (Below (b -ℤ pos 1)) (sink (a +ℤ pos 1) bs))
        → Holds (Below c) (sink a (b ∷ bs))
    go deeper =
        let o = one_less b c d.0 in
        sink-cases (Holds (Below c)) a b bs
        (λ n e. (h, ((n, from-difference a b (pos n) e), d.1)))
        (λ e. tt)
        (λ n e. sunk (Below (b -ℤ pos 1)) (Below c) a b bs (λ l k. (o, k)) (deeper (exchange-falls a b n e)))

sink-descending : (a : ℤ) (bs : List ℤ) → Descending bs → Holds Descending (sink a bs)
sink-descending a [] d = tt
sink-descending a (b ∷ bs) d = sink-cases (Holds Descending) a b bs
    (λ n e. ((n, from-difference a b (pos n) e), d))
    (λ e. tt)
    (λ n e. sunk (Below (b -ℤ pos 1)) Descending a b bs (λ l k. k)
    (sink-below (b -ℤ pos 1) (a +ℤ pos 1) bs (below-back b bs d) (exchange-falls a b n e)))

pub ordered-descending : (l : List ℤ) → Holds Descending (ordered l)
ordered-descending [] = tt
ordered-descending (a ∷ l) = rw (holds_then Descending (sink a) (ordered l))
    (holds-map Descending (λ s. Holds Descending (sink a s)) (ordered l) (sink-descending a) (ordered-descending l))

-- ---- in order and trimmed
abbrev pub InOrder : List ℤ → Type 0
InOrder l = Descending (l ++ (pos 0 ∷ []))

abbrev pub PositiveFirst : List ℤ → Type 0
PositiveFirst [] = Unit {0}
PositiveFirst (r ∷ rs) = (n : ℕ) × (r ≡ pos (suc n))

not_negative : (a : ℤ) (l : List ℤ) → InOrder (a ∷ l) → AtMost (pos 0) a
not_negative a [] d = d.0
not_negative a (b ∷ l) d = go (not_negative b l d.1) d.0
  where
    go : AtMost (pos 0) b → AtMost b a → AtMost (pos 0) a
    go (m, e) (n, f) = (m + n, f ∙ ap (λ x. x +ℤ pos n) e ∙ ap pos (omega arith))

all-zero : (l : List ℤ) → InOrder (pos 0 ∷ l) → every (λ b. nat_abs b =? 0) l ≡ true
all-zero [] d = refl
all-zero (b ∷ l) d = go b d.0 (not_negative b l d.1) d.1 (all-zero l)
  where
    go : (b : ℤ) → AtMost b (pos 0) → AtMost (pos 0) b → InOrder (b ∷ l)
        → (InOrder (pos 0 ∷ l) → every (λ b. nat_abs b =? 0) l ≡ true) → every (λ b. nat_abs b =? 0) (b ∷ l) ≡ true
    go (pos zero) m k d rest = rest d
    go (pos (suc n)) (j, e) k d rest =
        let h : 0 ≡ suc n + j = ap nat_abs e in
        absurd (omega arith)
    go (negsuc n) m (j, e) d rest = absurd (pos-ne-negsuc (0 + j) n (sym e))

pub trimmed-positive : (l : List ℤ) → InOrder l → PositiveFirst (trimmed l)
trimmed-positive [] d = tt
trimmed-positive (pos zero ∷ l) d = rw (all-zero l d) tt
trimmed-positive (pos (suc n) ∷ l) d = rw (eqb-suc-zero n) (n, refl)
trimmed-positive (negsuc n ∷ l) d =
    let (j, e) = not_negative (negsuc n) l d in
    absurd (pos-ne-negsuc (0 + j) n (sym e))
