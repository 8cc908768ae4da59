-- Chains of words: what a walk along a chain tells of all words, and how the chains of one word more are made. The laws
-- hold whatever number of a word is its chain.
--   Next f xs heads links i h   the word i comes next, on the chain h
use Rattle.std.specs.Prelude.{◌&&◌, ◌+◌, ◌-◌, ◌%◌}
use mathlib.Core.Path.{◌≡◌, refl, sym, ◌∙◌, ap}
use mathlib.Core.Bool.{and-true, and-false}
use Prim.Native.Nat.{◌≤◌, ◌<◌}
use native.Mathlib.Decide.{ℕ_discrete}
use native.Mathlib.Numerals.{add-one}
use native.Mathlib.Omega.{arith}
use borrow.Author.Tests.{eq-eqb, ne_eqb, lt-ltb, le-ltb}
use lib.ListN.{length-set, length-replicate}
use lib.Seq.{get_or-set_same, get_or-set_other}
use Rattle.theory.specs.Basics.{false, not, List, length, get_or, set, take, replicate, Each}
use Rattle.theory.specs.Basics.{ℕ, zero, suc, ◌=?◌}
use Rattle.theory.proofs.Basics.AtPlace.{each_at}
use Rattle.theory.specs.Limits.{page_limit}
use Rattle.pages.specs.Private.Differences.{absent, few_chains, many_chains, chain_of, latest, Chained, Walk, Room}
use Rattle.pages.proofs.AllDifferent.{absent-last}

-- ---- the chain of a word
module _ (n w : ℕ) where
  pub few-chain : n < many_chains → w % few_chains ≡ chain_of n w
  unfolding chain_of
  few-chain few = rw (lt-ltb n many_chains few)

  pub many-chain : many_chains ≤ n → w % many_chains ≡ chain_of n w
  unfolding chain_of
  many-chain many = rw (le-ltb n many_chains many)

-- ---- the latest word on a chain
module _ (f : ℕ → ℕ) (xs : List ℕ) (h : ℕ) where
  latest-on : (k : ℕ) → f (get_or xs k 0) ≡ h → latest f xs h (suc k) ≡ suc k
  unfolding latest
  latest-on k e = rw (eq-eqb (f (get_or xs k 0)) h e)

  latest-off : (k : ℕ) → (f (get_or xs k 0) ≡ h → ⊥) → latest f xs h (suc k) ≡ latest f xs h k
  unfolding latest
  latest-off k n = rw (ne_eqb (f (get_or xs k 0)) h n)

  latest-none : latest f xs h 0 ≡ 0
  unfolding latest
  latest-none = refl

  by_chain : (P : ℕ → Type 0) (k : ℕ) → (f (get_or xs k 0) ≡ h → P (suc k))
      → ((f (get_or xs k 0) ≡ h → ⊥) → P (latest f xs h k)) → P (latest f xs h (suc k))
  by_chain P k on off = elim (ℕ_discrete (f (get_or xs k 0)) h) [
    | yes e ↦ rw (latest-on k e) (on e)
    | no n ↦ rw (latest-off k n) (off n)
  ]

  latest-small : (k : ℕ) → latest f xs h k ≤ k
  latest-small zero = rw latest-none (omega arith)
  latest-small (suc k) =
      by_chain (λ p. p ≤ suc k) k (λ e. omega arith) (λ n. omega (arith, latest-small k))

  latest-there : (k j : ℕ) → latest f xs h k ≡ suc j → f (get_or xs j 0) ≡ h
  latest-there zero j = rw latest-none (λ e. absurd (omega arith))
  latest-there (suc k) j =
      by_chain (λ p. p ≡ suc j → f (get_or xs j 0) ≡ h) k
      (λ on e.
      let same : j ≡ k = omega arith in
      rw same on)
      (λ n. latest-there k j)

-- a word is none of the first k where it is none up to the latest on its chain
absent-latest : (f : ℕ → ℕ) (xs : List ℕ) (w k : ℕ) → k ≤ length xs
    → absent w (take (latest f xs (f w) k) xs) ≡ absent w (take k xs)
absent-latest f xs w zero h = rw (latest-none f xs (f w))
absent-latest f xs w (suc k) h =
    by_chain f xs (f w) (λ p. absent w (take p xs) ≡ absent w (take (suc k) xs)) k
    (λ e. refl)
    (λ n.
    let other : w =? get_or xs k 0 ≡ false = ne_eqb w (get_or xs k 0) (λ e. n (ap f (sym e))) in
    absent-latest f xs w k (omega arith) ∙ sym (absent-last w xs k (omega arith) ∙ rw other (and-true _)))

-- ---- a walk along a chain
module _ {xs links : List ℕ} {w p : ℕ} (walk : Walk xs links w p) where
  small : p ≤ walk.k
  small = omega (arith, latest-small walk.chain xs (walk.chain w) walk.k)

  pub walk-within : p ≤ length xs
  walk-within = omega (arith, small)

  pub walk-room : p ≤ length links
  walk-room = omega (arith, small)

  module _ (some : p ≡ 0 → ⊥) where
    before : suc (p - 1) ≡ p
    before = omega arith

    link-is : get_or links (p - 1) 0 ≡ latest walk.chain xs (walk.chain w) (p - 1)
    link-is =
        let there = latest-there walk.chain xs (walk.chain w) walk.k (p - 1) (sym (before ∙ walk.is-latest)) in
        walk.linked (p - 1) (omega (arith, small)) ∙ ap (λ h. latest walk.chain xs h (p - 1)) there

    pub link-before : get_or links (p - 1) 0 < p
    link-before = omega (arith, link-is, latest-small walk.chain xs (walk.chain w) (p - 1))

    pub walk-back : Walk xs links w (get_or links (p - 1) 0)
    walk-back = record {
      chain = walk.chain;
      k = p - 1;
      within = omega (arith, walk-within);
      room = omega (arith, walk-room);
      linked = λ j l. walk.linked j (omega (arith, small));
      is-latest = link-is;
    }

    to-the-last : absent w (take p xs) ≡ absent w (take (p - 1) xs) && not (w =? get_or xs (p - 1) 0)
    to-the-last = rw before at (absent-last w xs (p - 1) (omega (arith, walk-within)))

    pub absent-back : (get_or xs (p - 1) 0 ≡ w → ⊥) → absent w (take (get_or links (p - 1) 0) xs) ≡ absent w (take p xs)
    absent-back other =
        ap (λ q. absent w (take q xs)) link-is
        ∙ absent-latest walk.chain xs w (p - 1) (omega (arith, walk-within))
        ∙ sym (to-the-last ∙ rw (ne_eqb w (get_or xs (p - 1) 0) (λ e. other (sym e))) (and-true _))

    pub not-absent : get_or xs (p - 1) 0 ≡ w → false ≡ absent w (take p xs)
    not-absent found =
        let others = absent w (take (p - 1) xs) in
        sym (to-the-last ∙ rw (eq-eqb w (get_or xs (p - 1) 0) (sym found)) (and-false others))

-- ---- the chains of the first words
pub chained-first : (f : ℕ → ℕ) (xs heads links : List ℕ) → Each (◌≡ 0) heads → Chained f xs heads links 0
chained-first f xs heads links zeros = record {
  headed = λ h l. each_at (◌≡ 0) heads 0 h zeros l ∙ sym (latest-none f xs h);
  linked = λ j l. absurd (omega arith);
}

pub record Next (f : ℕ → ℕ) (xs heads links : List ℕ) (i h : ℕ) : Type 0 where
  pub chained : Chained f xs heads links i
  pub its-chain : h ≡ f (get_or xs i 0)
  pub a-head : h < length heads
  pub a_word : i < length xs
  pub a-link : i < length links

module _ {f : ℕ → ℕ} {xs heads links : List ℕ} {i h : ℕ} (n : Next f xs heads links i h) where
  head-is : get_or heads h 0 ≡ latest f xs (f (get_or xs i 0)) i
  head-is = n.chained.headed h n.a-head ∙ ap (λ g. latest f xs g i) n.its-chain

  pub walk_first : Walk xs links (get_or xs i 0) (get_or heads h 0)
  walk_first = record {
    chain = f;
    k = i;
    within = omega arith;
    room = omega arith;
    linked = n.chained.linked;
    is-latest = head-is;
  }

  pub absent-first : absent (get_or xs i 0) (take (get_or heads h 0) xs) ≡ absent (get_or xs i 0) (take i xs)
  absent-first =
      ap (λ q. absent (get_or xs i 0) (take q xs)) head-is ∙ absent-latest f xs (get_or xs i 0) i (omega arith)

  headed-next : (g : ℕ) → g < length heads → get_or (set heads h (suc i)) g 0 ≡ latest f xs g (suc i)
  headed-next g l = elim (ℕ_discrete g h) [
    | yes e ↦
        rw e (get_or-set_same heads h (suc i) 0 n.a-head ∙ sym (latest-on f xs h i (sym n.its-chain)))
    | no other ↦
        get_or-set_other heads h g (suc i) 0 other ∙ n.chained.headed g l
        ∙ sym (latest-off f xs g i (λ e. other (sym (n.its-chain ∙ e))))
  ]

  linked-next : (j : ℕ) → j < suc i → get_or (set links i (get_or heads h 0)) j 0 ≡ latest f xs (f (get_or xs j 0)) j
  linked-next j l = elim (ℕ_discrete j i) [
    | yes e ↦ rw e (get_or-set_same links i (get_or heads h 0) 0 n.a-link ∙ head-is)
    | no other ↦ get_or-set_other links i j (get_or heads h 0) 0 other ∙ n.chained.linked j (omega arith)
  ]

  pub chained-next : Chained f xs (set heads h (i + 1)) (set links i (get_or heads h 0)) (i + 1)
  chained-next = rw add-one record {
    headed = λ g l. headed-next g (omega (arith, length-set heads h (suc i)));
    linked = linked-next;
  }

-- ---- room
zeros-each : (n : ℕ) → Each {A = ℕ} (◌≡ 0) (replicate n 0)
zeros-each zero = tt
zeros-each (suc n) = (refl, zeros-each n)

pub room-of-zeros : (xs : List ℕ) (m n : ℕ) → length xs ≤ page_limit → length xs ≤ n → few_chains ≤ m
    → Room xs (replicate m 0) (replicate n 0)
room-of-zeros xs m n size enough some = record {
  size = size;
  enough = omega (arith, length-replicate {A = ℕ} n 0);
  some = omega (arith, length-replicate {A = ℕ} m 0);
  zeros = zeros-each m;
}
