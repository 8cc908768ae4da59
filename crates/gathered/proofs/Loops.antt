-- What one turn of each loop of `joining` does: what the rest makes of the present state is what the whole makes of the
-- first.
--   run e xs k p i   a front xs, then k times e, then p from the place i on
use Rattle.std.specs.Prelude.{◌∷◌, ◌++◌, ◌+◌, ◌*◌, ◌^◌, ◌+ℤ◌}
use mathlib.Core.Path.{◌≡◌, refl, sym, ◌∙◌, ap}
use mathlib.Core.List.{append_assoc}
use Prim.Native.Nat.{◌≤◌, ◌<◌}
use native.Mathlib.Nat.{add-zero, zero-add}
use native.Mathlib.Decide.{ℕ_discrete}
use native.Mathlib.Numerals.{add-one}
use native.Mathlib.Omega.{arith}
use borrow.Author.Tests.{eq-eqb, ne_eqb, lt-ltb, le-ltb}
use lib.ListN.{length-append, length-replicate, drop_of_length-le}
use lib.Seq.{sets, drop-cons, set_at, set_out, append_snoc, get_or-set_same, get_or-set_other}
use Rattle.std.specs.Prelude.{◌==◌, position}
use Rattle.std.specs.Prelude.{Option, Some}
use Rattle.std.specs.List.{position_from}
use Rattle.std.proofs.lemmas.Iterator.Adapters.{position_from-zero}
use Rattle.std.specs.Option.{unwrap_or}
use Rattle.theory.specs.Basics.{Bool, true, false, cond, List, [], length, get_or, set, drop}
use Rattle.theory.specs.Basics.{replicate, ℕ, zero}
use Rattle.theory.specs.Basics.{suc, ℤ, pos, nat_abs, ◌=?◌, ◌<?◌}
use Rattle.theory.proofs.Bounds.Laws.{abs-add}
use Rattle.gathered.specs.Private.Joining.{place, Small, saved_at, saved_by, raised, picked}

-- ---- a word looked for
from-place : (page : List ℕ) (x i : ℕ)
    → unwrap_or (position_from (λ (y : ℕ). y == x) i page) (i + length page) ≡ i + place page x
unfolding place
from-place [] x i = refl
from-place (y ∷ page) x i = go (y =? x) (from-place page x (i + 1))
  where
    go : (b : Bool)
        → unwrap_or (position_from (λ (y : ℕ). y == x) (i + 1) page) (i + 1 + length page) ≡ i + 1 + place page x
        → unwrap_or (cond b (Some i) (position_from (λ (y : ℕ). y == x) (i + 1) page)) (i + suc (length page))
        ≡ i + cond b 0 (suc (place page x))
    go true later = sym (add-zero i)
    go false later =
        let long : i + suc (length page) ≡ i + 1 + length page = omega arith in
        let there : i + 1 + place page x ≡ i + suc (place page x) = omega arith in
        rw long (later ∙ there)

pub position-place : (page : List ℕ) (x : ℕ)
    → unwrap_or (position (λ (y : ℕ). y == x) page) (length page) ≡ place page x
position-place page x =
    ap (λ (o : Option ℕ). unwrap_or o (length page)) (position_from-zero (λ (y : ℕ). y == x) page)
    ∙ ap (λ (n : ℕ). unwrap_or (position_from (λ (y : ℕ). y == x) 0 page) n) (sym (zero-add (length page)))
    ∙ from-place page x 0 ∙ zero-add (place page x)

-- ---- lines spared, and weights added
module _ (column : List ℤ) (ps : List ℕ) (ws : List ℤ) (j : ℕ) where
  abbrev at : ℕ
  at = get_or ps j 0

  abbrev weight : ℤ
  weight = get_or ws j (pos 0)

  module _ (more : j < length ps) (same : length ps ≡ length ws) where
    pub saved-next : saved_at column at weight + saved_by column (drop (j + 1) ps) (drop (j + 1) ws)
        ≡ saved_by column (drop j ps) (drop j ws)
    unfolding saved_by
    saved-next = rw (add-one j, drop-cons ps j 0 more, drop-cons ws j (pos 0) (omega arith))

    pub raised-next : raised (set column at (get_or column at (pos 0) +ℤ weight)) (drop (j + 1) ps) (drop (j + 1) ws)
        ≡ raised column (drop j ps) (drop j ws)
    unfolding raised
    raised-next = rw (add-one j, drop-cons ps j 0 more, drop-cons ws j (pos 0) (omega arith))

    pub raised-none : length column ≤ at
        → raised column (drop (j + 1) ps) (drop (j + 1) ws) ≡ raised column (drop j ps) (drop j ws)
    raised-none out =
        ap (λ (c : List ℤ). raised c (drop (j + 1) ps) (drop (j + 1) ws))
        (sym (set_out column at (get_or column at (pos 0) +ℤ weight) out))
        ∙ raised-next

  pub saved-all : length ps ≤ j → saved_by column (drop j ps) (drop j ws) ≡ 0
  unfolding saved_by
  saved-all l = rw (drop_of_length-le ps l)

  pub raised_all : length ps ≤ j → raised column (drop j ps) (drop j ws) ≡ column
  unfolding raised
  raised_all l = rw (drop_of_length-le ps l)

-- a hook line at one place
module _ (column : List ℤ) (p : ℕ) (w : ℤ) where
  pub saved-none : length column ≤ p → 0 ≡ saved_at column p w
  unfolding saved_at
  saved-none l = rw (le-ltb p (length column) l)

  module _ (there : p < length column) where
    pub saved-two : nat_abs (get_or column p (pos 0) +ℤ w) ≡ 0 → 2 ≡ saved_at column p w
    unfolding saved_at
    saved-two e = rw (lt-ltb p (length column) there, eq-eqb (nat_abs (get_or column p (pos 0) +ℤ w)) 0 e)

    pub saved-one : (nat_abs (get_or column p (pos 0) +ℤ w) ≡ 0 → ⊥) → 1 ≡ saved_at column p w
    unfolding saved_at
    saved-one n = rw (lt-ltb p (length column) there, ne_eqb (nat_abs (get_or column p (pos 0) +ℤ w)) 0 n)

pub saved-most : (column : List ℤ) (p : ℕ) (w : ℤ) → saved_at column p w ≤ 2
unfolding saved_at
saved-most column p w = go (p <? length column) (nat_abs (get_or column p (pos 0) +ℤ w) =? 0)
  where
    go : (a b : Bool) → cond a (cond b 2 1) 0 ≤ 2
    go true true = omega arith
    go true false = omega arith
    go false b = omega arith

-- sizes grow by one weight's at each turn
pub small-more : (column : List ℤ) (p k : ℕ) (w : ℤ) → p < length column → Small k column → nat_abs w < 1 * 2 ^ 58
    → Small (k + 1) (set column p (get_or column p (pos 0) +ℤ w))
small-more column p k w there small few i = elim (ℕ_discrete i p) [
  | yes e ↦
      rw (e, get_or-set_same column p (get_or column p (pos 0) +ℤ w) (pos 0) there)
      (omega (arith, abs-add (get_or column p (pos 0)) w, small p))
  | no n ↦
      rw (get_or-set_other column p i (get_or column p (pos 0) +ℤ w) (pos 0) n)
      (omega (arith, small i))
]

-- ---- lines moved to the front
module _ {A : Type 0} (e : A) where
  abbrev pub run : List A → ℕ → List A → ℕ → List A
  run xs k p i = xs ++ (replicate k e ++ drop i p)

  one_more : (k : ℕ) (r : List A) → replicate k e ++ e ∷ r ≡ e ∷ (replicate k e ++ r)
  one_more zero r = refl
  one_more (suc k) r = ap {B = List A} (λ ys. e ∷ ys) (one_more k r)

  module _ (xs : List A) (k : ℕ) (p : List A) (i : ℕ) (at : length xs + k ≡ i) (more : i < length p) where
    length_front : length (xs ++ replicate k e) ≡ i
    length_front = length-append xs (replicate k e) ∙ ap (λ (n : ℕ). length xs + n) (length-replicate k e) ∙ at

    pub run-split : run xs k p i ≡ (xs ++ replicate k e) ++ get_or p i e ∷ drop (suc i) p
    run-split = rw (drop-cons p i e more) (sym (append_assoc xs (replicate k e) (get_or p i e ∷ drop (suc i) p)))

    pub run-freed : set (run xs k p i) i e ≡ run xs (suc k) p (i + 1)
    run-freed =
        ap (λ (l : List A). set l i e) run-split
        ∙ set_at (xs ++ replicate k e) (get_or p i e) (drop (suc i) p) e i length_front
        ∙ append_assoc xs (replicate k e) (e ∷ drop (suc i) p)
        ∙ rw (add-one i, one_more k (drop (suc i) p)) refl

    pub run_moved : (v : A) → set (run xs (suc k) p (i + 1)) (length xs) v ≡ run (xs ++ v ∷ []) k p (i + 1)
    run_moved v =
        set_at xs e (replicate k e ++ drop (i + 1) p) v (length xs) refl
        ∙ sym (append_snoc xs v (replicate k e ++ drop (i + 1) p))

-- ---- lines put at the end
module _ {A : Type 0} (d : A) (n : ℕ) (page : List A) (ps : List ℕ) (xs : List A) (j next : ℕ)
    (more : j < length ps) (same : length ps ≡ length xs) where
  abbrev left : List A
  left = picked n (drop j ps) (drop j xs)

  abbrev later : List A
  later = picked n (drop (j + 1) ps) (drop (j + 1) xs)

  pub picked-here : get_or ps j 0 ≡ n → left ≡ get_or xs j d ∷ later
  unfolding picked
  picked-here e = rw (add-one j, drop-cons ps j 0 more, drop-cons xs j d (omega arith), eq-eqb (get_or ps j 0) n e)

  pub picked-not : (get_or ps j 0 ≡ n → ⊥) → left ≡ later
  unfolding picked
  picked-not e = rw (add-one j, drop-cons ps j 0 more, drop-cons xs j d (omega arith), ne_eqb (get_or ps j 0) n e)

  pub append-here : get_or ps j 0 ≡ n → sets (set page next (get_or xs j d)) (next + 1) later ≡ sets page next left
  append-here e = rw (picked-here e, add-one next)

  pub counted-here : get_or ps j 0 ≡ n → next + 1 + length later ≡ next + length left
  counted-here e = rw (picked-here e) (omega arith)

pub picked_none : {A : Type 0} (n : ℕ) (ps : List ℕ) (xs : List A) (j : ℕ) → length ps ≤ j
    → picked n (drop j ps) (drop j xs) ≡ []
unfolding picked
picked_none n ps xs j l = rw (drop_of_length-le ps l)
