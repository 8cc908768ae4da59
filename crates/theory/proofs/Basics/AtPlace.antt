-- What stands at a place of a list.
use Rattle.std.specs.Prelude.{◌≡◌, refl, ◌<◌, ◌∷◌, ◌+◌}
use Rattle.std.proofs.Common.{sym, ◌∙◌, ap, zero-add, add-zero, add-suc, suc-add, arith, eqb-true}
use Rattle.theory.specs.Basics.{Bool, true, List, [], map, every, ℕ, zero, suc, ◌=?◌}
use Rattle.theory.specs.Basics.{length, get_or, up_from, Each}
use Rattle.theory.proofs.Basics.Laws.{both}
use Rattle.theory.specs.Basics.AtPlace.{tabled}

pub each_at : {A : Type 0} (P : A → Type 0) (xs : List A) (d : A) (i : ℕ) → Each P xs → i < length xs → P (get_or xs i d)
each_at P [] d i e h = absurd (omega arith)
each_at P (x ∷ xs) d zero e h = e.0
each_at P (x ∷ xs) d (suc i) e h = each_at P xs d i e.1 (omega arith)

pub every-at : {A : Type 0} (test : A → Bool) (xs : List A) (d : A) (i : ℕ) → every test xs ≡ true → i < length xs
    → test (get_or xs i d) ≡ true
every-at test [] d i e h = absurd (omega arith)
every-at test (x ∷ xs) d zero e h = (both (test x) (every test xs) e).0
every-at test (x ∷ xs) d (suc i) e h = every-at test xs d i (both (test x) (every test xs) e).1 (omega arith)

pub map_at : {A B : Type 0} (f : A → B) (xs : List A) (d : A) (e : B) (i : ℕ) → i < length xs
    → get_or (map f xs) i e ≡ f (get_or xs i d)
map_at f [] d e i h = absurd (omega arith)
map_at f (x ∷ xs) d e zero h = refl
map_at f (x ∷ xs) d e (suc i) h = map_at f xs d e i (omega arith)

tabled-from : (f : ℕ → ℕ) (ns : List ℕ) (i k : ℕ) → tabled f i ns ≡ true → k < length ns → get_or ns k 0 ≡ f (i + k)
tabled-from f [] i k t h = absurd (omega arith)
tabled-from f (n ∷ ns) i zero t h = rw add-zero (eqb-true n (f i) (both (n =? f i) _ t).0)
tabled-from f (n ∷ ns) i (suc k) t h =
    rw (add-suc, ← suc-add) (tabled-from f ns (suc i) k (both (n =? f i) _ t).1 (omega arith))

pub tabled-at : (f : ℕ → ℕ) (ns : List ℕ) (k : ℕ) → tabled f 0 ns ≡ true → k < length ns → get_or ns k 0 ≡ f k
tabled-at f ns k t h = rw zero-add at (tabled-from f ns 0 k t h)

-- ---- what is computed for all numbers below n holds of each
pub up-length : (i n : ℕ) → length (up_from i n) ≡ n
up-length i zero = refl
up-length i (suc n) = ap suc (up-length (suc i) n)

up_at : (i n k : ℕ) → k < n → get_or (up_from i n) k 0 ≡ i + k
up_at i zero k h = absurd (omega arith)
up_at i (suc n) zero h = omega arith
up_at i (suc n) (suc k) h = omega (arith, up_at (suc i) n k (omega arith))

module _ (n k : ℕ) (h : k < n) where
  pub map-up-at : {A : Type 0} (f : ℕ → A) (d : A) → get_or (map f (up_from 0 n)) k d ≡ f k
  map-up-at f d =
      map_at f (up_from 0 n) 0 d k (omega (arith, up-length 0 n)) ∙ ap f (up_at 0 n k h ∙ zero-add k)

  pub every-up : (test : ℕ → Bool) → every test (up_from 0 n) ≡ true → test k ≡ true
  every-up test e =
      ap test (sym (up_at 0 n k h ∙ zero-add k)) ∙ every-at test (up_from 0 n) 0 k e (omega (arith, up-length 0 n))

  pub same_up : {A : Type 0} (f g : ℕ → A) → A → map f (up_from 0 n) ≡ map g (up_from 0 n) → f k ≡ g k
  same_up f g d e = sym (map-up-at f d) ∙ ap (λ xs. get_or xs k d) e ∙ map-up-at g d
