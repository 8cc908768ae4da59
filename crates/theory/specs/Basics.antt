-- The few words that every file uses beside the library's.
--   m =? n, m <? n, m ≤? n   tests of two numbers, true or false; odd n, whether n leaves 1 when it is halved
--   same ms ns               whether they are the same numbers in the same places
--   keep test xs             the elements that pass the test, in their order; count, how many; every, whether all do
--   Each P xs                P holds of each element of xs
--   joined f xs              the lists f x, for each x of xs, one after the other
--   total ns, product ns     of natural numbers; sum f xs, of f over xs, in ℤ; signed minus z, -z if minus and else z
--   down_from n               n, .., 1; up_from i n, the n numbers i, i + 1, ..
-- Of the library: cond b x y is x if b is true and else y; get_or xs i d is element i of xs, from 0, and d past its end;
-- set xs i x is xs with x in its place; m - n is 0 where n is above m; negsuc n is -(n + 1); nat_abs z is |z|.
pub use Rattle.std.specs.Prelude.{Bool, true, false, cond, not, ◌&&◌, ℕ, zero, suc, ◌+◌, ◌-◌, ◌*◌, ◌/◌, ◌%◌, ◌^◌, length, get_or, set, take, drop, replicate, ℤ, pos, negsuc, ◌+ℤ◌, ◌-ℤ◌, ◌*ℤ◌, neg_ℤ, nat_abs}
pub use mathlib.Core.List.{List, [], ◌∷◌, ◌++◌, map, foldr, reverse}
use Rattle.std.specs.Prelude.{eqb, ltb, leb}
pub mod AtPlace
pub mod Integers

infix 40 ◌=?◌ ◌<?◌ ◌≤?◌
abbrev pub ◌=?◌ : ℕ → ℕ → Bool
m =? n = eqb m n

abbrev pub ◌<?◌ : ℕ → ℕ → Bool
m <? n = ltb m n

abbrev pub ◌≤?◌ : ℕ → ℕ → Bool
m ≤? n = leb m n

abbrev pub odd : ℕ → Bool
odd n = n % 2 =? 1

abbrev pub same : List ℕ → List ℕ → Bool
same [] [] = true
same [] (n ∷ ns) = false
same (m ∷ ms) [] = false
same (m ∷ ms) (n ∷ ns) = m =? n && same ms ns

abbrev pub keep : {A : Type 0} → (A → Bool) → List A → List A
keep test [] = []
keep test (x ∷ xs) = cond (test x) (x ∷ keep test xs) (keep test xs)

abbrev pub count : {A : Type 0} → (A → Bool) → List A → ℕ
count test xs = length (keep test xs)

abbrev pub every : {A : Type 0} → (A → Bool) → List A → Bool
every test [] = true
every test (x ∷ xs) = test x && every test xs

abbrev pub Each : {A : Type 0} → (A → Type 0) → List A → Type 0
Each P [] = Unit {0}
Each P (x ∷ xs) = P x × Each P xs

abbrev pub joined : {A B : Type 0} → (A → List B) → List A → List B
joined f [] = []
joined f (x ∷ xs) = f x ++ joined f xs

abbrev pub total : List ℕ → ℕ
total ns = foldr ◌+◌ 0 ns

abbrev pub product : List ℕ → ℕ
product ns = foldr ◌*◌ 1 ns

abbrev pub sum : {A : Type 0} → (A → ℤ) → List A → ℤ
sum f [] = pos 0
sum f (x ∷ xs) = f x +ℤ sum f xs

abbrev pub signed : Bool → ℤ → ℤ
signed true z = neg_ℤ z
signed false z = z

abbrev pub down_from : ℕ → List ℕ
down_from zero = []
down_from (suc n) = suc n ∷ down_from n

abbrev pub up_from : ℕ → ℕ → List ℕ
up_from i zero = []
up_from i (suc n) = i ∷ up_from (suc i) n
