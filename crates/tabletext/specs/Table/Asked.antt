-- What an input asks for: one number of one or two digits, or none. What the program then writes.
--   asking n   the line that asks for degree n
use Rattle.std.specs.Prelude.{◌≡◌, refl, ◌⊎◌, ◌≤◌, ◌<◌, ◌∷◌}
use Rattle.std.proofs.Common.{sym, ◌∙◌, ap, inl, inr, ⊎_elim, arith, length-append, length-take}
use Rattle.std.proofs.Math.Decide.{ℕ_discrete}
use borrow.Author.Tests.{lt-ltb, le-ltb}
use Rattle.theory.specs.Basics.{Bool, true, List, [], ℕ, zero, suc, length, take}
use Rattle.theory.specs.Basics.{every, down_from, same, Each}
use Rattle.theory.proofs.Basics.Laws.{both, same_lists}
use Rattle.theory.proofs.Basics.Keep.{each_keep}
use Rattle.theory.specs.Listing.{listing}
use Rattle.text.specs.Text.{Text, decimal, field}
use Rattle.text.specs.Text.Decimals.{decimal-length}
use Rattle.tabletext.specs.Table.{table, asked, chartable}

abbrev pub asking : ℕ → Text
asking n = field "degree=" (decimal n)

pub asking-short : (n : ℕ) → n < 100 → length (asking n) ≤ 10
asking-short n h = omega (arith, decimal-length n 1 (omega arith), length-append (decimal n) (10 ∷ []))

-- ---- the numbers of one or two digits
abbrev numbers : List ℕ
numbers = 0 ∷ down_from 99

every-down : (test : ℕ → Bool) (k : ℕ) → every test (down_from k) ≡ true → (n : ℕ) → n < k → test (suc n) ≡ true
every-down test zero e n h = absurd (omega arith)
every-down test (suc k) e n h =
    let t = both (test (suc k)) (every test (down_from k)) e in
    elim (ℕ_discrete n k) [
      | yes q ↦ rw q t.0
      | no f ↦ every-down test k t.1 n (omega arith)
    ]

-- a test that is computed
every-number : (test : ℕ → Bool) → every test numbers ≡ true → (n : ℕ) → n < 100 → test n ≡ true
every-number test e zero h = (both (test 0) _ e).0
every-number test e (suc n) h = every-down test 99 (both (test 0) _ e).1 n (omega arith)

each-down : (P : ℕ → Type 0) (k : ℕ) → ((n : ℕ) → n ≤ k → P n) → Each P (down_from k)
each-down P zero f = tt
each-down P (suc k) f = (f (suc k) (omega arith), each-down P k (λ n h. f n (omega arith)))

each_number : (P : ℕ → Type 0) → ((n : ℕ) → n < 100 → P n) → Each P numbers
each_number P f = (f 0 (omega arith), each-down P 99 (λ n h. f n (omega arith)))

-- ---- one number, or none
pub asked-for : (n : ℕ) → n < 100 → asked (asking n) ≡ n ∷ []
unfolding asked decimal
asked-for n h = same_lists (asked (asking n)) (n ∷ []) (every-number (λ n. same (asked (asking n)) (n ∷ [])) refl n h)

pub one-or-none : (input : Text) → (asked input ≡ []) ⊎ ((n : ℕ) × (n < 100) × (input ≡ asking n))
unfolding asked
one-or-none input =
    go (asked input) (each_keep (λ n. same input (asking n)) (◌< 100) numbers (each_number (◌< 100) (λ n h. h)))
  where
    go : (ns : List ℕ) → Each (λ n. (n < 100) × (same input (asking n) ≡ true)) ns
        → (ns ≡ []) ⊎ ((n : ℕ) × (n < 100) × (input ≡ asking n))
    go [] e = inl refl
    go (n ∷ ns) e = inr (n, e.0.0, same_lists input (asking n) e.0.1)

-- ---- what is written
module _ (limit : ℕ) (input : Text) where
  pub asks_nothing : asked input ≡ [] → chartable limit input ≡ field "refused=" (decimal 13)
  unfolding chartable
  asks_nothing e = rw e

  module _ (n : ℕ) (e : asked input ≡ n ∷ []) where
    pub asks-too-much : limit < n → chartable limit input ≡ field "refused=" (decimal 12)
    unfolding chartable
    asks-too-much h = rw (e, lt-ltb limit n h)

    pub asks-for : n ≤ limit → chartable limit input ≡ table n (listing n)
    unfolding chartable
    asks-for h = rw (e, le-ltb limit n h)

-- ---- a long input asks for nothing, and nor do its first 64 bytes
long-asks-nothing : (input : Text) → 10 < length input → asked input ≡ []
long-asks-nothing input h =
    ⊎_elim (λ e. e) (λ w. absurd (omega (arith, asking-short w.0 w.1, ap length w.2))) (one-or-none input)

pub long-input : (limit : ℕ) (input : Text) → 64 ≤ length input
    → chartable limit input ≡ chartable limit (take 64 input)
long-input limit input h =
    let first = long-asks-nothing (take 64 input) (omega (arith, length-take 64 input)) in
    asks_nothing limit input (long-asks-nothing input (omega arith)) ∙ sym (asks_nothing limit (take 64 input) first)
