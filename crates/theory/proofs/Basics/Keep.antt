-- What holds of each element, what is kept, and totals: of parts of a list, and of the elements that pass a test.
--   FirstFrom test i k   k is the first of the numbers i, i + 1, .. that passes the test
use Rattle.std.specs.Prelude.{◌≡◌, refl, ◌≤◌, ◌<◌, ◌∷◌, ◌++◌, ◌+◌, ◌+ℤ◌}
use Rattle.std.proofs.Common.{sym, ap, ◌∙◌, arith}
use Rattle.std.proofs.lemmas.Bool.{false≢true}
use Rattle.std.proofs.Math.IntN.{+ℤ_assoc}
use Rattle.theory.specs.Basics.{Bool, true, false, not, cond, List, [], map, length, get_or, take, drop}
use Rattle.theory.specs.Basics.{ℕ, zero, suc, ℤ, keep, every, total, sum, up_from, Each}
use Rattle.theory.proofs.Basics.Laws.{both, each_same, each_member}
use Rattle.theory.specs.Basics.Integers.{swap-front}

-- two tests are the same if each passes where the other does
pub same_test : (a b : Bool) → (a ≡ true → b ≡ true) → (b ≡ true → a ≡ true) → a ≡ b
same_test true true f g = refl
same_test true false f g = absurd (false≢true (f refl))
same_test false true f g = absurd (false≢true (g refl))
same_test false false f g = refl

module _ {A : Type 0} where
  -- ---- each element
  pub each-parts : (P : A → Type 0) (xs ys : List A) → Each P (xs ++ ys) → Each P xs × Each P ys
  each-parts P [] ys e = (tt, e)
  each-parts P (x ∷ xs) ys e =
      let r = each-parts P xs ys e.1 in
      ((e.0, r.0), r.1)

  -- what is true of each is true of each but one
  pub each-others : (P : A → Type 0) (xs : List A) (i : ℕ) → Each P xs → Each P (take i xs ++ drop (suc i) xs)
  each-others P [] zero e = tt
  each-others P [] (suc i) e = tt
  each-others P (x ∷ xs) zero e = e.1
  each-others P (x ∷ xs) (suc i) e = (e.0, each-others P xs i e.1)

  module _ (test : A → Bool) where
    pub every-each : (xs : List A) → every test xs ≡ true → Each (λ x. test x ≡ true) xs
    every-each [] e = tt
    every-each (x ∷ xs) e =
        let b = both (test x) (every test xs) e in
        (b.0, every-each xs b.1)

    pub each-every : (xs : List A) → Each (λ x. test x ≡ true) xs → every test xs ≡ true
    each-every [] e = refl
    each-every (x ∷ xs) e = rw e.0 (each-every xs e.1)

    -- ---- what is kept
    pub each_keep : (P : A → Type 0) (xs : List A) → Each P xs → Each (λ x. P x × (test x ≡ true)) (keep test xs)
    each_keep P [] e = tt
    each_keep P (x ∷ xs) e = go (test x) refl (each_keep P xs e.1)
      where
        Kept : A → Type 0
        Kept x = P x × (test x ≡ true)

        go : (b : Bool) → test x ≡ b → Each Kept (keep test xs) → Each Kept (cond b (x ∷ keep test xs) (keep test xs))
        go true t r = ((e.0, t), r)
        go false t r = r

    pub each-kept : (P : A → Type 0) (xs : List A) → Each P xs → Each P (keep test xs)
    each-kept P xs e = each_same _ P (keep test xs) (λ x k. k.0) (each_keep P xs e)

    pub every-kept : (xs : List A) → every test (keep test xs) ≡ true
    every-kept xs =
        let each = each_keep (λ x. Unit {0}) xs (each_member _ xs (λ x m. tt)) in
        each-every (keep test xs) (each_same _ _ (keep test xs) (λ x k. k.1) each)

    pub keep_all : (xs : List A) → Each (λ x. test x ≡ true) xs → keep test xs ≡ xs
    keep_all [] e = refl
    keep_all (x ∷ xs) e = rw (e.0, keep_all xs e.1)

    pub keep_append : (xs ys : List A) → keep test (xs ++ ys) ≡ keep test xs ++ keep test ys
    keep_append [] ys = refl
    keep_append (x ∷ xs) ys = rw (keep_append xs ys) (go (test x))
      where
        go : (b : Bool)
            → cond b (x ∷ (keep test xs ++ keep test ys)) (keep test xs ++ keep test ys)
            ≡ cond b (x ∷ keep test xs) (keep test xs) ++ keep test ys
        go true = refl
        go false = refl

    pub length-keep : (xs : List A) → length (keep test xs) ≤ length xs
    length-keep [] = omega arith
    length-keep (x ∷ xs) = go (test x) (length-keep xs)
      where
        go : (b : Bool) → length (keep test xs) ≤ length xs
            → length (cond b (x ∷ keep test xs) (keep test xs)) ≤ suc (length xs)
        go true less = omega arith
        go false less = omega arith

    pub sum-keep : (f : A → ℤ) (xs : List A) → sum f xs ≡ sum f (keep test xs) +ℤ sum f (keep (λ x. not (test x)) xs)
    sum-keep f [] = refl
    sum-keep f (x ∷ xs) = ap (λ z. f x +ℤ z) (sum-keep f xs) ∙ go (test x) _ _
      where
        go : (b : Bool) (ys zs : List A)
            → f x +ℤ (sum f ys +ℤ sum f zs) ≡ sum f (cond b (x ∷ ys) ys) +ℤ sum f (cond (not b) (x ∷ zs) zs)
        go true ys zs = sym (+ℤ_assoc (f x) (sum f ys) (sum f zs))
        go false ys zs = swap-front (f x) (sum f ys) (sum f zs)

    pub total-keep : (f : A → ℕ) (xs : List A)
        → total (map f xs) ≡ total (map f (keep test xs)) + total (map f (keep (λ x. not (test x)) xs))
    total-keep f [] = refl
    total-keep f (x ∷ xs) = ap (λ (n : ℕ). f x + n) (total-keep f xs) ∙ go (test x) _ _
      where
        go : (b : Bool) (ys zs : List A)
            → f x + (total (map f ys) + total (map f zs))
            ≡ total (map f (cond b (x ∷ ys) ys)) + total (map f (cond (not b) (x ∷ zs) zs))
        go true ys zs = omega arith
        go false ys zs = omega arith

  pub keep_same : (P : A → Type 0) (test other : A → Bool) (xs : List A) → ((x : A) → P x → test x ≡ other x)
      → Each P xs → keep test xs ≡ keep other xs
  keep_same P test other [] e h = refl
  keep_same P test other (x ∷ xs) e h = rw (e x h.0, keep_same P test other xs e h.1)

  -- ---- totals
  module _ (f : A → ℕ) where
    pub total-append : (xs ys : List A) → total (map f (xs ++ ys)) ≡ total (map f xs) + total (map f ys)
    total-append [] ys = omega arith
    total-append (x ∷ xs) ys = omega (arith, total-append xs ys)

-- what is kept of the images is the images of what is kept
pub keep-map : {A B : Type 0} (test : B → Bool) (f : A → B) (xs : List A)
    → keep test (map f xs) ≡ map f (keep (λ x. test (f x)) xs)
keep-map test f [] = refl
keep-map {A = A} {B = B} test f (x ∷ xs) = go (test (f x)) (keep-map test f xs)
  where
    kept : List A
    kept = keep (λ y. test (f y)) xs

    go : (b : Bool) → keep test (map f xs) ≡ map f kept
        → cond b (f x ∷ keep test (map f xs)) (keep test (map f xs)) ≡ map f (cond b (x ∷ kept) kept)
    go true rest = ap {B = List B} (λ ys. f x ∷ ys) rest
    go false rest = rest

-- ---- the first of some numbers that go up
pub record FirstFrom (test : ℕ → Bool) (i k : ℕ) : Type 0 where
  pub from : i ≤ k
  pub passes : test k ≡ true
  pub none_before : (j : ℕ) → i ≤ j → j < k → test j ≡ true → ⊥

pub first-kept : (test : ℕ → Bool) (i n b : ℕ) → i ≤ b → b < i + n → test b ≡ true
    → FirstFrom test i (get_or (keep test (up_from i n)) 0 0)
first-kept test i zero b l h t = absurd (omega arith)
first-kept test i (suc n) b l h t = go (test i) refl (λ above. first-kept test (suc i) n b above (omega arith) t)
  where
    others : List ℕ
    others = keep test (up_from (suc i) n)

    go : (c : Bool) → test i ≡ c → (suc i ≤ b → FirstFrom test (suc i) (get_or others 0 0))
        → FirstFrom test i (get_or (cond c (i ∷ others) others) 0 0)
    go true e later = record { from = omega arith; passes = e; none_before = λ j m k. absurd (omega arith) }
    go false e later =
        let other : (j : ℕ) → test j ≡ true → j ≡ i → ⊥ = λ j s q. false≢true (sym e ∙ ap test (sym q) ∙ s) in
        let r = later (omega (arith, other b t)) in
        record {
          from = omega (arith, r.from);
          passes = r.passes;
          none_before = λ j m k s. r.none_before j (omega (arith, other j s)) k s;
        }
