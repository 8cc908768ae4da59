-- Which bytes stand in a text: what sets pieces and lines apart stands in none of them.
--   Without b t     the byte b does not stand in t
--   Within l h t    each byte of t lies from l to h
use Rattle.std.specs.Prelude.{◌≡◌, refl, ◌≤◌, ◌<◌, ◌∷◌, ◌++◌, ◌+◌, ◌/◌, ◌%◌}
use Rattle.std.proofs.Common.{ap, arith, ne_eqb, eq-eqb}
use Rattle.std.proofs.lemmas.Bool.{not-true}
use Rattle.theory.specs.Basics.{Bool, true, false, not, cond, List, [], map, ℕ, zero, suc}
use Rattle.theory.specs.Basics.{ℤ, pos, negsuc, ◌=?◌, ◌<?◌, joined, every, length, take, drop, Each}
use Rattle.theory.proofs.Basics.Laws.{both, each_append, each_same}
use Rattle.text.specs.Text.{Text, ascii, decimal_in, decimal, integer, commas, list_text}
use Rattle.textreading.specs.Reading.{holds, before, behind}

abbrev pub Without : ℕ → Text → Type 0
Without b t = Each (λ x. x =? b ≡ false) t

abbrev pub Within : ℕ → ℕ → Text → Type 0
Within l h t = Each (λ x. (l ≤ x) × (x ≤ h)) t

-- of a text that is written out, one test tells
pub each-not : (test : ℕ → Bool) (t : Text) → every (λ b. not (test b)) t ≡ true → Each (λ b. test b ≡ false) t
each-not test [] e = tt
each-not test (b ∷ t) e =
    let r = both (not (test b)) (every (λ b. not (test b)) t) e in
    (not-true (test b) r.0, each-not test t r.1)

pub without : (l h b : ℕ) (t : Text) → ((x : ℕ) → l ≤ x → x ≤ h → x ≡ b → ⊥) → Within l h t → Without b t
without l h b t n w = each_same _ (λ x. x =? b ≡ false) t (λ x e. ne_eqb x b (n x e.0 e.1)) w

pub wider : {l h : ℕ} (k m : ℕ) (t : Text) → k ≤ l → h ≤ m → Within l h t → Within k m t
wider k m t a b w = each_same _ (λ x. (k ≤ x) × (x ≤ m)) t (λ x e. (omega (arith, e.0), omega (arith, e.1))) w

-- ---- a byte stands in a text or not
pub holds-none : (b : ℕ) (t : Text) → Without b t → holds b t ≡ false
holds-none b [] w = refl
holds-none b (x ∷ t) w = rw w.0 (holds-none b t w.1)

-- ---- up to a byte, and behind it
pub before-take : (b : ℕ) (t : Text) → take (length (before b t)) t ≡ before b t
before-take b [] = refl
before-take b (x ∷ t) = go (x =? b) (before-take b t)
  where
    go : (c : Bool) → take (length (before b t)) t ≡ before b t
        → take (length (cond c [] (x ∷ before b t))) (x ∷ t) ≡ cond c [] (x ∷ before b t)
    go true e = refl
    go false e = ap (λ (u : Text). x ∷ u) e

pub before-fits : (b : ℕ) (t : Text) → length (before b t) ≤ length t
before-fits b [] = omega arith
before-fits b (x ∷ t) = go (x =? b) (before-fits b t)
  where
    go : (c : Bool) → length (before b t) ≤ length t → length (cond c [] (x ∷ before b t)) ≤ suc (length t)
    go true h = omega arith
    go false h = omega arith

pub before-first : (b : ℕ) (t u : Text) → Without b t → before b (t ++ b ∷ u) ≡ t
before-first b [] u w = rw (eq-eqb b b refl)
before-first b (x ∷ t) u w = rw w.0 (ap (λ (l : Text). x ∷ l) (before-first b t u w.1))

pub behind-first : (b : ℕ) (t u : Text) → Without b t → behind b (t ++ b ∷ u) ≡ u
behind-first b [] u w = rw (eq-eqb b b refl)
behind-first b (x ∷ t) u w = rw w.0 (behind-first b t u w.1)

pub byte-found : (b : ℕ) (t : Text) → length (before b t) < length t
    → (holds b t ≡ true) × (drop (suc (length (before b t))) t ≡ behind b t)
byte-found b [] h = absurd (omega arith)
byte-found b (x ∷ t) h = go (x =? b) h (byte-found b t)
  where
    go : (c : Bool) → length (cond c [] (x ∷ before b t)) < suc (length t)
        → (length (before b t) < length t → (holds b t ≡ true) × (drop (suc (length (before b t))) t ≡ behind b t))
        → (cond c true (holds b t) ≡ true)
        × (drop (length (cond c [] (x ∷ before b t))) t ≡ cond c t (behind b t))
    go true h rest = (refl, refl)
    go false h rest = rest (omega arith)

pub byte-missing : (b : ℕ) (t : Text) → length t ≤ length (before b t) → holds b t ≡ false
byte-missing b [] h = refl
byte-missing b (x ∷ t) h = go (x =? b) h (byte-missing b t)
  where
    go : (c : Bool) → suc (length t) ≤ length (cond c [] (x ∷ before b t))
        → (length t ≤ length (before b t) → holds b t ≡ false) → cond c true (holds b t) ≡ false
    go true h rest = absurd (omega arith)
    go false h rest = rest (omega arith)

-- ---- decimals and lists
digits-within : (k n : ℕ) → Within 48 57 (decimal_in k n)
digits-within zero n = tt
digits-within (suc k) n = each_append _ (cond (n <? 10) [] (decimal_in k (n / 10))) _ (go (n <? 10) (digits-within k (n
    / 10))) (last, tt)
  where
    last : (48 ≤ 48 + n % 10) × (48 + n % 10 ≤ 57)
    last = (omega arith, omega arith)

    go : (b : Bool) → Within 48 57 (decimal_in k (n / 10)) → Within 48 57 (cond b [] (decimal_in k (n / 10)))
    go true w = tt
    go false w = w

pub decimal-within : (n : ℕ) → Within 48 57 (decimal n)
unfolding decimal
decimal-within n = digits-within 20 n

pub integer-within : (z : ℤ) → Within 45 57 (integer z)
unfolding integer
integer-within (pos n) = wider 45 57 (decimal n) (omega arith) (omega arith) (decimal-within n)
integer-within (negsuc n) =
    ((omega arith, omega arith), wider 45 57 (decimal (suc n)) (omega arith) (omega arith) (decimal-within (suc n)))

pub list-within : (ns : List ℕ) → Within 44 57 (list_text ns)
unfolding commas
list-within [] = tt
list-within (n ∷ ns) = each_append _ (decimal n) _ (number n) (go ns)
  where
    number : (n : ℕ) → Within 44 57 (decimal n)
    number n = wider 44 57 (decimal n) (omega arith) (omega arith) (decimal-within n)

    go : (ns : List ℕ) → Within 44 57 (joined (λ u. ascii "," ++ u) (map decimal ns))
    go [] = tt
    go (n ∷ ns) = ((omega arith, omega arith), each_append _ (decimal n) _ (number n) (go ns))
