-- What it tells that no check refuses, and what an answer is that is refused or given.
-- A shape word that no check refuses has such a good word.
use Rattle.std.specs.Prelude.{◌≡◌, refl, ◌≤◌, ◌<◌, ◌∷◌, ◌++◌}
use Rattle.std.proofs.Common.{sym, ◌∙◌, ap, arith, ltb-false, eqb-true, eq-eqb, ltb-true, le-ltb}
use Rattle.std.proofs.Math.Decide.{ℕ_discrete}
use Rattle.std.proofs.lemmas.Bool.{not-false}
use Rattle.theory.specs.Basics.{Bool, true, false, cond, List, [], ℕ, zero, suc, ◌=?◌, ◌<?◌, every}
use Rattle.theory.specs.Basics.{Each}
use Rattle.theory.proofs.Basics.Laws.{both}
use Rattle.theory.specs.Partition.{degree}
use Rattle.theory.specs.ShapeWord.{good_shape, clear_sign, good_word, shape_of}
use Rattle.theory.proofs.ShapeWord.Good.{good-shape, shape-good}
use Rattle.theory.specs.ShapeWord.InFront.{SameShape}
use Rattle.theory.proofs.ShapeWord.InFront.{dropped-shape, dropped-good, good-clear, good-kept}
use Rattle.theory.specs.ClassWord.{good_class, class_of}
use Rattle.theory.proofs.ClassWord.Laws.{good-class, class-good}
use Rattle.theory.specs.Refusals.{Check, first_of, refused_or, shape_checks, good_shape_checks, class_checks}
use Rattle.theory.specs.Refusals.{pair_checks}
use Rattle.theory.specs.Refusals.Laws.{Numbered, Within, WithinClass, Matched}

-- ---- refused or given
module _ {A : Type 0} (f : ℕ → A) (x : A) where
  pub or-refused : (k : ℕ) → (k ≡ 0 → ⊥) → refused_or k f x ≡ f k
  or-refused zero n = absurd (n refl)
  or-refused (suc k) n = refl

  pub or-given : (k : ℕ) → k ≡ 0 → refused_or k f x ≡ x
  or-given k e = rw e refl

  -- an answer that is refused by neither: what is asked first does not refuse, nor does the rest
  pub neither : (number : A → ℕ) → ((k : ℕ) → number (f k) ≡ k) → (k : ℕ) → number (refused_or k f x) ≡ 0
      → (k ≡ 0) × (number x ≡ 0)
  neither number its-number zero e = (refl, e)
  neither number its-number (suc k) e = absurd (omega (arith, its-number (suc k), e))

-- what is made of an answer is refused where it is
pub made_of : {A B : Type 0} (make : A → B) (f : ℕ → A) (x : A) (k : ℕ)
    → make (refused_or k f x) ≡ refused_or k (λ k. make (f k)) (make x)
made_of make f x zero = refl
made_of make f x (suc k) = refl

-- any answer that holds the number that it is refused with: its number, what it is if that is 0, and that a refused
-- answer is refused alike, whatever was to be given
module _ {A : Type 0} (number : A → ℕ) (f : ℕ → A) (x : A) (its-number : (k : ℕ) → number (f k) ≡ k)
    (none : number x ≡ 0) (k : ℕ) (a : A) (e : a ≡ refused_or k f x) where
  pub answer-number : number a ≡ k
  answer-number = ap number e ∙ go k
    where
      go : (k : ℕ) → number (refused_or k f x) ≡ k
      go zero = none
      go (suc k) = its-number (suc k)

  pub answer-given : number a ≡ 0 → (k ≡ 0) × (a ≡ x)
  answer-given z =
      let n : k ≡ 0 = sym answer-number ∙ z in
      (n, e ∙ or-given f x k n)

  pub answer-refused : (other : A) → (number a ≡ 0 → ⊥) → a ≡ refused_or k f other
  answer-refused other n =
      let refuses : k ≡ 0 → ⊥ = λ z. n (answer-number ∙ z) in
      e ∙ or-refused f x k refuses ∙ sym (or-refused f other k refuses)

-- ---- checks
-- the numbers that refuse are not 0, so where no check refuses, none applies
pub none-applies : (checks : List Check) → Numbered checks → first_of checks ≡ 0
    → Each (λ check. check.0 ≡ false) checks
none-applies [] n e = tt
none-applies (check ∷ checks) n e = go check.0 refl e (none-applies checks numbers.1)
  where
    numbers : (0 <? check.1 ≡ true) × Numbered checks
    numbers = both (0 <? check.1) (every (λ check. 0 <? check.1) checks) n

    go : (b : Bool) → check.0 ≡ b → cond b check.1 (first_of checks) ≡ 0
        → (first_of checks ≡ 0 → Each (λ check. check.0 ≡ false) checks)
        → (check.0 ≡ false) × Each (λ check. check.0 ≡ false) checks
    go true t e rest = absurd (omega (arith, ltb-true 0 check.1 numbers.0))
    go false t e rest = (t, rest e)

-- the number that refuses is one of theirs
pub first_below : (bound : ℕ) (checks : List Check) → 0 < bound → every (λ check. check.1 <? bound) checks ≡ true
    → first_of checks < bound
first_below bound [] some e = some
first_below bound (check ∷ checks) some e = go check.0 (first_below bound checks some all.1)
  where
    all : (check.1 <? bound ≡ true) × (every (λ check. check.1 <? bound) checks ≡ true)
    all = both (check.1 <? bound) (every (λ check. check.1 <? bound) checks) e

    go : (b : Bool) → first_of checks < bound → cond b check.1 (first_of checks) < bound
    go true rest = ltb-true check.1 bound all.0
    go false rest = rest

module _ (checks more : List Check) where
  -- checks that refuse are not asked again by those behind them
  pub first-refuses : (first_of checks ≡ 0 → ⊥) → first_of (checks ++ more) ≡ first_of checks
  first-refuses = go checks
    where
      go : (cs : List Check) → (first_of cs ≡ 0 → ⊥) → first_of (cs ++ more) ≡ first_of cs
      go [] n = absurd (n refl)
      go (check ∷ cs) n = by check.0 n (go cs)
        where
          by : (b : Bool) → (cond b check.1 (first_of cs) ≡ 0 → ⊥)
              → ((first_of cs ≡ 0 → ⊥) → first_of (cs ++ more) ≡ first_of cs)
              → cond b check.1 (first_of (cs ++ more)) ≡ cond b check.1 (first_of cs)
          by true n rest = refl
          by false n rest = rest n

  -- and checks that do not refuse leave it to them
  pub first_passes : Numbered checks → first_of checks ≡ 0 → first_of (checks ++ more) ≡ first_of more
  first_passes n e = go checks (none-applies checks n e)
    where
      go : (cs : List Check) → Each (λ check. check.0 ≡ false) cs → first_of (cs ++ more) ≡ first_of more
      go [] a = refl
      go (check ∷ cs) a = rw a.0 (go cs a.1)

  pub both-pass : Numbered checks → first_of (checks ++ more) ≡ 0 → (first_of checks ≡ 0) × (first_of more ≡ 0)
  both-pass n e = elim (ℕ_discrete (first_of checks) 0) [
    | yes z ↦ (z, sym (first_passes n z) ∙ e)
    | no f ↦ absurd (f (sym (first-refuses f) ∙ e))
  ]

-- ---- words
-- what is within the limit is the good word of the shape
good-within : (limit w : ℕ) → degree (shape_of w) ≤ limit → Within limit (good_word w)
good-within limit w small =
    record { good = good-shape (good_word w) (dropped-good w); small = rw (dropped-shape w) small }

pub within : (limit w : ℕ) → first_of (shape_checks limit w) ≡ 0 → Within limit (good_word w)
within limit w e =
    good-within limit w (ltb-false limit (degree (shape_of w)) (none-applies (shape_checks limit w) refl e).1.0)

-- and the word itself has a clear sign digit
pub shape-clear : (limit w : ℕ) → first_of (shape_checks limit w) ≡ 0 → clear_sign w ≡ true
shape-clear limit w e = not-false (clear_sign w) (none-applies (shape_checks limit w) refl e).0

-- a word of a list is the good one
pub good-word-within : (limit w : ℕ) → first_of (good_shape_checks limit w) ≡ 0 → Within limit w
good-word-within limit w e =
    let a = none-applies (good_shape_checks limit w) refl e in
    record {
      good = good-shape w (not-false (good_shape w) a.0);
      small = ltb-false limit (degree (shape_of w)) a.1.0;
    }

pub within-class : (limit w : ℕ) → first_of (class_checks limit w) ≡ 0 → WithinClass limit w
within-class limit w e =
    let a = none-applies (class_checks limit w) refl e in
    record {
      good = good-class w (not-false (good_class w) a.0);
      small = ltb-false limit (degree (class_of w)) a.1.0;
    }

-- and words that are so pass
pub shape-passes : {limit w : ℕ} → Within limit w → first_of (shape_checks limit w) ≡ 0
shape-passes {limit} {w} p = rw (good-clear w (shape-good p.good), le-ltb limit (degree (shape_of w)) p.small)

pub good-shape-passes : {limit w : ℕ} → Within limit w → first_of (good_shape_checks limit w) ≡ 0
good-shape-passes {limit} {w} p = rw (shape-good p.good, le-ltb limit (degree (shape_of w)) p.small)

pub class-passes : {limit w : ℕ} → WithinClass limit w → first_of (class_checks limit w) ≡ 0
class-passes {limit} {w} p = rw (class-good p.good, le-ltb limit (degree (class_of w)) p.small)

-- a good word is refused as before P6, and in a list as by a single call
pub good-checked : (limit w : ℕ) → good_shape w ≡ true
    → first_of (shape_checks limit w) ≡ first_of (good_shape_checks limit w)
good-checked limit w g = rw (g, good-clear w g)

pub matched : (limit s c : ℕ) → first_of (pair_checks limit s c) ≡ 0 → Matched limit (good_word s) c
matched limit s c e =
    let (_, (c-good, (s-small, (c-small, (same, _))))) = none-applies (pair_checks limit s c) refl e in
    let m : ℕ = degree (shape_of s) in
    let n : ℕ = degree (class_of c) in
    record {
      shape = good-within limit s (ltb-false limit m s-small);
      class = record { good = good-class c (not-false (good_class c) c-good); small = ltb-false limit n c-small };
      degrees = ap degree (dropped-shape s) ∙ eqb-true m n (not-false (m =? n) same);
    }

pub pair-passes : {limit s c : ℕ} → Matched limit s c → first_of (pair_checks limit s c) ≡ 0
pair-passes {limit} {s} {c} m = rw (
  good-clear s (shape-good m.shape.good),
  class-good m.class.good,
  le-ltb limit (degree (shape_of s)) m.shape.small,
  le-ltb limit (degree (class_of c)) m.class.small,
  eq-eqb (degree (shape_of s)) (degree (class_of c)) m.degrees,
)

-- a good word that passes with a class word is itself the one
pub good-matched : {limit s c : ℕ} → good_shape s ≡ true → first_of (pair_checks limit s c) ≡ 0 → Matched limit s c
good-matched {limit} {s} {c} g e = rw (good-kept s g) at (matched limit s c e)

-- ---- words of one shape are refused alike
module _ {v w : ℕ} (s : SameShape v w) (limit : ℕ) where
  pub shape-alike : first_of (shape_checks limit v) ≡ first_of (shape_checks limit w)
  shape-alike = rw (s.first-clear, s.second-clear, s.shapes)
