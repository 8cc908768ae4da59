-- What is told of a call says what the call gave: no refusal has the number 0, no two have one number, and no two results
-- are told alike.
use mathlib.Core.Path.{◌≡◌, refl, sym, ◌∙◌, ap}
use native.Mathlib.Omega.{arith}
use Rattle.std.specs.Prelude.{⊤, IsOk, is_ok}
use borrow.Author.Tests.{clash, ne_eqb}
use denote.Enum.Bare.{same_true, same_false}
use Rattle.std.specs.Result.{result_eq, result_unwrap_or}
use Rattle.words.specs.contracts.refusal.RefusalPartialEq.TheImpl.{eq-value}
use Rattle.words.specs.contracts.refusal.Refusal.{the_type}
use Rattle.theory.specs.Basics.{Bool, true, false, ℕ, ℤ, pos, nat_abs, cond, ◌=?◌}
use Rattle.words.specs.Answers.{Result, Ok, Err, Refusal, Good, Shape, number_of, told, refusal_of}
use Rattle.words.specs.Answers.{word_told, number_told, degree_told, count_told, good_told, shape_told}
use Rattle.words.specs.Answers.{word_answer, number_answer, count_answer, good_answer, reading}
use Rattle.words.specs.Answers.{WordAnswer, NumberAnswer, CountAnswer, GoodAnswer, ShapeReading}
use Rattle.words.specs.declared.refusal.Refusal.TheVariants.{BadShape, ShapeTooLarge, BadClass, ClassTooLarge, DegreesDiffer, PageTooLong}
use Rattle.words.specs.declared.refusal.Refusal.TheVariants.{NotSound, NoSuchLine, NoSuchCycle, PageFull, NoSuchRank, DegreeTooLarge, BadInput}
use Rattle.words.specs.declared.refusal.Refusal.TheVariants.{ColumnTooShort, NoSuchKind, BadText, BufferTooShort, StripTooShort}
use Rattle.words.specs.declared.refusal.Refusal.TheVariants.{NotThatPreview, BadLengths, BadCoefficients}

-- ---- numbers
abbrev refusal : ℕ → Refusal
refusal k =
    cond (k =? 1) BadShape (cond (k =? 2) ShapeTooLarge (cond (k =? 3) BadClass (cond (k =? 4) ClassTooLarge (cond (k =? 5) DegreesDiffer (cond (k =? 6) PageTooLong (cond (k =? 7) NotSound (cond (k =? 8) NoSuchLine (cond (k =? 9) NoSuchCycle (cond (k =? 10) PageFull (cond (k =? 11) NoSuchRank (cond (k =? 12) DegreeTooLarge (cond (k =? 13) BadInput (cond (k =? 14) ColumnTooShort (cond (k =? 15) NoSuchKind (cond (k =? 16) BadText (cond (k =? 17) BufferTooShort (cond (k =? 18) StripTooShort (cond (k =? 19) NotThatPreview (cond (k =? 20) BadLengths BadCoefficients)))))))))))))))))))

refusal-back : (e : Refusal) → refusal (number_of e) ≡ e
refusal-back BadShape = refl
refusal-back ShapeTooLarge = refl
refusal-back BadClass = refl
refusal-back ClassTooLarge = refl
refusal-back DegreesDiffer = refl
refusal-back PageTooLong = refl
refusal-back NotSound = refl
refusal-back NoSuchLine = refl
refusal-back NoSuchCycle = refl
refusal-back PageFull = refl
refusal-back NoSuchRank = refl
refusal-back DegreeTooLarge = refl
refusal-back BadInput = refl
refusal-back ColumnTooShort = refl
refusal-back NoSuchKind = refl
refusal-back BadText = refl
refusal-back BufferTooShort = refl
refusal-back StripTooShort = refl
refusal-back NotThatPreview = refl
refusal-back BadLengths = refl
refusal-back BadCoefficients = refl

pub number-once : {d e : Refusal} → number_of d ≡ number_of e → d ≡ e
number-once {d} {e} same = sym (refusal-back d) ∙ ap refusal same ∙ refusal-back e

pub refuses : (e : Refusal) → number_of e ≡ 0 → ⊥
refuses BadShape z = omega (arith, z)
refuses ShapeTooLarge z = omega (arith, z)
refuses BadClass z = omega (arith, z)
refuses ClassTooLarge z = omega (arith, z)
refuses DegreesDiffer z = omega (arith, z)
refuses PageTooLong z = omega (arith, z)
refuses NotSound z = omega (arith, z)
refuses NoSuchLine z = omega (arith, z)
refuses NoSuchCycle z = omega (arith, z)
refuses PageFull z = omega (arith, z)
refuses NoSuchRank z = omega (arith, z)
refuses DegreeTooLarge z = omega (arith, z)
refuses BadInput z = omega (arith, z)
refuses ColumnTooShort z = omega (arith, z)
refuses NoSuchKind z = omega (arith, z)
refuses BadText z = omega (arith, z)
refuses BufferTooShort z = omega (arith, z)
refuses StripTooShort z = omega (arith, z)
refuses NotThatPreview z = omega (arith, z)
refuses BadLengths z = omega (arith, z)
refuses BadCoefficients z = omega (arith, z)

-- ---- results
module _ {A B : Type 0} (answer : ℕ → A → B) (none : A) (number : B → ℕ) (value : B → A)
    (numbers : (k : ℕ) (x : A) → number (answer k x) ≡ k) (values : (k : ℕ) (x : A) → value (answer k x) ≡ x) where
  same-number : {j k : ℕ} {x y : A} → answer j x ≡ answer k y → j ≡ k
  same-number {j} {k} {x} {y} e = sym (numbers j x) ∙ ap number e ∙ numbers k y

  pub told-once : (r s : Result A Refusal) → told answer none r ≡ told answer none s → r ≡ s
  told-once (Ok x) (Ok y) e = ap Ok (sym (values 0 x) ∙ ap value e ∙ values 0 y)
  told-once (Ok x) (Err d) e = absurd (refuses d (sym (same-number e)))
  told-once (Err d) (Ok y) e = absurd (refuses d (same-number e))
  told-once (Err c) (Err d) e = ap Err (number-once (same-number e))

pub word-told-once : {r s : Result ℕ Refusal} → word_told r ≡ word_told s → r ≡ s
word-told-once {r} {s} =
    told-once word_answer 0 (λ (a : WordAnswer). a.refused) (λ (a : WordAnswer). a.word) (λ k x. refl) (λ k x. refl) r s

pub number-told-once : {r s : Result ℤ Refusal} → number_told r ≡ number_told s → r ≡ s
number-told-once {r} {s} =
    told-once number_answer (pos 0) (λ (a : NumberAnswer). a.refused) (λ (a : NumberAnswer). a.number) (λ k x. refl)
    (λ k x. refl) r s

pub degree-told-once : {r s : Result ℕ Refusal} → degree_told r ≡ degree_told s → r ≡ s
degree-told-once {r} {s} =
    told-once (λ k n. number_answer k (pos n)) 0 (λ (a : NumberAnswer). a.refused)
    (λ (a : NumberAnswer). nat_abs a.number) (λ k x. refl) (λ k x. refl) r s

pub count-told-once : {r s : Result ℕ Refusal} → count_told r ≡ count_told s → r ≡ s
count-told-once {r} {s} =
    told-once count_answer 0 (λ (a : CountAnswer). a.refused) (λ (a : CountAnswer). a.count) (λ k x. refl)
    (λ k x. refl) r s

pub good-told-once : {r s : Result Good Refusal} → good_told r ≡ good_told s → r ≡ s
good-told-once {r} {s} =
    told-once (λ k (g : Good). good_answer k g.word g.dropped) (record { word = 0; dropped = 0 })
    (λ (a : GoodAnswer). a.refused) (λ (a : GoodAnswer). record { word = a.word; dropped = a.dropped }) (λ k x. refl)
    (λ k x. refl) r s

pub shape-told-once : {r s : Result Shape Refusal} → shape_told r ≡ shape_told s → r ≡ s
shape-told-once {r} {s} =
    told-once (λ k (s : Shape). reading k s.word s.dropped s.degree) (record { word = 0; dropped = 0; degree = 0 })
    (λ (a : ShapeReading). a.refused)
    (λ (a : ShapeReading). record { word = a.word; dropped = a.dropped; degree = a.degree }) (λ k x. refl)
    (λ k x. refl) r s

-- ---- what refuses
pub word-told-number : (r : Result ℕ Refusal) → (word_told r).refused ≡ refusal_of r
word-told-number (Ok x) = refl
word-told-number (Err e) = refl

pub number-told-number : (r : Result ℤ Refusal) → (number_told r).refused ≡ refusal_of r
number-told-number (Ok x) = refl
number-told-number (Err e) = refl

pub degree-told-number : (r : Result ℕ Refusal) → (degree_told r).refused ≡ refusal_of r
degree-told-number (Ok x) = refl
degree-told-number (Err e) = refl

pub count-told-number : (r : Result ℕ Refusal) → (count_told r).refused ≡ refusal_of r
count-told-number (Ok x) = refl
count-told-number (Err e) = refl

pub shape-told-number : (r : Result Shape Refusal) → (shape_told r).refused ≡ refusal_of r
shape-told-number (Ok x) = refl
shape-told-number (Err e) = refl

-- a judge gives nothing beside its refusal
pub judged-once : {r s : Result ⊤ Refusal} → refusal_of r ≡ refusal_of s → r ≡ s
judged-once {r = Ok x} {s = Ok y} e = refl
judged-once {r = Ok x} {s = Err d} e = absurd (refuses d (sym e))
judged-once {r = Err d} {s = Ok y} e = absurd (refuses d e)
judged-once {r = Err c} {s = Err d} e = ap Err (number-once e)

-- a degree, 0 where it is refused
pub degree-or_0 : (r : Result ℕ Refusal) → nat_abs (degree_told r).number ≡ result_unwrap_or r 0
degree-or_0 (Ok x) = refl
degree-or_0 (Err e) = refl

-- a result that is told as one whose number is 0 was given
pub given-where : {A : Type 0} (r : Result A Refusal) → refusal_of r ≡ 0 → (x : A) × (r ≡ Ok x)
given-where (Ok x) z = (x, refl)
given-where (Err e) z = absurd (refuses e z)

pub is-given : {A : Type 0} (r : Result A Refusal) → refusal_of r ≡ 0 → IsOk r
is-given (Ok x) z = refl
is-given (Err e) z = absurd (refuses e z)

pub ok-where : {A : Type 0} (r : Result A Refusal) → refusal_of r ≡ 0 → IsOk r
ok-where (Ok x) z = refl
ok-where (Err e) z = absurd (refuses e z)

pub ok-number : {A : Type 0} (r : Result A Refusal) → is_ok r ≡ refusal_of r =? 0
ok-number (Ok x) = refl
ok-number (Err e) = sym (ne_eqb (number_of e) 0 (refuses e))

-- a test for one refusal
module _ {A : Type 0} (one : A → A → Bool) (r : Result A Refusal) (e : Refusal) where
  pub is-refused : result_eq one eq-value.it r (Err e) ≡ true → refusal_of r ≡ number_of e
  is-refused is = go r is
    where
      go : (r : Result A Refusal) → result_eq one eq-value.it r (Err e) ≡ true → refusal_of r ≡ number_of e
      go (Ok x) is = absurd (clash is)
      go (Err d) is = ap number_of (same_true the_type tt d e is)

  pub not-refused : result_eq one eq-value.it r (Err e) ≡ false → refusal_of r ≡ number_of e → ⊥
  not-refused isn't = go r isn't
    where
      go : (r : Result A Refusal) → result_eq one eq-value.it r (Err e) ≡ false → refusal_of r ≡ number_of e → ⊥
      go (Ok x) other same = refuses e (sym same)
      go (Err d) other same = same_false the_type d e other (number-once same)
