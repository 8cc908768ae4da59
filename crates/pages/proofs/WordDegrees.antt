-- The degree of one word, 0 where it is refused or no good word; and what is remembered of words.
--   unless k n   n, or 0 where the number k refuses
use Rattle.std.specs.Prelude.{◌∷◌, ◌*◌, ◌+◌, ◌/◌, ◌%◌}
use mathlib.Core.Path.{◌≡◌, refl, sym, ◌∙◌, ap}
use Prim.Native.Nat.{◌≤◌, ◌<◌}
use native.Mathlib.Omega.{arith}
use lib.ListN.{set}
use Rattle.theory.specs.Basics.{Bool, true, false, cond, List, [], replicate, Each, ℕ, zero, suc, pos}
use Rattle.theory.specs.Basics.{nat_abs, get_or, length}
use Rattle.theory.proofs.Basics.AtPlace.{each_at}
use Rattle.theory.specs.Digits.{digits}
use Rattle.theory.specs.Partition.{degree}
use Rattle.theory.specs.ShapeWord.{shape_of, good_shape}
use Rattle.theory.proofs.ShapeWord.Good.{shape-good}
use Rattle.theory.proofs.ShapeWord.InFront.{dropped-shape, good-kept}
use Rattle.theory.specs.ClassWord.{class_of}
use Rattle.theory.specs.Limits.{degree_limit}
use Rattle.theory.specs.Bounds.Laws.{largest_limit}
use Rattle.theory.specs.Refusals.{first_of, refused_or, shape_checks, class_checks}
use Rattle.theory.specs.Refusals.Laws.{Within, WithinClass}
use Rattle.theory.proofs.Refusals.Laws.{made_of, within, shape-passes, within-class, class-passes}
use Rattle.words.specs.Answers.{number_answer}
use Rattle.words.specs.Answers.{NumberAnswer}
use Rattle.words.specs.Answers.{ShapeReading}
use Rattle.words.specs.Calls.{shape_reading, shape_degree, class_degree}
use Rattle.pages.specs.declared.degrees.Kind.{Kind}
use Rattle.pages.specs.declared.degrees.Kind.TheVariants.{Shape, Class}
use Rattle.pages.specs.Private.Degrees.{word_degree, Known, Knows}
use Rattle.pages.proofs.Signed.{carried, carried-is}

-- ---- a number, 0 where k refuses it
abbrev unless : ℕ → ℕ → ℕ
unless k n = refused_or k (λ k. 0) n

not-refused : (k n : ℕ) → (unless k n ≡ 0 → ⊥) → k ≡ 0
not-refused zero n some = refl
not-refused (suc k) n some = absurd (some refl)

stays-small : (limit k n : ℕ) → (k ≡ 0 → n ≤ limit) → unless k n ≤ limit
stays-small limit zero n small = small refl
stays-small limit (suc k) n small = omega arith

of-nothing : (k : ℕ) → unless k 0 ≡ 0
of-nothing zero = refl
of-nothing (suc k) = refl

-- ---- the degree of a word
shape-told : (limit s : ℕ)
    → (shape_reading limit s).degree ≡ unless (first_of (shape_checks limit s)) (degree (shape_of s))
unfolding shape_reading
shape-told limit s = made_of (λ (x : ShapeReading). x.degree) _ _ (first_of (shape_checks limit s))

class-told : (limit c : ℕ)
    → nat_abs (class_degree limit c).number ≡ unless (first_of (class_checks limit c)) (degree (class_of c))
unfolding class_degree
class-told limit c = made_of (λ (x : NumberAnswer). nat_abs x.number) _ _ (first_of (class_checks limit c))

pub shape-degree-told : (limit s : ℕ)
    → nat_abs (shape_degree limit s).number ≡ (shape_reading limit s).degree
unfolding shape_degree
shape-degree-told limit s =
    made_of (λ (x : NumberAnswer). nat_abs x.number) _ _ (first_of (shape_checks limit s)) ∙ sym (shape-told limit s)

shape-small : (limit s : ℕ) → (shape_reading limit s).degree ≤ limit
shape-small limit s = rw (shape-told limit s)
    (stays-small limit (first_of (shape_checks limit s)) _ (λ z. rw (dropped-shape s) at (within limit s z).small))

pub class-small : (limit c : ℕ) → nat_abs (class_degree limit c).number ≤ limit
class-small limit c = rw (class-told limit c)
    (stays-small limit (first_of (class_checks limit c)) _ (λ z. (within-class limit c z).small))

-- it is no negative number
class-natural : (limit c : ℕ) → (class_degree limit c).number ≡ pos (nat_abs (class_degree limit c).number)
unfolding class_degree
class-natural limit c = go (first_of (class_checks limit c))
  where
    go : (k : ℕ) → let a = refused_or k (λ k. number_answer k (pos 0)) (number_answer 0 (pos (degree (class_of c)))) in
        a.number ≡ pos (nat_abs a.number)
    go zero = refl
    go (suc k) = refl

pub class-carried : (limit c : ℕ) → limit ≤ largest_limit
    → carried (class_degree limit c).number ≡ pos (nat_abs (class_degree limit c).number)
class-carried limit c room =
    let n : ℕ = nat_abs (class_degree limit c).number in
    ap carried (class-natural limit c) ∙ carried-is (pos n) (omega (arith, class-small limit c))

pub word_small : (limit : ℕ) (b : Kind) (w : ℕ) → word_degree limit b w ≤ limit
unfolding word_degree
word_small limit Class w = class-small limit w
word_small limit Shape w = go (good_shape w)
  where
    go : (b : Bool) → cond b (shape_reading limit w).degree 0 ≤ limit
    go true = shape-small limit w
    go false = omega arith

pub shape-degree-is : {limit s : ℕ} → Within limit s → word_degree limit Shape s ≡ degree (shape_of s)
unfolding word_degree
shape-degree-is {limit} {s} w = rw (shape-good w.good, shape-told limit s, shape-passes w)

pub class-degree-is : {limit c : ℕ} → WithinClass limit c → word_degree limit Class c ≡ degree (class_of c)
unfolding word_degree
class-degree-is {limit} {c} w = rw (class-told limit c, class-passes w)

pub shape-degree-some : (limit s : ℕ) → (word_degree limit Shape s ≡ 0 → ⊥) → Within limit s
unfolding word_degree
shape-degree-some limit s some = go (good_shape s) refl some
  where
    go : (b : Bool) → good_shape s ≡ b → (cond b (shape_reading limit s).degree 0 ≡ 0 → ⊥) → Within limit s
    go true good some =
        let none = not-refused (first_of (shape_checks limit s)) _ (λ z. some (shape-told limit s ∙ z)) in
        rw (good-kept s good) at (within limit s none)
    go false bad some = absurd (some refl)

pub class-degree-some : (limit c : ℕ) → (word_degree limit Class c ≡ 0 → ⊥) → WithinClass limit c
unfolding word_degree
class-degree-some limit c some =
    within-class limit c (not-refused (first_of (class_checks limit c)) _ (λ z. some (class-told limit c ∙ z)))

-- ---- what is remembered
no-shape : degree (shape_of 0) ≡ 0
unfolding digits
no-shape = refl

no-class : degree (class_of 0) ≡ 0
unfolding digits
no-class = refl

zero_word : (limit : ℕ) (b : Kind) → word_degree limit b 0 ≡ 0
unfolding word_degree
zero_word limit Class =
    let k : ℕ = first_of (class_checks limit 0) in
    class-told limit 0 ∙ ap (unless k) no-class ∙ of-nothing k
zero_word limit Shape =
    let k : ℕ = first_of (shape_checks limit 0) in
    shape-told limit 0 ∙ ap (unless k) no-shape ∙ of-nothing k

zeros-known : (limit : ℕ) (b : Kind) (n : ℕ) → Each (Known (word_degree limit b)) (replicate n 0)
zeros-known limit b zero = tt
zeros-known limit b (suc n) = (zero_word limit b, zeros-known limit b n)

pub nothing_known : (n : ℕ) → Knows (replicate n 0) (replicate n 0)
nothing_known n = record { of-shapes = zeros-known degree_limit Shape n; of-classes = zeros-known degree_limit Class n }

each_set : {A : Type 0} (P : A → Type 0) (xs : List A) (i : ℕ) (x : A) → Each P xs → P x → Each P (set xs i x)
each_set P [] i x e p = tt
each_set P (y ∷ ys) zero x e p = (p, e.1)
each_set P (y ∷ ys) (suc i) x e p = (e.0, each_set P ys i x e.1 p)

pub known-degree : (f : ℕ → ℕ) (known : List ℕ) (i w : ℕ) → Each (Known f) known → i < length known
    → get_or known i 0 / 32 ≡ w → get_or known i 0 % 32 ≡ f w
known-degree f known i w e there is = sym (each_at (Known f) known 0 i e there) ∙ ap f is

pub one-more-known : (f : ℕ → ℕ) (known : List ℕ) (i w d : ℕ) → Each (Known f) known → d ≡ f w → d ≤ 31
    → Each (Known f) (set known i (w * 32 + d))
one-more-known f known i w d e is small =
    let q : (w * 32 + d) / 32 ≡ w = omega arith in
    let r : (w * 32 + d) % 32 ≡ d = omega arith in
    each_set (Known f) known i (w * 32 + d) e (rw (q, r) (sym is))
