-- No second outcome meets a contract. Each theorem is of the contract itself, as Rattle reads it (`Reads.Post`).
use mathlib.Core.Path.{◌≡◌, sym, ◌∙◌}
use Rattle.theory.specs.Limits.{degree_limit}
use Rattle.words.specs.Answers.Laws.{one-outcome}
use Rattle.words.specs.Calls.{shape_parts_into, class_parts_into}
use Rattle.words.specs.Calls.Laws.{one-period-told}
use Rattle.words.proofs.Told.{word-told-once, number-told-once, degree-told-once, count-told-once, good-told-once, shape-told-once}
use Rattle.words.specs.Parts.{parts_left}
use Rattle.words.specs.declared.parts.Parts.{Parts}
use Rattle.std.specs.Prelude.{ℕ, ◌<◌, ◌^◌, List, Option, Some, None, refl}
use Rattle.std.specs.Iterator.{YieldsFirst}
use Rattle.std.proofs.Common.{ap}
use mathlib.Core.Path.{subst}
use denote.Struct.Props.{props}
use Rattle.theory.specs.Digits.{word}
use Rattle.theory.specs.ClassWord.{class_digits}
use Rattle.theory.proofs.ClassWord.Laws.{word-parts}
use Rattle.words.proofs.refusal.Refusal.number.Reads as refusal-number
use Rattle.words.proofs.parts.Parts.of.Reads as parts-of
use Rattle.words.proofs.parts.PartsIterator.next.Reads as parts-next
use Rattle.words.proofs.shapes.word.Reads as shape-word
use Rattle.words.proofs.shapes.read.Reads as shape-reading
use Rattle.words.proofs.shapes.good.Reads as good-shape
use Rattle.words.proofs.shapes.parts.Reads as shape-parts
use Rattle.words.proofs.shapes.degree.Reads as shape-degree
use Rattle.words.proofs.shapes.conjugate.Reads as conjugate
use Rattle.words.proofs.classes.word.Reads as class-word
use Rattle.words.proofs.classes.parts.Reads as class-parts
use Rattle.words.proofs.classes.degree.Reads as class-degree
use Rattle.words.proofs.classes.sign.Reads as class-sign
use Rattle.words.proofs.classes.size.Reads as class-size
use Rattle.words.proofs.classes.period.Reads as class-period

-- ---- shapes
pub shape-word-once : (κs : _) (a : _) (r r' : _) (s s' : _) → shape-word.Post κs a r s → shape-word.Post κs a r' s'
    → r ≡ r'
shape-word-once κs a r r' s s' p q = word-told-once (p ∙ sym q)

pub shape-reading-once : (κs : _) (a : _) (r r' : _) (s s' : _) → shape-reading.Post κs a r s
    → shape-reading.Post κs a r' s' → r ≡ r'
shape-reading-once κs a r r' s s' p q = shape-told-once (p ∙ sym q)

pub good-shape-once : (κs : _) (a : _) (r r' : _) (s s' : _) → good-shape.Post κs a r s → good-shape.Post κs a r' s'
    → r ≡ r'
good-shape-once κs a r r' s s' p q = good-told-once (p ∙ sym q)

pub shape-parts-once : (κs : _) (a : _) (r r' : _) (s s' : _) → shape-parts.Post κs a r s → shape-parts.Post κs a r' s'
    → (r ≡ r') × (s.1.0.now ≡ s'.1.0.now)
shape-parts-once κs a r r' s s' p q =
    let one = one-outcome (shape_parts_into degree_limit a.0 a.1.0.now) p q in (count-told-once one.0, one.1)

pub shape-degree-once : (κs : _) (a : _) (r r' : _) (s s' : _) → shape-degree.Post κs a r s
    → shape-degree.Post κs a r' s' → r ≡ r'
shape-degree-once κs a r r' s s' p q = degree-told-once (p ∙ sym q)

pub conjugate-once : (κs : _) (a : _) (r r' : _) (s s' : _) → conjugate.Post κs a r s → conjugate.Post κs a r' s'
    → r ≡ r'
conjugate-once κs a r r' s s' p q = word-told-once (p ∙ sym q)

-- ---- classes
pub class-word-once : (κs : _) (a : _) (r r' : _) (s s' : _) → class-word.Post κs a r s → class-word.Post κs a r' s'
    → r ≡ r'
class-word-once κs a r r' s s' p q = word-told-once (p ∙ sym q)

pub class-parts-once : (κs : _) (a : _) (r r' : _) (s s' : _) → class-parts.Post κs a r s
    → class-parts.Post κs a r' s' → (r ≡ r') × (s.1.0.now ≡ s'.1.0.now)
class-parts-once κs a r r' s s' p q =
    let one = one-outcome (class_parts_into degree_limit a.0 a.1.0.now) p q in (count-told-once one.0, one.1)

pub class-degree-once : (κs : _) (a : _) (r r' : _) (s s' : _) → class-degree.Post κs a r s
    → class-degree.Post κs a r' s' → r ≡ r'
class-degree-once κs a r r' s s' p q = degree-told-once (p ∙ sym q)

pub class-sign-once : (κs : _) (a : _) (r r' : _) (s s' : _) → class-sign.Post κs a r s → class-sign.Post κs a r' s'
    → r ≡ r'
class-sign-once κs a r r' s s' p q = number-told-once (p ∙ sym q)

pub class-size-once : (κs : _) (a : _) (r r' : _) (s s' : _) → class-size.Post κs a r s → class-size.Post κs a r' s'
    → r ≡ r'
class-size-once κs a r r' s s' p q = number-told-once (p ∙ sym q)

pub class-period-once : (κs : _) (a : _) (r r' : _) (s s' : _) → class-period.Post κs a r s
    → class-period.Post κs a r' s' → r ≡ r'
class-period-once κs a r r' s s' p q = number-told-once (one-period-told degree_limit a.0 p q)

-- ---- refusals, and the parts of a word
pub refusal-number-once : (κs : _) (a : _) (r r' : _) (s s' : _) → refusal-number.Post κs a r s
    → refusal-number.Post κs a r' s' → r ≡ r'
refusal-number-once κs a r r' s s' p q = p ∙ sym q

-- the parts tell the digits that are left
same-parts : (x y : Parts) → parts_left x ≡ parts_left y → x ≡ y
same-parts x y e =
    let back = λ (w : ℕ) (h : w < 2 ^ 31). word-parts 31 w h in
    let rests : x.rest ≡ y.rest = sym (back x.rest x.below) ∙ ap (λ ps. word 31 (class_digits ps)) e ∙ back y.rest y.below in
    let prop : IsProp (x.rest < 2 ^ 31) = hlevel props in
    let same : (q : x.rest < 2 ^ 31) → Path Parts x (record { rest = x.rest; below = q })
    = λ q i. record { rest = x.rest; below = prop x.below q i } in
    subst (λ (n : ℕ). (q : n < 2 ^ 31) → Path Parts x (record { rest = n; below = q })) rests same y.below

pub parts-of-once : (κs : _) (a : _) (r r' : _) (s s' : _) → parts-of.Post κs a r s → parts-of.Post κs a r' s' → r ≡ r'
parts-of-once κs a r r' s s' p q = same-parts r r' (p.0 ∙ sym q.0)

-- the next part, and those after it
first-once : (parts left left' : List ℕ) (r r' : Option ℕ) → YieldsFirst (λ rest. rest) parts r left
    → YieldsFirst (λ rest. rest) parts r' left' → r ≡ r'
first-once parts left left' None None p q = refl
first-once parts left left' None (Some y) p q = cc
first-once parts left left' (Some x) None p q = cc
first-once parts left left' (Some x) (Some y) p q = cc

pub parts-next-once : (κs : _) (a : _) (r r' : _) (s s' : _) → parts-next.Post κs a r s → parts-next.Post κs a r' s'
    → r ≡ r'
parts-next-once κs a r r' s s' p q = first-once _ _ _ r r' p.0 q.0
