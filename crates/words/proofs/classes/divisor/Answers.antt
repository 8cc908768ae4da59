-- Each part is multiplied with how often it has occurred, for which there is room.
use borrow.Author.Rules.{rules}
use Rattle.std.specs.Prelude.{◌≡◌, ◌∷◌, ◌+◌, ◌-◌, ◌*◌, ◌<◌, ◌≤◌, ◌^◌}
use Rattle.std.proofs.Common.{refl, sym, ◌∙◌, ap, le_refl, mul-le-mul, mul_assoc, mul-one, arith, eq-eqb, ne_eqb}
use Rattle.theory.specs.Basics.{ℕ}
use Rattle.theory.specs.Partition.{Parts, degree}
use Rattle.theory.specs.ClassWord.{class_of}
use Rattle.theory.specs.Bounds.Laws.{largest_limit}
use Rattle.theory.proofs.ClassData.Laws.{occurrence, occurrence-room, divisor_after, divisor-read}
use Rattle.words.specs.Parts.{parts_left}
use Rattle.words.proofs.PartsLeft.{part-positive}
use Rattle.words.proofs.ClassProducts.{Multiplying, start_multiplying, factor}
use Rattle.words.proofs.classes.divisor.Goals as goal
use Rattle.words.proofs.classes.divisor.Goals.{then-part-last, else-part-last}

again : (last times p : ℕ) → p ≡ last → times + 1 ≡ occurrence last times p
again last times p e = rw (eq-eqb p last e) (omega arith)

first : (last times p : ℕ) → (p ≡ last → ⊥) → 1 ≡ occurrence last times p
first last times p n = rw (ne_eqb p last n) refl

-- a turn that reads the part p for the t-th time
record Turn (p t product whole : ℕ) (rest : Parts) : Type 0 where
  fits : product * (p * t) < 2 ^ 63
  small : p * t + degree rest ≤ largest_limit
  next : Multiplying rest (product * (p * t))
  same : product * (p * t) * divisor_after p t rest ≡ whole

turn : (last times p t product whole : ℕ) (left rest : Parts) → left ≡ p ∷ rest → 0 < p → Multiplying left product
    → last * times + degree left ≤ largest_limit → product * divisor_after last times left ≡ whole
    → t ≡ occurrence last times p → Turn p t product whole rest
turn last times p t product whole left rest e some m room same occurs =
    let f = factor e some m in
    let d = ap degree e in
    let small : p * t + degree rest ≤ largest_limit =
    rw occurs (omega (arith, occurrence-room last times p (largest_limit - degree left) (omega arith))) in
    record {
      fits = f.fits (p * t) (omega arith);
      small = small;
      next = f.again (p * t) _ (omega arith) refl;
      same = rw (occurs, mul_assoc) (sym (ap (λ ps. product * divisor_after last times ps) e) ∙ same);
    }

pub loop-part-init : goal.loop-part-init
loop-part-init c =
    let ps : Parts = class_of c.args.word in
    let whole = ap parts_left c.into_iter-part-iterator.ensures.into_iter_gives ∙ c.of-part-items.ensures.parts (search rules) in (
      tt,
      tt,
      start_multiplying ps whole c.requires.small,
      omega (arith, ap degree whole, c.requires.small),
      omega (arith, ap (divisor_after 0 0) whole, divisor-read ps c.requires.good.partition),
    )

pub overflow_add-times : goal.overflow_add-times
overflow_add-times c =
    let l = c.loop-part in
    let some : 1 ≤ l.last = omega (arith, c.if-part-last.true, part-positive l.part-iterator.rest c.in-Some.ensures.steps) in
    omega (arith, mul-le-mul some (le_refl l.times))

pub overflow_mul-product-in-loop-part : goal.overflow_mul-product-in-loop-part
overflow_mul-product-in-loop-part c =
    let l = c.loop-part in
    let p : ℕ = c.in-Some.part in
    let e : parts_left l.part-iterator ≡ p ∷ parts_left c.next.new.self = c.in-Some.ensures.steps in
    let occurs : c.if-part-last.times ≡ occurrence l.last l.times p = elim c.if-part-last.branch [
      | then-part-last w ↦ w.times-is ∙ again l.last l.times p w.if-part-last.true
      | else-part-last w ↦ w.times-is ∙ first l.last l.times p w.if-part-last.false
    ] in
    let v = l.invariant in
    let t = turn l.last l.times p _ l.product _ _ _ e (part-positive l.part-iterator.rest e) v.2 v.3 v.4 occurs in
    omega (arith, t.fits)

pub loop-part-preserved : goal.loop-part-preserved
loop-part-preserved c =
    let l = c.loop-part in
    let p : ℕ = c.in-Some.part in
    let e : parts_left l.part-iterator ≡ p ∷ parts_left c.next.new.self = c.in-Some.ensures.steps in
    let occurs : c.if-part-last.times ≡ occurrence l.last l.times p = elim c.if-part-last.branch [
      | then-part-last w ↦ w.times-is ∙ again l.last l.times p w.if-part-last.true
      | else-part-last w ↦ w.times-is ∙ first l.last l.times p w.if-part-last.false
    ] in
    let v = l.invariant in
    let t = turn l.last l.times p _ l.product _ _ _ e (part-positive l.part-iterator.rest e) v.2 v.3 v.4 occurs in
    (tt, tt, t.next, t.small, t.same)

pub returns : goal.returns
returns c =
    let l = c.loop-part in
    sym (mul-one l.product) ∙ sym (ap (λ ps. l.product * divisor_after l.last l.times ps) c.in-None.ensures.steps.0)
    ∙ l.invariant.4
