-- A part that divides what has been reached multiplies by 1, so that a turn that passes it over multiplies too.
use borrow.Author.Rules.{rules}
use Rattle.std.specs.Prelude.{◌≡◌, ◌∷◌, ◌*◌, ◌%◌, ◌<◌, ◌^◌}
use Rattle.std.proofs.Common.{refl, sym, ◌∙◌, ap, mul-one, arith}
use Rattle.theory.specs.Basics.{ℕ}
use Rattle.theory.specs.Partition.{Parts, degree}
use Rattle.theory.specs.ClassWord.{class_of}
use Rattle.theory.specs.ClassData.Periods.{multiplier, period_from}
use Rattle.theory.proofs.ClassData.Periods.{multiplies, one-multiplier, multiplier-within}
use Rattle.words.specs.Parts.{parts_left}
use Rattle.words.proofs.PartsLeft.{part-positive}
use Rattle.words.proofs.ClassProducts.{Multiplying, start_multiplying, factor}
use Rattle.words.proofs.classes.least_multiple.Goals as goal

-- a turn that reads the part p
record Turn (p multiple whole : ℕ) (rest : Parts) : Type 0 where
  fits : multiple * p < 2 ^ 63
  by-fits : multiple * multiplier multiple p < 2 ^ 63
  next : Multiplying rest (multiple * multiplier multiple p)
  divides : multiple * multiplier multiple p % p ≡ 0
  same : period_from (multiple * multiplier multiple p) rest ≡ whole

turn : (p multiple whole : ℕ) (left rest : Parts) → left ≡ p ∷ rest → 0 < p → Multiplying left multiple
    → period_from multiple left ≡ whole → Turn p multiple whole rest
turn p multiple whole left rest e some m same =
    let f = factor e some m in
    let small = multiplier-within multiple p some in
    record {
      fits = f.fits p (omega (arith, ap degree e, m.small));
      by-fits = f.fits (multiplier multiple p) (omega (arith, ap degree e, m.small));
      next = f.again (multiplier multiple p) _ (omega (arith, ap degree e, m.small)) refl;
      divides = (multiplies multiple p some).divides;
      same = sym (ap (period_from multiple) e) ∙ same;
    }

passed : (last p multiple : ℕ) → (0 < last → multiple % last ≡ 0) → p ≡ last → 0 < p
    → multiple * multiplier multiple p ≡ multiple
passed last p multiple h e some =
    let divides : multiple % p ≡ 0 = rw e (h (omega arith)) in
    sym (ap (λ k. multiple * k)
    (one-multiplier multiple p some 1
    (record { positive = omega arith; divides = rw mul-one divides; none_below = λ j h l z. omega arith })))
    ∙ mul-one multiple

pub loop-part-init : goal.loop-part-init
loop-part-init c =
    let ps : Parts = class_of c.args.word in
    let whole = ap parts_left c.into_iter-part-iterator.ensures.into_iter_gives ∙ c.of-part-items.ensures.parts (search rules) in
    (tt, tt, start_multiplying ps whole c.requires.small, λ h. absurd (omega arith), ap (period_from 1) whole)

pub multiplier-multiple-requires : goal.multiplier-multiple-requires
multiplier-multiple-requires c =
    let l = c.loop-part in
    let e : parts_left l.part-iterator ≡ c.in-Some.part ∷ parts_left c.next.new.self = c.in-Some.ensures.steps in
    let some = part-positive l.part-iterator.rest e in
    (some, (turn c.in-Some.part l.multiple _ _ _ e some l.invariant.2 l.invariant.4).fits)

pub overflow_mul-multiple : goal.overflow_mul-multiple
overflow_mul-multiple c =
    let l = c.loop-part in
    let e : parts_left l.part-iterator ≡ c.in-Some.part ∷ parts_left c.next.new.self = c.in-Some.ensures.steps in
    let some = part-positive l.part-iterator.rest e in
    let t = turn c.in-Some.part l.multiple _ _ _ e some l.invariant.2 l.invariant.4 in
    rw c.multiplier-multiple.ensures (omega (arith, t.by-fits))

pub loop-part-preserved-then-part-last : goal.loop-part-preserved-then-part-last
loop-part-preserved-then-part-last c =
    let l = c.loop-part in
    let e : parts_left l.part-iterator ≡ c.in-Some.part ∷ parts_left c.next.new.self = c.in-Some.ensures.steps in
    let some = part-positive l.part-iterator.rest e in
    let t = turn c.in-Some.part l.multiple _ _ _ e some l.invariant.2 l.invariant.4 in
    rw c.multiplier-multiple.ensures (tt, tt, t.next, λ h. t.divides, t.same)

pub loop-part-preserved : goal.loop-part-preserved
loop-part-preserved c =
    let l = c.loop-part in
    let e : parts_left l.part-iterator ≡ c.in-Some.part ∷ parts_left c.next.new.self = c.in-Some.ensures.steps in
    let some = part-positive l.part-iterator.rest e in
    let t = turn c.in-Some.part l.multiple _ _ _ e some l.invariant.2 l.invariant.4 in
    let one = passed l.last c.in-Some.part l.multiple l.invariant.3 (omega arith) some in
    (tt, tt, rw one at t.next, λ h. rw one at t.divides, rw one at t.same)

pub returns : goal.returns
returns c = sym (ap (period_from c.loop-part.multiple) c.in-None.ensures.steps.0) ∙ c.loop-part.invariant.4
