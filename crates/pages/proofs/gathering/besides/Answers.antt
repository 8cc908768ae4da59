-- `pages::gathering::besides` meets its contract, line by line.
use Rattle.std.proofs.Common.{◌≡◌, ◌∙◌, refl, sym, ap, ap₂, ℕ, ◌*◌, ◌-◌, ◌^◌, ◌≤◌, ◌<◌, length, arith, nat_abs, pos}
use Rattle.std.proofs.lemmas.Slice.Zip.{zip_turn, zip_end}
use Rattle.std.proofs.lemmas.List.{length_push}
use borrow.Author.Tests.{leb-true, leb-false}
use mir.Facts.{to_z-of_z}
use mir.Syntax.{w64}
use mir.Val.{SFits}
use borrow.Author.Rules.{rules}
use Rattle.theory.specs.Limits.{degree_limit}
use Rattle.theory.specs.Bounds.{factorial}
use Rattle.theory.proofs.Bounds.Laws.{factorial-positive, factorial-rises}
use Rattle.pages.specs.Page.{line_of}
use Rattle.pages.specs.declared.degrees.Kind.TheVariants.{Shape}
use Rattle.pages.specs.Private.Degrees.{word_degree}
use Rattle.pages.specs.Private.Gathered.{word_cost, more_cost}
use Rattle.pages.proofs.WordDegrees.{word_small}
use Rattle.pages.proofs.WeightedLines.{besides-sign, besides-zero, besides-dear, besides-next, besides-once, besides-end}
use Rattle.pages.proofs.gathering.besides.Goals as goal

-- the factorials within the limit have 45 digits at most
cost-room : (x k : ℕ) → k ≡ word_cost degree_limit x → (1 ≤ k) × (k < 2 ^ 45)
cost-room x k is =
    let d = word_degree degree_limit Shape (line_of x).shape in
    let most : factorial 16 ≡ 20922789888000 = unfold factorial in refl in
    let small = factorial-rises d 16 (word_small degree_limit Shape (line_of x).shape) in
    (omega (arith, is, factorial-positive d), omega (arith, is, small, most))

pub loop-line-init : goal.loop-line-init
loop-line-init c = record { suffices = refl; known = c.requires.1; falls = omega arith }

pub returns-then-minus : goal.returns-then-minus
returns-then-minus c =
    let turn = zip_turn c.args.lines.now c.args.coefficients.now c.loop-line.yielded c.into_iter-line-iterator.result c.loop-line.line-iterator c.next.new.self c.next.result (cc) (cc) c.loop-line.yielded_by _ c.in-Some.is c.next.ensures.steps in
    besides-sign degree_limit _ _ c.loop-line.left _ turn (sym c.minus.ensures ∙ c.if-minus.true) ∙ c.loop-line.invariant.suffices

pub returns-then-size-eq0 : goal.returns-then-size-eq0
returns-then-size-eq0 c =
    let turn = zip_turn c.args.lines.now c.args.coefficients.now c.loop-line.yielded c.into_iter-line-iterator.result c.loop-line.line-iterator c.next.new.self c.next.result (cc) (cc) c.loop-line.yielded_by _ c.in-Some.is c.next.ensures.steps in
    let fits : SFits w64 c.in-Some.field-0-1.now = rw (turn.3 (pos 0)) (search rules) in
    let size-is : c.unsigned_abs-size.result ≡ nat_abs c.in-Some.field-0-1.now =
    c.unsigned_abs-size.ensures.value ∙ ap nat_abs (to_z-of_z fits) in
    besides-zero degree_limit _ _ c.loop-line.left _ turn (omega (arith, turn.2 0, (c.type_inv.lines (length c.loop-line.yielded)).fits)) (sym c.minus.ensures ∙ c.if-minus.false)
    (sym size-is ∙ c.if-size-eq0.true)
    ∙ c.loop-line.invariant.suffices

pub cost-cost-requires : goal.cost-cost-requires
cost-cost-requires c = c.loop-line.invariant.known

pub affords-requires : goal.affords-requires
affords-requires c = cost-room _ _ c.cost-cost.ensures.0

pub loop-line-preserved-then-affords : goal.loop-line-preserved-then-affords
loop-line-preserved-then-affords c =
    let turn = zip_turn c.args.lines.now c.args.coefficients.now c.loop-line.yielded c.into_iter-line-iterator.result c.loop-line.line-iterator c.next.new.self c.next.result (cc) (cc) c.loop-line.yielded_by _ c.in-Some.is c.next.ensures.steps in
    let fits : SFits w64 c.in-Some.field-0-1.now = rw (turn.3 (pos 0)) (search rules) in
    let size-is : c.unsigned_abs-size.result ≡ nat_abs c.in-Some.field-0-1.now =
    c.unsigned_abs-size.ensures.value ∙ ap nat_abs (to_z-of_z fits) in
    let asked : (c.unsigned_abs-size.result - 1) * c.cost-cost.result ≡ more_cost degree_limit c.in-Some.field-0-0.now c.in-Some.field-0-1.now =
    ap₂ (λ (k d : ℕ). (k - 1) * d) size-is c.cost-cost.ensures.0 in
    let paid = leb-true _ c.loop-line.left (sym c.affords.ensures ∙ c.if-affords.true) in
    record {
      suffices = rw (length_push, asked)
          (besides-next degree_limit _ _ c.loop-line.left _ turn (omega (arith, turn.2 0, (c.type_inv.lines (length c.loop-line.yielded)).fits)) (sym c.minus.ensures ∙ c.if-minus.false)
          (λ none. c.if-size-eq0.false (size-is ∙ none)) (rw asked at paid)
          ∙ c.loop-line.invariant.suffices);
      known = c.cost-cost.ensures.1;
      falls = omega (arith, c.loop-line.invariant.falls);
    }

pub returns-else-affords : goal.returns-else-affords
returns-else-affords c =
    let turn = zip_turn c.args.lines.now c.args.coefficients.now c.loop-line.yielded c.into_iter-line-iterator.result c.loop-line.line-iterator c.next.new.self c.next.result (cc) (cc) c.loop-line.yielded_by _ c.in-Some.is c.next.ensures.steps in
    let fits : SFits w64 c.in-Some.field-0-1.now = rw (turn.3 (pos 0)) (search rules) in
    let size-is : c.unsigned_abs-size.result ≡ nat_abs c.in-Some.field-0-1.now =
    c.unsigned_abs-size.ensures.value ∙ ap nat_abs (to_z-of_z fits) in
    let asked : (c.unsigned_abs-size.result - 1) * c.cost-cost.result ≡ more_cost degree_limit c.in-Some.field-0-0.now c.in-Some.field-0-1.now =
    ap₂ (λ (k d : ℕ). (k - 1) * d) size-is c.cost-cost.ensures.0 in
    besides-dear degree_limit _ _ c.loop-line.left _ turn (omega (arith, turn.2 0, (c.type_inv.lines (length c.loop-line.yielded)).fits)) (sym c.minus.ensures ∙ c.if-minus.false)
    (λ none. c.if-size-eq0.false (size-is ∙ none))
    (rw asked at (leb-false _ c.loop-line.left (sym c.affords.ensures ∙ c.if-affords.false)))
    ∙ c.loop-line.invariant.suffices

pub loop-line-preserved : goal.loop-line-preserved
loop-line-preserved c =
    let turn = zip_turn c.args.lines.now c.args.coefficients.now c.loop-line.yielded c.into_iter-line-iterator.result c.loop-line.line-iterator c.next.new.self c.next.result (cc) (cc) c.loop-line.yielded_by _ c.in-Some.is c.next.ensures.steps in
    let fits : SFits w64 c.in-Some.field-0-1.now = rw (turn.3 (pos 0)) (search rules) in
    let size-is : c.unsigned_abs-size.result ≡ nat_abs c.in-Some.field-0-1.now =
    c.unsigned_abs-size.ensures.value ∙ ap nat_abs (to_z-of_z fits) in
    record {
      suffices = rw length_push
          (besides-once degree_limit _ _ c.loop-line.left _ turn (omega (arith, turn.2 0, (c.type_inv.lines (length c.loop-line.yielded)).fits)) (sym c.minus.ensures ∙ c.if-minus.false)
          (λ none. c.if-size-eq0.false (size-is ∙ none)) (omega (arith, size-is, c.if-size-gt1.false))
          ∙ c.loop-line.invariant.suffices);
      known = c.loop-line.invariant.known;
      falls = c.loop-line.invariant.falls;
    }

pub returns : goal.returns
returns c =
    let end = zip_end c.args.lines.now c.args.coefficients.now c.loop-line.yielded c.into_iter-line-iterator.result c.loop-line.line-iterator c.next.new.self c.next.result (cc) (cc) c.loop-line.yielded_by c.in-None.is c.next.ensures.steps in
    besides-end degree_limit _ _ c.loop-line.left (length c.loop-line.yielded) (omega (arith, end)) ∙ c.loop-line.invariant.suffices
