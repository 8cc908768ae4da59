-- `gathered::joining::raise` meets its contract: what the weights that are left make of the column as it is now.
use Rattle.std.proofs.Common.{◌≡◌, ◌∙◌, ◌+◌, ◌*◌, ◌<◌, ◌^◌, ◌+ℤ◌, refl, sym, ap, ap₂, List, ℕ, ℤ, pos, nat_abs, length, drop, get_or, set, arith}
use Rattle.std.proofs.lemmas.Slice.Zip.{zip_turn, zip_end}
use Rattle.std.proofs.lemmas.List.{length_push}
use Rattle.gathered.proofs.Sizes.{added}
use Rattle.pages.proofs.Signed.{carried}
use Rattle.gathered.specs.Private.Joining.{raised}
use Rattle.gathered.proofs.Loops.{raised-next, raised-none, raised_all, small-more}
use Rattle.gathered.proofs.joining.raise.Goals as goal

pub loop-place-preserved-then-place-column : goal.loop-place-preserved-then-place-column
loop-place-preserved-then-place-column c =
    let turn = zip_turn c.args.places.now c.args.weights.now c.loop-place.yielded c.into_iter-place-iterator.result c.loop-place.place-iterator c.next.new.self c.next.result (cc) (cc) c.loop-place.yielded_by _ c.in-Some.is c.next.ensures.steps in
    let n : ℕ = length c.loop-place.yielded in
    let p : ℕ = get_or c.args.places.now n 0 in
    let w : ℤ = get_or c.args.weights.now n (pos 0) in
    let old : ℤ = get_or c.loop-place.column c.in-Some.field-0-0.now (pos 0) in
    let few : nat_abs c.in-Some.field-0-1.now < 1 * 2 ^ 58 = rw (turn.3 (pos 0)) (c.requires.3 n) in
    let small : nat_abs old + nat_abs c.in-Some.field-0-1.now < 2 ^ 63 =
    omega (arith, few, c.loop-place.invariant.small c.in-Some.field-0-0.now, turn.0, c.requires.0, c.requires.1) in
    let e : set c.loop-place.column c.in-Some.field-0-0.now (carried (carried old +ℤ carried c.in-Some.field-0-1.now))
    ≡ set c.loop-place.column p (get_or c.loop-place.column p (pos 0) +ℤ w) =
    ap (set c.loop-place.column c.in-Some.field-0-0.now) (added old c.in-Some.field-0-1.now _ small refl)
    ∙ ap₂ (λ (p : ℕ) (z : ℤ). set c.loop-place.column p (get_or c.loop-place.column p (pos 0) +ℤ z)) (turn.2 0) (turn.3 (pos 0)) in
    let there : p < length c.loop-place.column = omega (arith, turn.2 0, c.if-place-column.true) in
    record {
      becomes = rw length_push
          (ap (λ (l : List ℤ). raised l (drop (n + 1) c.args.places.now) (drop (n + 1) c.args.weights.now)) e
          ∙ raised-next c.loop-place.column c.args.places.now c.args.weights.now n turn.0 c.requires.0
          ∙ c.loop-place.invariant.becomes);
      small = rw (length_push, e)
          (small-more c.loop-place.column p (n + 1) w there c.loop-place.invariant.small (c.requires.3 n));
    }

pub loop-place-preserved : goal.loop-place-preserved
loop-place-preserved c =
    let turn = zip_turn c.args.places.now c.args.weights.now c.loop-place.yielded c.into_iter-place-iterator.result c.loop-place.place-iterator c.next.new.self c.next.result (cc) (cc) c.loop-place.yielded_by _ c.in-Some.is c.next.ensures.steps in
    let n : ℕ = length c.loop-place.yielded in
    record {
      becomes = rw length_push
          (raised-none c.loop-place.column c.args.places.now c.args.weights.now n turn.0 c.requires.0
          (omega (arith, turn.2 0, c.if-place-column.false))
          ∙ c.loop-place.invariant.becomes);
      small = rw length_push (λ i. omega (arith, c.loop-place.invariant.small i));
    }

pub returns : goal.returns
returns c =
    let end = zip_end c.args.places.now c.args.weights.now c.loop-place.yielded c.into_iter-place-iterator.result c.loop-place.place-iterator c.next.new.self c.next.result (cc) (cc) c.loop-place.yielded_by c.in-None.is c.next.ensures.steps in
    sym (raised_all c.loop-place.column c.args.places.now c.args.weights.now (length c.loop-place.yielded)
    (omega (arith, end, c.requires.0)))
    ∙ c.loop-place.invariant.becomes
