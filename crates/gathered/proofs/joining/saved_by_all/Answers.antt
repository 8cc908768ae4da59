-- `gathered::joining::saved_by_all` meets its contract: what is counted, and what the hook lines that are left spare.
use Rattle.std.proofs.Common.{◌≡◌, ◌∙◌, ◌+◌, ◌≤◌, ◌<◌, ◌^◌, ◌*◌, ap, ap₂, List, ℕ, ℤ, pos, nat_abs, length, drop, get_or, arith}
use Rattle.std.proofs.lemmas.Slice.Zip.{zip_turn, zip_end}
use Rattle.std.proofs.lemmas.List.{length_push}
use Rattle.pages.proofs.Signed.{carried, carried-is}
use Rattle.gathered.specs.Private.Joining.{saved_at, saved_by}
use Rattle.gathered.proofs.Loops.{saved-most, saved-next, saved-all}
use Rattle.gathered.proofs.joining.saved_by_all.Goals as goal

-- what the hook line of this turn spares
spares : (column : List ℤ) (ps : List ℕ) (ws : List ℤ) (n p r : ℕ) (w : ℤ) → length ps ≡ length ws
    → nat_abs (get_or ws n (pos 0)) < 1 * 2 ^ 58
    → (n < length ps) × (n < length ws) × ((d : ℕ) → p ≡ get_or ps n d) × ((d : ℤ) → w ≡ get_or ws n d)
    → r ≡ saved_at column p (carried w)
    → (r ≤ 2) × (r + saved_by column (drop (n + 1) ps) (drop (n + 1) ws) ≡ saved_by column (drop n ps) (drop n ws))
spares column ps ws n p r w same few turn e =
    let small : nat_abs w < 2 ^ 63 = rw (turn.3 (pos 0)) (omega arith) in
    let is : r ≡ saved_at column (get_or ps n 0) (get_or ws n (pos 0)) =
    e ∙ ap (saved_at column p) (carried-is w small)
    ∙ ap₂ (λ (p : ℕ) (z : ℤ). saved_at column p z) (turn.2 0) (turn.3 (pos 0)) in
    (rw is (saved-most _ _ _), rw is (saved-next column ps ws n turn.0 same))

pub overflow_add-all : goal.overflow_add-all
overflow_add-all c =
    let turn = zip_turn c.args.places.now c.args.weights.now c.loop-place.yielded c.into_iter-place-iterator.result c.loop-place.place-iterator c.next.new.self c.next.result (cc) (cc) c.loop-place.yielded_by _ c.in-Some.is c.next.ensures.steps in
    let s = spares _ _ _ _ _ _ _ c.requires.0 (c.requires.3 (length c.loop-place.yielded)) turn c.saved-all.ensures in
    record { fits = omega (arith, s.0, turn.0, c.loop-place.invariant.most, c.requires) }

pub loop-place-preserved : goal.loop-place-preserved
loop-place-preserved c =
    let turn = zip_turn c.args.places.now c.args.weights.now c.loop-place.yielded c.into_iter-place-iterator.result c.loop-place.place-iterator c.next.new.self c.next.result (cc) (cc) c.loop-place.yielded_by _ c.in-Some.is c.next.ensures.steps in
    let s = spares _ _ _ _ _ _ _ c.requires.0 (c.requires.3 (length c.loop-place.yielded)) turn c.saved-all.ensures in
    record {
      counted = rw length_push (omega (arith, s.1, c.loop-place.invariant.counted));
      most = rw length_push (omega (arith, s.0, c.loop-place.invariant.most));
    }

pub returns : goal.returns
returns c =
    let end = zip_end c.args.places.now c.args.weights.now c.loop-place.yielded c.into_iter-place-iterator.result c.loop-place.place-iterator c.next.new.self c.next.result (cc) (cc) c.loop-place.yielded_by c.in-None.is c.next.ensures.steps in
    let rest = saved-all c.args.column.now c.args.places.now c.args.weights.now (length c.loop-place.yielded)
    (omega (arith, end, c.requires.0)) in
    omega (arith, rest, c.loop-place.invariant.counted)
