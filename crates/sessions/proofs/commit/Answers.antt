-- `sessions::commit` meets its contract: each return is the first check that applies, or the line exchanged for its hook
-- lines.
use borrow.Author.Rules.{rules, of_calls}
use Rattle.std.specs.declared.result.Result.TheVariants.{Ok, Err}
use Rattle.std.proofs.Common.{refl, sym, ap, ◌∙◌, ◌≤◌, arith, length-take-le}
use Rattle.std.proofs.lemmas.Result.{err_from_is_err_and}
use Rattle.theory.specs.Limits.{degree_limit}
use Rattle.theory.specs.Bounds.Laws.{largest_limit}
use Rattle.words.specs.Answers.{refusal_of}
use Rattle.words.proofs.Told.{refuses}
use Rattle.sessions.proofs.Told.{Beside, passed-before, refused-before}
use Rattle.sessions.proofs.Strikes.{hooked-beside, not-committed, steps-fit, settled-fits, exchanges}
use Rattle.sessions.proofs.Strikes.{last-refuses, roomy, committed}
use Rattle.sessions.proofs.commit.Goals as goal

small : degree_limit ≤ largest_limit
small = omega arith

pub returns-in_err-hooks : goal.returns-in_err-hooks
returns-in_err-hooks c =
    let p = err_from_is_err_and c.from_residual.result c.from_residual.ensures.1 in
    let beside : Beside c.args.slip c.strike.result (Err c.in_err-hooks.field-0.0) = search (of_calls, c.in_err-hooks.ensures.cases) in
    let q = refused-before c.args.slip c.strike.result beside in
    rw (p.1, p.2, q.2) (not-committed _ small _ _ _ _ _ (rw q.1 at c.strike.ensures) (refuses _) _)

pub overflow_sub-after : goal.overflow_sub-after
overflow_sub-after c =
    let struck : Beside c.args.slip c.strike.result (Ok c.in_ok-hooks.hooks) = search (of_calls, c.in_ok-hooks.ensures.cases) in
    let k = hooked-beside _ small _ _ _ _ _ c.strike.result c.strike.ensures c.in_ok-hooks.hooks struck in
    omega (arith, k.on.there)

pub overflow_add-after : goal.overflow_add-after
overflow_add-after c =
    let struck : Beside c.args.slip c.strike.result (Ok c.in_ok-hooks.hooks) = search (of_calls, c.in_ok-hooks.ensures.cases) in
    let k = hooked-beside _ small _ _ _ _ _ c.strike.result c.strike.ensures c.in_ok-hooks.hooks struck in
    record { fits = omega (arith, k.on.short, k.on.soundness.fit, k.few) }

pub slice_bounds-new-end : goal.slice_bounds-new-end
slice_bounds-new-end c =
    let struck : Beside c.args.slip c.strike.result (Ok c.in_ok-hooks.hooks) = search (of_calls, c.in_ok-hooks.ensures.cases) in
    let k = hooked-beside _ small _ _ _ _ _ c.strike.result c.strike.ensures c.in_ok-hooks.hooks struck in
    k.inside

pub slice_bounds-begins-end : goal.slice_bounds-begins-end
slice_bounds-begins-end c =
    let struck : Beside c.args.slip c.strike.result (Ok c.in_ok-hooks.hooks) = search (of_calls, c.in_ok-hooks.ensures.cases) in
    let k = hooked-beside _ small _ _ _ _ _ c.strike.result c.strike.ensures c.in_ok-hooks.hooks struck in
    sym (length-take-le _ _ k.inside)

pub returns-in_err-map_err : goal.returns-in_err-map_err
returns-in_err-map_err c =
    let struck : Beside c.args.slip c.strike.result (Ok c.in_ok-hooks.hooks) = search (of_calls, c.in_ok-hooks.ensures.cases) in
    let k = hooked-beside _ small _ _ _ _ _ c.strike.result c.strike.ensures c.in_ok-hooks.hooks struck in
    let p = err_from_is_err_and c.from_residual-in_err-map_err.result c.from_residual-in_err-map_err.ensures.1 in
    let beside : Beside c.args.slip c.last_refusal-last.result (Err c.in_err-map_err.field-0.0) = search (of_calls, c.in_err-map_err.ensures.cases) in
    let q = refused-before c.args.slip c.last_refusal-last.result beside in
    rw (p.1, p.2, q.2) (last-refuses _ small _ _ _ _ k (λ i. search rules) _ _ (rw (← c.begins.ensures) (ap refusal_of (sym q.1) ∙ c.last_refusal-last.ensures)) (refuses _))

pub slice_bounds-new-end-2 : goal.slice_bounds-new-end-2
slice_bounds-new-end-2 c =
    let struck : Beside c.args.slip c.strike.result (Ok c.in_ok-hooks.hooks) = search (of_calls, c.in_ok-hooks.ensures.cases) in
    let k = hooked-beside _ small _ _ _ _ _ c.strike.result c.strike.ensures c.in_ok-hooks.hooks struck in
    k.inside

pub slice_bounds-exchange-end : goal.slice_bounds-exchange-end
slice_bounds-exchange-end c =
    let struck : Beside c.args.slip c.strike.result (Ok c.in_ok-hooks.hooks) = search (of_calls, c.in_ok-hooks.ensures.cases) in
    let k = hooked-beside _ small _ _ _ _ _ c.strike.result c.strike.ensures c.in_ok-hooks.hooks struck in
    sym (length-take-le _ _ k.inside)

pub exchange-requires : goal.exchange-requires
exchange-requires c =
    let struck : Beside c.args.slip c.strike.result (Ok c.in_ok-hooks.hooks) = search (of_calls, c.in_ok-hooks.ensures.cases) in
    let k = hooked-beside _ small _ _ _ _ _ c.strike.result c.strike.ensures c.in_ok-hooks.hooks struck in
    let none : Beside c.args.slip c.last_refusal-last.result (Ok c.in_ok-map_err.field-0) = search (of_calls, c.in_ok-map_err.ensures.cases) in
    exchanges _ small _ _ _ _ k (roomy _ small _ _ _ _ k (λ i. search rules) c.args.strip.now 0 (rw (← c.begins.ensures) (sym (passed-before c.args.slip c.last_refusal-last.result c.in_ok-map_err.field-0 none) ∙ c.last_refusal-last.ensures)) refl)

pub next_slip-requires : goal.next_slip-requires
next_slip-requires c =
    let struck : Beside c.args.slip c.strike.result (Ok c.in_ok-hooks.hooks) = search (of_calls, c.in_ok-hooks.ensures.cases) in
    let k = hooked-beside _ small _ _ _ _ _ c.strike.result c.strike.ensures c.in_ok-hooks.hooks struck in
    (settled-fits _ small _ _ _ _ k, steps-fit _ small _ _ _ _ k.on)

pub returns : goal.returns
returns c =
    let struck : Beside c.args.slip c.strike.result (Ok c.in_ok-hooks.hooks) = search (of_calls, c.in_ok-hooks.ensures.cases) in
    let k = hooked-beside _ small _ _ _ _ _ c.strike.result c.strike.ensures c.in_ok-hooks.hooks struck in
    let none : Beside c.args.slip c.last_refusal-last.result (Ok c.in_ok-map_err.field-0) = search (of_calls, c.in_ok-map_err.ensures.cases) in
    committed _ small _ _ _ _ k (λ i. search rules) c.args.strip.now 0 (rw (← c.begins.ensures) (sym (passed-before c.args.slip c.last_refusal-last.result c.in_ok-map_err.field-0 none) ∙ c.last_refusal-last.ensures)) refl _ _ c.next_slip.ensures c.exchange.ensures
