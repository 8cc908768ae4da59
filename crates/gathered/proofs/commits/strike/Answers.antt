-- `gathered::commits::strike` meets its contract: what the plain commit on the line alone answers and leaves.
use Rattle.std.proofs.Common.{refl, sym, arith, length-take-le}
use Rattle.gathered.proofs.Strikes.{strike-refused, fewer, left-long, size-carried, times-fits, strike-done}
use Rattle.gathered.proofs.commits.strike.Goals as goal

pub returns-in-Err : goal.returns-in-Err
returns-in-Err c =
    let outcome = rw c.alone.ensures at c.in-Err.ensures in
    strike-refused _ _ c.requires.0 _ _ outcome refl _ _

pub slice_bounds-own-end : goal.slice_bounds-own-end
slice_bounds-own-end c =
    let outcome = rw c.alone.ensures at c.in-Ok.ensures in
    omega (arith, fewer _ _ c.requires.0 _ _ outcome refl, left-long _ _ c.requires.0 _ _ outcome refl)

pub slice_bounds-weigh-end : goal.slice_bounds-weigh-end
slice_bounds-weigh-end c =
    let outcome = rw c.alone.ensures at c.in-Ok.ensures in
    sym (length-take-le _ _
    (omega (arith, fewer _ _ c.requires.0 _ _ outcome refl, left-long _ _ c.requires.0 _ _ outcome refl)))

pub weigh-requires : goal.weigh-requires
weigh-requires c =
    let outcome = rw c.alone.ensures at c.in-Ok.ensures in
    let few = fewer _ _ c.requires.0 _ _ outcome refl in
    let long = length-take-le c.in-Ok.after.lines c.commit.new.page
    (omega (arith, few, left-long _ _ c.requires.0 _ _ outcome refl)) in (
      omega (arith, long, few, c.requires.2),
      omega (arith, long, few, c.requires.3),
      size-carried _ _ c.requires.0 _ _ outcome refl c.requires.1,
    )

pub times-requires : goal.times-requires
times-requires c =
    let outcome = rw c.alone.ensures at c.in-Ok.ensures in
    times-fits _ _ c.requires.0 _ _ outcome refl c.requires.1

pub returns : goal.returns
returns c =
    let outcome = rw c.alone.ensures at c.in-Ok.ensures in
    strike-done _ _ c.requires.0 _ _ outcome refl c.requires.1 _ _ _ _ _ c.requires.2 c.requires.3 c.weigh.ensures
    c.times.ensures
