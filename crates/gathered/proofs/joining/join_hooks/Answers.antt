-- `gathered::joining::join_hooks` meets its contract: the hook lines have room where as many lines are spared.
use Rattle.std.proofs.Common.{refl, arith}
use Rattle.theory.specs.Basics.{replicate}
use Rattle.gathered.proofs.Rooms.{few_saved, too-full, joins, joined-all}
use Rattle.gathered.proofs.joining.join_hooks.Goals as goal

pub overflow_add-page : goal.overflow_add-page
overflow_add-page c =
    let few = few_saved _ _ _ _ _ _ c.requires (replicate 16 0) refl c.find_all.ensures c.saved_by_all-saved.ensures in
    record { fits = omega (arith, few, c.requires.short) }

pub returns-then-page-saved : goal.returns-then-page-saved
returns-then-page-saved c =
    too-full _ _ _ _ _ _ c.requires (replicate 16 0) refl c.find_all.ensures c.saved_by_all-saved.ensures c.if-page-saved.true

pub join-left-requires : goal.join-left-requires
join-left-requires c =
    joins _ _ _ _ _ _ c.requires (replicate 16 0) refl c.find_all.ensures c.saved_by_all-saved.ensures c.if-page-saved.false

pub returns : goal.returns
returns c =
    joined-all _ _ _ _ _ _ c.requires (replicate 16 0) refl c.find_all.ensures c.saved_by_all-saved.ensures c.if-page-saved.false
    c.join-left.ensures
