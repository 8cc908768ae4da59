-- No second outcome meets a contract. Each theorem is of the contract itself, as Rattle reads it (`Reads.Post`).
use Rattle.std.specs.Prelude.{◌≡◌, refl, List, Option, Some, None}
use Rattle.std.specs.Iterator.{YieldsFirstBy}
use Rattle.std.proofs.Common.{sym, ◌∙◌, ap}
use Rattle.theory.specs.Basics.{ℕ}
use Rattle.theory.specs.Hooks as theory
use Rattle.hooks.specs.declared.Hook.{Hook}
use Rattle.hooks.specs.Marked.{hook_of}
use Rattle.hooks.proofs.marks.Reads as marks
use Rattle.hooks.proofs.stretch.Reads as stretch
use Rattle.hooks.proofs.minus.Reads as minus
use Rattle.hooks.proofs.sign.Reads as sign
use Rattle.hooks.proofs.leaves.Reads as leaves
use Rattle.hooks.proofs.of.Reads as of
use Rattle.hooks.proofs.HooksIterator.next.Reads as next

pub hook-marks-once : (κs : _) (a : _) (r r' : _) (s s' : _) → marks.Post κs a r s → marks.Post κs a r' s' → r ≡ r'
hook-marks-once κs a r r' s s' p q = p ∙ sym q

pub hook-stretch-once : (κs : _) (a : _) (r r' : _) (s s' : _) → stretch.Post κs a r s → stretch.Post κs a r' s'
    → r ≡ r'
hook-stretch-once κs a r r' s s' p q = p ∙ sym q

pub hook-minus-once : (κs : _) (a : _) (r r' : _) (s s' : _) → minus.Post κs a r s → minus.Post κs a r' s' → r ≡ r'
hook-minus-once κs a r r' s s' p q = p ∙ sym q

pub hook-sign-once : (κs : _) (a : _) (r r' : _) (s s' : _) → sign.Post κs a r s → sign.Post κs a r' s' → r ≡ r'
hook-sign-once κs a r r' s s' p q = p ∙ sym q

pub hook-leaves-once : (κs : _) (a : _) (r r' : _) (s s' : _) → leaves.Post κs a r s → leaves.Post κs a r' s' → r ≡ r'
hook-leaves-once κs a r r' s s' p q = p ∙ sym q

pub hooks-of-once : (κs : _) (a : _) (r r' : _) (s s' : _) → of.Post κs a r s → of.Post κs a r' s' → r ≡ r'
hooks-of-once κs a r r' s s' p q = p.0 ∙ sym q.0

-- the next hook, and those after it
same-hook : (x y : Hook) → hook_of x ≡ hook_of y → x ≡ y
same-hook x y e = ap (λ (hook : theory.Hook ℕ). record { minus = hook.minus; leaves = hook.leaves }) e

first-once : (hooks left left' : List (theory.Hook ℕ)) (r r' : Option Hook)
    → YieldsFirstBy hook_of (λ rest. rest) hooks r left → YieldsFirstBy hook_of (λ rest. rest) hooks r' left' → (r ≡ r') × (left ≡ left')
first-once hooks left left' None None p q = (refl, p.1 ∙ sym q.1)
first-once hooks left left' None (Some y) p q = (cc, cc)
first-once hooks left left' (Some x) None p q = (cc, cc)
first-once hooks left left' (Some x) (Some y) p q = (ap Some (same-hook x y cc), cc)

pub hooks-next-once : (κs : _) (a : _) (r r' : _) (s s' : _) → next.Post κs a r s → next.Post κs a r' s' → r ≡ r'
hooks-next-once κs a r r' s s' p q = (first-once _ _ _ r r' p.0 q.0).0
