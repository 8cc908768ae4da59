-- A part that sinks follows the rules.
use Rattle.std.specs.Prelude.{◌∷◌, ◌++◌, ◌+ℤ◌, ◌-ℤ◌}
use Rattle.std.proofs.Common.{append_assoc}
use Rattle.theory.specs.Basics.{List, [], ℤ, pos}
use Rattle.theory.specs.Character.{Term, plus, then, before, sink}
use Rattle.theory.proofs.Basics.Integers.{from-below}
use Rattle.theory.proofs.Character.Terms.{Holds, holds-turn, holds_then}
use Rattle.theory.proofs.Character.Terms.{then-turn, then-then, sink-cases}
use Rattle.theory.specs.Rules.{by-rule-2, by-rule-3, Comes, stopped, moved}

-- if what the sinking part comes to comes to g by the rules, then so does what it was
pub sink-comes : (p : List ℤ) (a : ℤ) (bs : List ℤ) (g : List ℤ → Term (List ℤ))
    → Holds (λ u. Comes (p ++ u) (g u)) (sink a bs) → Comes (p ++ (a ∷ bs)) (then g (sink a bs))
sink-comes p a [] g h = h
sink-comes p a (b ∷ bs) g h = go (sink-comes (p ++ (back ∷ [])) (a +ℤ pos 1) bs (λ u. g (back ∷ u))) h
  where
    back : ℤ
    back = b -ℤ pos 1

    deeper : Term (List ℤ)
    deeper = sink (a +ℤ pos 1) bs

    Ends : List ℤ → Type 0
    Ends u = Comes (p ++ u) (g u)

    go : (Holds (λ u. Comes (p ++ (back ∷ []) ++ u) (g (back ∷ u))) deeper
        → Comes (p ++ (back ∷ []) ++ ((a +ℤ pos 1) ∷ bs)) (then (λ u. g (back ∷ u)) deeper))
        → Holds Ends (sink a (b ∷ bs)) → Comes (p ++ (a ∷ b ∷ bs)) (then g (sink a (b ∷ bs)))
    go rest = sink-cases (λ t. Holds Ends t → Comes (p ++ (a ∷ b ∷ bs)) (then g t)) a b bs
        (λ n e h. h)
        (λ e h. rw (from-below a b 0 e) (stopped (by-rule-2 p a bs)))
        (λ n e h. rw (then-turn g (before back deeper), then-then g (λ l. plus (back ∷ l)) deeper)
        (moved (by-rule-3 p a b bs n e) (simp append_assoc at (rest (simp append_assoc
        (rw (holds-turn Ends (before back deeper), holds_then Ends (λ l. plus (back ∷ l)) deeper) at h))))))
