-- A text has as many lines as newlines, and one more where it does not end in one.
--   newlines t   how many newlines stand in t
use Rattle.std.specs.Prelude.{◌∷◌, ◌+◌}
use mathlib.Core.Path.{◌≡◌, refl}
use Prim.Native.Nat.{◌<◌}
use native.Mathlib.Omega.{arith}
use Rattle.theory.specs.Basics.{Bool, true, false, cond, List, [], ℕ, zero, suc, length, get_or, ◌=?◌}
use Rattle.text.specs.Text.{Text}
use Rattle.textreading.specs.Reading.{in_front, lines_of}
use Rattle.textreading.proofs.Reading.Lines.{cut}

abbrev pub newlines : Text → ℕ
newlines [] = 0
newlines (b ∷ t) = cond (b =? 10) 1 0 + newlines t

same-front : (b : ℕ) (ls : List Text) → 0 < length ls → length (in_front b ls) ≡ length ls
same-front b [] h = absurd (omega arith)
same-front b (l ∷ ls) h = refl

-- its last byte is at k
pub lines-newlines : (t : Text) (k : ℕ) → length t ≡ suc k
    → length (lines_of t) ≡ newlines t + cond (get_or t k 0 =? 10) 0 1
unfolding lines_of
lines-newlines [] k h = absurd (omega arith)
lines-newlines (b ∷ []) (suc k) h = absurd (omega arith)
lines-newlines (b ∷ []) zero h = go (b =? 10)
  where
    go : (c : Bool) → length (cond c ((b ∷ []) ∷ []) ((b ∷ []) ∷ [])) ≡ cond c 1 0 + 0 + cond c 0 1
    go true = refl
    go false = refl
lines-newlines (b ∷ c ∷ t) zero h = absurd (omega arith)
lines-newlines (b ∷ c ∷ t) (suc k) h = go (b =? 10) (lines-newlines (c ∷ t) k (omega arith))
  where
    rest : ℕ
    rest = newlines (c ∷ t)

    last : ℕ
    last = cond (get_or (c ∷ t) k 0 =? 10) 0 1

    go : (d : Bool) → length (lines_of (c ∷ t)) ≡ rest + last
        → length (cond d ((b ∷ []) ∷ lines_of (c ∷ t)) (in_front b (lines_of (c ∷ t)))) ≡ cond d 1 0 + rest + last
    go true e = omega arith
    go false e = omega (arith, same-front b (lines_of (c ∷ t)) ((cut (c ∷ t)).some (omega arith)).1)
