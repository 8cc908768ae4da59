-- Whether all elements pass a test, told from the first to the last.
use Rattle.std.specs.Prelude.{◌≡◌, refl, ◌∷◌, ◌&&◌, ◌-◌, fold}
use Rattle.std.proofs.Common.{arith, length-drop}
use lib.Seq.{take_all}
use Rattle.theory.specs.Basics.{Bool, true, false, List, [], ℕ, length, take, drop, every}

module _ {A : Type 0} (test : A → Bool) where
  failed : (xs : List A) → fold (λ b x. b && test x) false xs ≡ false
  failed [] = refl
  failed (x ∷ xs) = failed xs

  pub fold-every : (xs : List A) → fold (λ b x. b && test x) true xs ≡ every test xs
  fold-every [] = refl
  fold-every (x ∷ xs) =
      elim (test x) as (λ b. fold (λ b x. b && test x) b xs ≡ b && every test xs) [
        | true ↦ fold-every xs
        | false ↦ failed xs
      ]

-- what lies from k on, as a call has it
pub all_from : {A : Type 0} (xs : List A) (k : ℕ) → take (length xs - k) (drop k xs) ≡ drop k xs
all_from xs k = take_all (length xs - k) (drop k xs) (omega (arith, length-drop k xs))
