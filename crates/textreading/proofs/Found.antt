-- The library's place of a byte is how many bytes stand before it.
use Rattle.std.specs.Prelude.{◌≡◌, refl, ◌∷◌, ◌+◌, Option, Some, None}
use Rattle.std.proofs.Common.{◌∙◌, sym, arith, lt-ltb, lt_of_not-le}
use Rattle.std.proofs.Math.Decide.{dec_le}
use Rattle.std.specs.List.{position_or_len}
use Rattle.theory.specs.Basics.{Bool, true, false, cond, [], ℕ, length, not, ◌=?◌, ◌<?◌}
use Rattle.text.specs.Text.{Text}
use Rattle.textreading.specs.Reading.{before}
use Rattle.textreading.specs.Reading.Bytes.{before-fits}

module _ (b : ℕ) where
  place : (t : Text) → position_or_len (λ x. x =? b) t ≡ length (before b t)
  place [] = refl
  place (x ∷ t) = go (x =? b) (place t)
    where
      go : (c : Bool) → position_or_len (λ x. x =? b) t ≡ length (before b t)
          → cond (not c) (1 + position_or_len (λ x. x =? b) t) 0 ≡ length (cond c [] (x ∷ before b t))
      go true e = refl
      go false e = omega (arith, e)

  module _ (t : Text) {found : Option ℕ}
      (e : found ≡ cond (position_or_len (λ x. x =? b) t <? length t) (Some (position_or_len (λ x. x =? b) t)) None) where
    pub found-some : (k : ℕ) → found ≡ Some k → k ≡ length (before b t)
    found-some k s = go (position_or_len (λ x. x =? b) t <? length t) (sym s ∙ e) ∙ place t
      where
        go : (c : Bool) → Some k ≡ cond c (Some (position_or_len (λ x. x =? b) t)) None
            → k ≡ position_or_len (λ x. x =? b) t
        go true p = cc
        go false p = cc

    pub found-none : found ≡ None → length t ≡ length (before b t)
    found-none s = elim (dec_le (length t) (length (before b t))) [
      | yes l ↦ omega (arith, before-fits b t)
      | no g ↦
          let within = lt-ltb (position_or_len (λ x. x =? b) t) (length t) (omega (arith, lt_of_not-le g, place t)) in
          let some = rw within at e in
          cc
    ]
