-- The ratio of a line of the gathered mode is the plain watch of the line by itself.
use Rattle.std.specs.Prelude.{◌∷◌}
use mathlib.Core.Path.{◌≡◌, refl}
use Prim.Native.Nat.{◌≤◌, ◌<◌}
use Rattle.theory.specs.Basics.{[], ℕ, ℤ}
use Rattle.theory.specs.Limits.{page_limit}
use Rattle.theory.specs.Refusals.{first_of, no-8, no-15}
use Rattle.theory.proofs.Refusals.Laws.{first_passes}
use Rattle.pages.specs.declared.Slip.{Slip}
use Rattle.pages.specs.Page.{line_of}
use Rattle.pages.specs.Mode.{weighted}
use Rattle.pages.specs.Sound.{page_checks}
use Rattle.pages.specs.Sound.Laws.{SoundLine}
use Rattle.characters.specs.Watch.{quotient, ratio, shown_in, watch_checks, watch, watch_in}
use Rattle.gathered.specs.Private.Alone.{alone}
use Rattle.gathered.proofs.Alone.{paged, alone-passes}

module _ {n : ℕ} (x : ℕ) (z : ℤ) (s : SoundLine n (weighted x z)) (limit : ℕ) (small : n ≤ limit) (k : ℕ)
    (few : k < page_limit) where
  none : first_of (watch_checks limit (alone x) (paged k x) 2 0) ≡ 0
  none =
      first_passes (page_checks limit (alone x) (paged k x)) (no-15 2 ∷ no-8 1 0 ∷ []) refl
      (alone-passes x z s limit small k few)

  pub ratio-alone : (own : Slip) → own ≡ alone x
      → watch limit own (paged k x) 2 0 ≡ (0, quotient (ratio (line_of x)))
  unfolding watch_in shown_in
  ratio-alone own e = rw (e, none)
