-- The checks of slip and page in a mode: none has the number 0, and what it tells that none refuses.
use Rattle.std.specs.Prelude.{◌≡◌, refl, ◌∷◌, ◌++◌}
use Rattle.std.proofs.Common.{◌∙◌}
use Rattle.theory.specs.Basics.{List, [], ℕ}
use Rattle.theory.proofs.Basics.Keep.{every-each, each-every}
use Rattle.theory.proofs.Basics.Laws.{each_append}
use Rattle.theory.specs.Refusals.{Check, first_of, no-7}
use Rattle.theory.specs.Refusals.Laws.{Numbered}
use Rattle.theory.proofs.Refusals.Laws.{first_passes}
use Rattle.pages.specs.Page.{Slip}
use Rattle.pages.specs.Mode.{Mode}
use Rattle.pages.specs.Sound.{sound_in, page_checks_in}
use Rattle.pages.specs.Sound.Laws.{SoundIn, sound-is, lent-passed}
use Rattle.pages.specs.Lawful.{Lawful}

pub numbered_more : (checks more : List Check) → Numbered checks → Numbered more → Numbered (checks ++ more)
numbered_more checks more a b =
    each-every _ (checks ++ more) (each_append _ checks more (every-each _ checks a) (every-each _ more b))

module _ {m : Mode} (law : Lawful m) (limit : ℕ) (slip : Slip) (x : m.Lent) where
  pub numbered-page : Numbered (page_checks_in m limit slip x)
  numbered-page = numbered_more (m.lent_checks x) (no-7 (sound_in m limit slip x) ∷ []) (law.numbered x) refl

  pub passed-page : first_of (page_checks_in m limit slip x) ≡ 0 → (first_of (m.lent_checks x) ≡ 0) × SoundIn m limit slip x
  passed-page none = lent-passed m limit slip x (law.numbered x) none

  pub page-passes : first_of (m.lent_checks x) ≡ 0 → SoundIn m limit slip x → first_of (page_checks_in m limit slip x) ≡ 0
  page-passes lent s =
      first_passes (m.lent_checks x) (no-7 (sound_in m limit slip x) ∷ []) (law.numbered x) lent
      ∙ rw (sound-is m limit slip x s) refl
