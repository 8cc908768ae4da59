-- Whether what is lent in a mode is sound, test by test; and why slip and page are refused in the plain mode.
use Rattle.std.specs.Prelude.{◌&&◌}
use mathlib.Core.Path.{◌≡◌, sym, ◌∙◌, ap}
use mathlib.Core.Bool.{and-true, and-false}
use Prim.Native.Nat.{◌≤◌, ◌<◌}
use native.Mathlib.Omega.{arith}
use borrow.Author.Tests.{lt-ltb, le-ltb, lt-leb, le-leb, eq-eqb, ne_eqb}
use lib.ListN.{get_or-map, length-map}
use lib.Seq.{length-take-le, get_or-take}
use Rattle.theory.specs.Basics.{Bool, true, false, List, length, get_or, take, drop, ℕ, ◌=?◌, every}
use Rattle.theory.proofs.Basics.AtPlace.{each_at}
use Rattle.theory.specs.Limits.{page_limit}
use Rattle.theory.specs.Refusals.{first_of}
use Rattle.pages.specs.Page.{line_of, line_at, Slip}
use Rattle.pages.specs.Mode.{Mode, waiting_in, plain_mode, waiting}
use Rattle.pages.specs.Sound.{sound_in, sound, page_checks}
use Rattle.pages.specs.Sound.Laws.{SoundLine, line-wider, asked, Sound}
use Rattle.pages.specs.Sound.Bounds.{asked-within}
use Rattle.pages.specs.Budget.{budget_of, spent_all}
use Rattle.pages.specs.Budget.Laws.{budget-sound-in}

-- ---- soundness in a mode
module _ (m : Mode) (limit : ℕ) (slip : Slip) (x : m.Lent) where
  pub other-mode : (slip.mode ≡ m.number → ⊥) → false ≡ sound_in m limit slip x
  other-mode other = rw (budget-sound-in m limit slip x, ne_eqb slip.mode m.number other)

  pub lines_long : length (m.page x) < slip.lines → false ≡ sound_in m limit slip x
  lines_long long = rw (
    budget-sound-in m limit slip x,
    lt-leb slip.lines (length (m.page x)) long,
    and-false (slip.mode =? m.number),
  )

  pub judged : slip.mode ≡ m.number → slip.lines ≤ length (m.page x)
      → (m.idle slip.lines x
      && (m.stands (waiting_in m slip x) && (spent_all limit (budget_of limit slip) (waiting_in m slip x)).enough))
      ≡ sound_in m limit slip x
  judged says fit = rw (
    budget-sound-in m limit slip x,
    eq-eqb slip.mode m.number says,
    le-leb slip.lines (length (m.page x)) fit,
  )

-- ---- in the plain mode
module _ (limit : ℕ) (slip : Slip) (page : List ℕ) where
  abbrev zeros : Bool
  zeros = every (◌=? 0) (drop slip.lines page)

  module _ (says : slip.mode ≡ 0) (fit : slip.lines ≤ length page) (b : Bool)
      (e : b ≡ (spent_all limit (budget_of limit slip) (waiting slip page)).enough) where
    decided : zeros && b ≡ sound limit slip page
    decided = ap (λ b. zeros && b) e ∙ judged plain_mode limit slip page says fit

    pub lines-dear : b ≡ false → false ≡ sound limit slip page
    lines-dear short = sym (and-false zeros) ∙ ap (λ b. zeros && b) (sym short) ∙ decided

    pub then-zeros : b ≡ true → zeros ≡ sound limit slip page
    then-zeros enough = sym (and-true zeros) ∙ ap (λ b. zeros && b) (sym enough) ∙ decided

  -- ---- why slip and page are refused
  pub long-page : page_limit < length page → 6 ≡ first_of (page_checks limit slip page)
  long-page long = rw (lt-ltb page_limit (length page) long)

  module _ (short : length page ≤ page_limit) (b : Bool) (e : b ≡ sound limit slip page) where
    pub sound-page : b ≡ true → 0 ≡ first_of (page_checks limit slip page)
    sound-page t = rw (le-ltb page_limit (length page) short, ← e, t)

    pub unsound-page : b ≡ false → 7 ≡ first_of (page_checks limit slip page)
    unsound-page f = rw (le-ltb page_limit (length page) short, ← e, f)

-- ---- a line of a sound page, as the code reads it
pub line_word : (slip : Slip) (page : List ℕ) (line : ℕ) → line < slip.lines
    → line_at (waiting slip page) line ≡ line_of (get_or page line 0)
line_word slip page line there =
    get_or-map line_of (take slip.lines page) line 0 ∙ rw (get_or-take slip.lines page line 0 there)

pub sound-line-at : (limit : ℕ) (slip : Slip) (page : List ℕ) → Sound limit slip page → (line : ℕ) → line < slip.lines
    → SoundLine limit (line_of (get_or page line 0))
sound-line-at limit slip page s line there =
    let lines = waiting slip page in
    let count = length-map (take slip.lines page) line_of in
    line-wider (asked-within limit slip lines s.lines)
    (rw (line_word slip page line there) at (each_at (SoundLine (asked slip)) lines (line_of 0) line s.lines.each
    (omega (arith, length-take-le slip.lines page s.fit))))
