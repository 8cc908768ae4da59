-- Whether slip, page and coefficients are sound in the gathered mode, test by test, and why they are refused.
use Rattle.std.specs.Prelude.{◌&&◌}
use mathlib.Core.Path.{◌≡◌, sym, ◌∙◌, ap}
use mathlib.Core.Bool.{and_assoc, and_comm}
use Prim.Native.Nat.{◌≤◌, ◌<◌}
use native.Mathlib.Omega.{arith}
use borrow.Author.Tests.{lt-ltb, le-ltb, eq-eqb, ne_eqb}
use lib.Seq.{length-take-le}
use Rattle.theory.specs.Basics.{Bool, true, false, List, length, take, drop, ℕ, ℤ, nat_abs, ◌=?◌, every}
use Rattle.theory.specs.Limits.{page_limit}
use Rattle.theory.specs.Refusals.{first_of}
use Rattle.pages.specs.Line.{Line}
use Rattle.pages.specs.Gathering.{lasting}
use Rattle.pages.specs.Page.{Slip}
use Rattle.pages.specs.Mode.{alongside, gathered_mode}
use Rattle.pages.specs.Sound.{sound_in, page_checks_in}
use Rattle.pages.specs.Budget.{budget_of, spent_all}
use Rattle.pages.specs.Private.Differences.{all_different}
use Rattle.pages.specs.Private.Gathered.{afforded}
use Rattle.pages.proofs.WeightedLines.{different-words}
use Rattle.pages.proofs.SoundPages.{judged}

-- as many words as coefficients in front
pub as_many : (n : ℕ) (page : List ℕ) (column : List ℤ) → n ≤ length page → length page ≡ length column
    → length (take n page) ≡ length (take n column)
as_many n page column fit same = length-take-le n page fit ∙ sym (length-take-le n column (omega arith))

-- the order of the code: weights and budgets, lines, words, coefficients
in_order : (w c d l e : Bool) → (w && c && (d && l && e)) ≡ (l && e && d && w && c)
in_order w c d l e =
    and_comm (w && c) (d && l && e) ∙ ap (λ a. a && (w && c)) (and_assoc d l e ∙ and_comm d (l && e))
    ∙ sym (and_assoc (l && e && d) w c)

module _ (limit : ℕ) (slip : Slip) (page : List ℕ) (column : List ℤ) where
  abbrev is_sound : Bool
  is_sound = sound_in gathered_mode limit slip (page, column)

  -- ---- soundness
  abbrev lines : List Line
  lines = alongside (take slip.lines page) (take slip.lines column)

  abbrev pub are_afforded : Bool
  are_afforded = afforded limit (budget_of limit slip) lines

  abbrev pub are_different : Bool
  are_different = all_different (take slip.lines page)

  abbrev pub words_idle : Bool
  words_idle = every (◌=? 0) (drop slip.lines page)

  abbrev column_idle : Bool
  column_idle = every (λ z. nat_abs z =? 0) (drop slip.lines column)

  module _ (says : slip.mode ≡ 1) (fit : slip.lines ≤ length page) (same : length page ≡ length column) where
    tests : (are_afforded && are_different && words_idle && column_idle) ≡ is_sound
    tests =
        let weigh : Bool = every lasting lines in
        let enough : Bool = (spent_all limit (budget_of limit slip) lines).enough in
        let differ =
        different-words (take slip.lines page) (take slip.lines column)
        (as_many slip.lines page column fit same) in
        sym (in_order words_idle column_idle are_different weigh enough)
        ∙ ap (λ d. words_idle && column_idle && (d && weigh && enough)) (sym differ)
        ∙ judged gathered_mode limit slip (page, column) says fit

    -- the last test decides where the others hold
    pub some-test-fails : (are_afforded && are_different && words_idle) ≡ false → false ≡ is_sound
    some-test-fails fails = sym (ap (λ t. t && column_idle) fails) ∙ tests

    pub then-column : (are_afforded && are_different && words_idle) ≡ true → column_idle ≡ is_sound
    then-column holds = sym (ap (λ t. t && column_idle) holds) ∙ tests

  -- ---- why they are refused
  abbrev refusal : ℕ
  refusal = first_of (page_checks_in gathered_mode limit slip (page, column))

  pub long-page : page_limit < length page → 6 ≡ refusal
  long-page long = rw (lt-ltb page_limit (length page) long)

  module _ (short : length page ≤ page_limit) where
    pub other_length : (length page ≡ length column → ⊥) → 21 ≡ refusal
    other_length other =
        rw (le-ltb page_limit (length page) short, ne_eqb (length page) (length column) other)

    module _ (same : length page ≡ length column) (b : Bool) (e : b ≡ is_sound) where
      pub sound-page : b ≡ true → 0 ≡ refusal
      sound-page t =
          rw (le-ltb page_limit (length page) short, eq-eqb (length page) (length column) same, ← e, t)

      pub unsound-page : b ≡ false → 7 ≡ refusal
      unsound-page f =
          rw (le-ltb page_limit (length page) short, eq-eqb (length page) (length column) same, ← e, f)
