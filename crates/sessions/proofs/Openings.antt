-- From the tests of an opening to what it is promised to answer and to leave.
use Rattle.std.specs.Prelude.{◌∷◌, ◌-◌}
use mathlib.Core.Path.{◌≡◌, refl, sym, ◌∙◌, ap}
use Prim.Native.Nat.{◌≤◌, ◌<◌}
use native.Mathlib.Omega.{arith}
use borrow.Author.Tests.{lt-ltb, le-ltb, eq-eqb, ne_eqb}
use lib.ListN.{set}
use Rattle.theory.specs.Basics.{false, List, [], length, replicate, ℕ, zero, suc, pos}
use Rattle.theory.specs.Limits.{page_limit}
use Rattle.theory.specs.Partition.{degree}
use Rattle.theory.specs.ShapeWord.{shape_of, good_word}
use Rattle.theory.proofs.ShapeWord.InFront.{dropped-shape}
use Rattle.theory.specs.Refusals.{Check, first_of, pair_checks, no-10}
use Rattle.words.specs.Answers.{Outcome}
use Rattle.pages.specs.Page.{word_of, plain, slip_of, blank}
use Rattle.pages.specs.Mode.{plain_mode}
use Rattle.sessions.specs.Opening.{handed, first_lines, opening_checks, opening, opening_in, Handed}
use Rattle.sessions.specs.Opening.Laws.{opening-refused, words-pass}

set_first : (n w : ℕ) → (n ≡ 0 → ⊥) → set (replicate n 0) 0 w ≡ w ∷ replicate (n - 1) 0
set_first zero w some = absurd (some refl)
set_first (suc n) w some =
    let e : suc n - 1 ≡ n = omega arith in
    rw e

module _ (limit s c : ℕ) (page : List ℕ) where
  abbrev good : ℕ
  good = good_word s

  same-degree : degree (shape_of good) ≡ degree (shape_of s)
  same-degree = ap degree (dropped-shape s)

  abbrev Opened : Handed → List ℕ → Type 0
  Opened r after = Outcome (opening limit s c page) r after

  abbrev checks : List Check
  checks = opening_checks limit s c page

  module _ (none : first_of (pair_checks limit s c) ≡ 0) where
    pub page-refuses : page_limit < length page → Opened (handed 6 blank) page
    page-refuses long =
        opening-refused plain_mode limit s c page 6
        (words-pass plain_mode limit s c page none ∙ rw (lt-ltb page_limit (length page) long)) (λ z. omega arith)

    module _ (short : length page ≤ page_limit) where
      page-passes : first_of checks ≡ first_of (no-10 (first_lines good c) page ∷ [])
      page-passes = words-pass plain_mode limit s c page none ∙ rw (le-ltb page_limit (length page) short)

      pub empty-opens : (w : ℕ) → w ≡ good → degree (shape_of s) ≡ 0
          → Opened (handed 0 (slip_of w c (pos 1) 0 (pos 0) 0)) (replicate (length page) 0)
      unfolding opening_in
      empty-opens w is e =
          let d = eq-eqb (degree (shape_of good)) 0 (same-degree ∙ e) in
          let all : length page - 0 ≡ length page = omega arith in
          let pass : first_of checks ≡ 0 =
          page-passes ∙ rw (d, le-ltb (length page) 0 (omega arith)) in
          rw (is, pass, d, all) (record { answers = refl; leaves = refl })

      module _ (some : degree (shape_of s) ≡ 0 → ⊥) where
        some_good : degree (shape_of good) ≡ 0 → ⊥
        some_good z = some (sym same-degree ∙ z)

        pub room-refuses : length page ≡ 0 → Opened (handed 10 blank) page
        room-refuses none =
            opening-refused plain_mode limit s c page 10
            (page-passes ∙ rw (ne_eqb (degree (shape_of good)) 0 some_good, lt-ltb (length page) 1 (omega arith)))
            (λ z. omega arith)

        pub line-opens : (w : ℕ) → w ≡ good → (length page ≡ 0 → ⊥)
            → Opened (handed 0 (slip_of w c (pos 0) 1 (pos 0) 0))
            (set (replicate (length page) 0) 0 (word_of (plain false w c)))
        unfolding opening_in
        line-opens w is room =
            let d = ne_eqb (degree (shape_of good)) 0 some_good in
            let pass : first_of checks ≡ 0 =
            page-passes ∙ rw (d, le-ltb (length page) 1 (omega arith)) in
            rw (is, pass, d)
            (record { answers = refl; leaves = set_first (length page) (word_of (plain false good c)) room })
