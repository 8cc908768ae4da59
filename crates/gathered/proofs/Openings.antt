-- From the tests of an opening in the gathered mode, and what the plain opening gives, to what it is promised to answer
-- and to leave.
--   of-mode k t   the slip t in the mode numbered k
use Rattle.std.specs.Prelude.{◌∷◌, ◌++◌}
use mathlib.Core.Path.{◌≡◌, refl, sym, ◌∙◌, ap, ap₂}
use Prim.Native.Nat.{◌≤◌, ◌<◌}
use native.Mathlib.Omega.{arith}
use borrow.Author.Tests.{lt-ltb, le-ltb, eq-eqb, ne_eqb, ltb-false}
use Rattle.theory.specs.Basics.{true, false, cond, List, [], map, length, replicate, ℕ, ℤ, pos}
use Rattle.theory.specs.Basics.{◌=?◌}
use Rattle.theory.specs.Limits.{page_limit}
use Rattle.theory.specs.Partition.{degree}
use Rattle.theory.specs.ShapeWord.{shape_of, good_word}
use Rattle.theory.specs.Refusals.{Check, first_of, refused_or, pair_checks, no-6, no-10}
use Rattle.theory.proofs.Refusals.Laws.{first_passes, or-refused, or-given, none-applies, answer-number}
use Rattle.words.specs.Answers.{Outcome}
use Rattle.pages.specs.Line.{Line}
use Rattle.pages.specs.declared.Slip.{Slip}
use Rattle.pages.specs.Page.{slip_of, blank, padded}
use Rattle.pages.specs.Mode.{unit, gathered_mode}
use Rattle.sessions.specs.Opening.{Handed}
use Rattle.sessions.specs.Opening.{handed, first_lines, first_settled, opening_in, opening}
use Rattle.sessions.specs.Opening.Laws.{opening-refused, words-pass}
use Rattle.gathered.proofs.Filled.{first-column}

abbrev pub of-mode : ℕ → Slip → Slip
of-mode k t = slip_of t.shape t.class t.settled t.lines t.steps k

-- ---- the first lines: none, or one of weight 1
module _ (s c : ℕ) where
  by_first : (P : List Line → Type 0) → P [] → P (record { weight = pos 1; shape = s; class = c } ∷ [])
      → P (first_lines s c)
  by_first P none one = elim (degree (shape_of s) =? 0)
      as (λ b. P (cond b [] (record { weight = pos 1; shape = s; class = c } ∷ []))) [ true ↦ none | false ↦ one ]

  first-unit : map unit (first_lines s c) ≡ first_lines s c
  first-unit = by_first (λ ls. map unit ls ≡ ls) refl refl

  first-weights : map (λ l. l.weight) (first_lines s c) ≡ replicate (length (first_lines s c)) (pos 1)
  first-weights = by_first (λ ls. map (λ l. l.weight) ls ≡ replicate (length ls) (pos 1)) refl refl

  first-few : length (first_lines s c) ≤ 1
  first-few = by_first (λ ls. length ls ≤ 1) (omega arith) (omega arith)

-- ---- an opening
module _ (limit s c : ℕ) (page : List ℕ) (column : List ℤ) where
  abbrev good : ℕ
  good = good_word s

  abbrev lines : List Line
  lines = first_lines good c

  -- what the plain opening gives and leaves, refused or not
  abbrev Plainly : Type 0
  Plainly = Handed × List ℕ

  abbrev no-opening : ℕ → Plainly
  no-opening k = (handed k blank, page)

  abbrev an-opening : Plainly
  an-opening = (handed 0 (slip_of good c (first_settled good) (length lines) (pos 0) 0), padded lines page)

  abbrev last : List Check
  last = no-10 lines page ∷ []

  abbrev behind : List Check
  behind = gathered_mode.lent_checks (page, column) ++ last

  abbrev Opened : Handed → List ℕ → List ℤ → Type 0
  Opened r words weights = Outcome (opening_in gathered_mode limit s c (page, column)) r (words, weights)

  module _ (none : first_of (pair_checks limit s c) ≡ 0) where
    passes : first_of (pair_checks limit s c ++ behind) ≡ first_of behind
    passes = words-pass gathered_mode limit s c (page, column) none

    pub page-refuses : page_limit < length page → Opened (handed 6 blank) page column
    page-refuses long =
        opening-refused gathered_mode limit s c (page, column) 6
        (passes ∙ rw (lt-ltb page_limit (length page) long)) (λ z. omega arith)

    module _ (short : length page ≤ page_limit) where
      pub column-refuses : (length page ≡ length column → ⊥) → Opened (handed 21 blank) page column
      column-refuses unlike =
          opening-refused gathered_mode limit s c (page, column) 21
          (passes ∙ rw (le-ltb page_limit (length page) short, ne_eqb (length page) (length column) unlike))
          (λ z. omega arith)

      module _ (same : length page ≡ length column) (r : Handed) (left : List ℕ)
          (o : Outcome (opening limit s c page) r left) where
        -- both modes have the one check that is left
        gathered-last : first_of (pair_checks limit s c ++ behind) ≡ first_of last
        gathered-last =
            passes ∙ rw (le-ltb page_limit (length page) short, eq-eqb (length page) (length column) same)

        plain-last : first_of (pair_checks limit s c ++ no-6 page ∷ last) ≡ first_of last
        plain-last =
            first_passes (pair_checks limit s c) (no-6 page ∷ last) refl none
            ∙ rw (le-ltb page_limit (length page) short)

        given : ◌≡◌ {A = Plainly} (r, left) (refused_or (first_of last) no-opening an-opening)
        unfolding opening_in
        given =
            ap₂ (λ (h : Handed) (xs : List ℕ). (h, xs)) o.answers o.leaves ∙ rw plain-last refl

        number : r.refused ≡ first_of last
        number =
            answer-number {A = Plainly} (λ x. x.0.refused) no-opening an-opening (λ k. refl) refl (first_of last)
            (r, left) given

        pub room-refuses : (r.refused ≡ 0 → ⊥) → Opened r left column
        unfolding opening_in
        room-refuses some =
            let full : first_of last ≡ 0 → ⊥ = λ z. some (number ∙ z) in
            let is = given ∙ or-refused {A = Plainly} no-opening an-opening (first_of last) full in
            rw (
              gathered-last,
              or-refused {A = Handed × (List ℕ × List ℤ)} (λ k. (handed k blank, (page, column))) _ _ full,
            )
            (record {
              answers = ap (λ (x : Plainly). x.0) is;
              leaves = ap (λ (x : Plainly). (x.1, column)) is;
            })

        module _ (z : r.refused ≡ 0) where
          plain-opened : ◌≡◌ {A = Plainly} (r, left) an-opening
          plain-opened = given ∙ or-given {A = Plainly} no-opening an-opening (first_of last) (sym number ∙ z)

          -- what the first column asks
          pub column-begins : (r.slip.lines ≤ 1) × (r.slip.lines ≤ length column)
          column-begins =
              let count = ap (λ (x : Plainly). x.0.slip.lines) plain-opened in
              let room = ltb-false (length page) (length lines) (none-applies last refl (sym number ∙ z)).0 in
              (omega (arith, count, first-few good c), omega (arith, count, same, room))

          pub line-opens : (weights : List ℤ) → weights ≡ first-column r.slip.lines (length column)
              → Opened (handed 0 (of-mode 1 r.slip)) left weights
          unfolding opening_in
          line-opens weights e =
              rw (gathered-last, sym number ∙ z)
              (record {
                answers = ap (λ (x : Plainly). handed 0 (of-mode 1 x.0.slip)) plain-opened;
                leaves = ap₂ (λ (xs : List ℕ) (zs : List ℤ). (xs, zs))
                    (ap (λ (x : Plainly). x.1) plain-opened ∙ rw (first-unit good c))
                    (e ∙ rw (ap (λ (x : Plainly). x.0.slip.lines) plain-opened, first-weights good c));
              })
