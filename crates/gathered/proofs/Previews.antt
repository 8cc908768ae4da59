-- A preview in the gathered mode is that of the line by itself.
use Rattle.std.specs.Prelude.{◌∷◌, ◌++◌, ◌%◌, ◌^◌}
use mathlib.Core.Path.{◌≡◌, refl, sym, ◌∙◌, ap, ap₂}
use Prim.Native.Nat.{◌≤◌, ◌<◌}
use native.Mathlib.Nat.{le_refl}
use native.Mathlib.Omega.{arith}
use borrow.Author.Tests.{le-leb, lt-leb}
use Rattle.theory.specs.Basics.{List, [], map, length, ℕ, ℤ}
use Rattle.theory.specs.Limits.{page_limit}
use Rattle.theory.specs.ClassWord.{class_of}
use Rattle.theory.specs.Refusals.{Check, first_of, refused_or, no-8, no_9, no-18}
use Rattle.theory.proofs.Refusals.Laws.{first-refuses, first_passes, or-refused}
use Rattle.words.specs.Answers.{Outcome, count_answer, at_front}
use Rattle.words.specs.Answers.{CountAnswer}
use Rattle.pages.specs.Line.{Line}
use Rattle.pages.specs.declared.Slip.{Slip}
use Rattle.pages.specs.Page.{word_of, line_at}
use Rattle.pages.specs.Mode.{weighted, gathered_mode, waiting_in}
use Rattle.pages.specs.Sound.{page_checks_in, page_checks}
use Rattle.pages.specs.Sound.Laws.{SoundLine}
use Rattle.sessions.specs.Step.{waiting_hooks, new_lines_in, preview_in, preview, new_lines}
use Rattle.gathered.specs.Private.Alone.{alone}
use Rattle.gathered.proofs.Alone.{paged, alone-passes}
use Rattle.gathered.proofs.Reading.{word_at, coefficient_at, passed, line_read, line-sound, own_read}

module _ (limit : ℕ) (slip : Slip) (page : List ℕ) (column : List ℤ) (line cycle : ℕ) where
  abbrev lent : List Check
  lent = page_checks_in gathered_mode limit slip (page, column)

  abbrev chosen : Line
  chosen = line_at (waiting_in gathered_mode slip (page, column)) line

  -- the checks behind those of slip, page and column
  abbrev behind : List Check
  behind = no-8 slip.lines line ∷ no_9 (class_of chosen.class) cycle ∷ []

  abbrev new : List ℕ
  new = new_lines_in gathered_mode slip (page, column) line cycle

  module _ (strip : List ℕ) where
    abbrev last : List Check
    last = behind ++ no-18 new strip ∷ []

    abbrev Previewed : CountAnswer → List ℕ → Type 0
    Previewed r left = Outcome (preview_in gathered_mode limit slip (page, column) line cycle strip) r left

    refused : (k : ℕ) → first_of (lent ++ last) ≡ k → (k ≡ 0 → ⊥) → Previewed (count_answer k 0) strip
    unfolding preview_in
    refused k e some =
        rw (e, or-refused {A = CountAnswer × List ℕ} _ _ k some)
        (record { answers = refl; leaves = refl })

    pub page-refuses : (k : ℕ) → k ≡ first_of lent → (k ≡ 0 → ⊥) → Previewed (count_answer k 0) strip
    page-refuses k e some = refused k (first-refuses lent last (λ z. some (e ∙ z)) ∙ sym e) some

    module _ (none : first_of lent ≡ 0) where
      page-passes : first_of (lent ++ last) ≡ first_of last
      page-passes = first_passes lent last refl none

      pub no-such-line : slip.lines ≤ line → Previewed (count_answer 8 0) strip
      no-such-line l = refused 8 (page-passes ∙ rw (le-leb slip.lines line l)) (λ z. omega arith)

      module _ (there : line < slip.lines) (k : ℕ) (few : k < page_limit) where
        abbrev word : ℕ
        word = word_at page line

        abbrev own : Slip
        own = alone word

        abbrev its-class : List Check
        its-class = no_9 (class_of (word % 2 ^ 32)) cycle ∷ []

        sound-here : SoundLine limit (weighted word (coefficient_at column line))
        sound-here = line-sound limit slip page column (passed limit slip page column none) line there

        is : chosen ≡ weighted word (coefficient_at column line)
        is = line_read limit slip page column (passed limit slip page column none) line there

        new-alike : new_lines own (paged k word) 0 cycle ≡ new
        new-alike =
            ap (λ (l : Line). map word_of (waiting_hooks cycle l))
            (own_read limit slip page column (passed limit slip page column none) line there)

        here-first : first_of (lent ++ last) ≡ first_of (its-class ++ no-18 new strip ∷ [])
        here-first = page-passes ∙ rw (lt-leb slip.lines line there, is)

        alone-first : first_of (page_checks limit own (paged k word)
            ++ no-8 1 0 ∷ (its-class ++ no-18 (new_lines own (paged k word) 0 cycle) strip ∷ []))
            ≡ first_of (its-class ++ no-18 new strip ∷ [])
        alone-first =
            first_passes (page_checks limit own (paged k word))
            (no-8 1 0 ∷ (its-class ++ no-18 (new_lines own (paged k word) 0 cycle) strip ∷ [])) refl
            (alone-passes word (coefficient_at column line) sound-here limit (le_refl limit) k few)
            ∙ rw new-alike

        -- the preview of the line by itself, on a page of its word and k zeros
        pub preview-alone : preview limit own (paged k word) 0 cycle strip
            ≡ preview_in gathered_mode limit slip (page, column) line cycle strip
        unfolding preview_in
        preview-alone =
            ap₂
            (λ (k : ℕ) (xs : List ℕ). refused_or {A = CountAnswer × List ℕ} k (λ k. (count_answer k 0, strip))
            (count_answer 0 (length xs), at_front xs strip))
            (alone-first ∙ sym here-first) new-alike

        pub alone-previews : (slip : Slip) → slip ≡ own → {r : CountAnswer} {left : List ℕ}
            → Outcome (preview limit slip (paged k word) 0 cycle strip) r left → Previewed r left
        alone-previews slip e o = rw (← preview-alone, ← e) o
