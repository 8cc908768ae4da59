-- From the tests of a line and a cycle that are named to the class that is left.
--   Chosen .. r     what the class left r tells, if it does not refuse
use Rattle.std.specs.Prelude.{◌∷◌, Option, None, Some, ok_or}
use mathlib.Core.Path.{◌≡◌, refl, sym, ◌∙◌, ap}
use Prim.Native.Nat.{◌≤◌, ◌<◌}
use native.Mathlib.Omega.{arith}
use borrow.Author.Tests.{le-leb, lt-leb}
use Rattle.theory.specs.Basics.{Bool, true, false, List, [], get_or, ℕ, ◌=?◌}
use Rattle.theory.specs.Partition.{times, without}
use Rattle.theory.specs.ClassWord.{class_word, class_of}
use Rattle.theory.specs.Refusals.{Check, first_of, no-8, no_9}
use Rattle.theory.proofs.Refusals.Laws.{first-refuses, first_passes, or-refused, answer-number, answer-given}
use Rattle.pages.specs.Line.{Line}
use Rattle.pages.specs.declared.Slip.{Slip}
use Rattle.pages.specs.Page.{line_of, line_at}
use Rattle.pages.specs.Mode.{plain_mode, waiting}
use Rattle.pages.specs.Sound.{page_checks}
use Rattle.pages.specs.Lawful.Plain.{plain-lawful}
use Rattle.pages.proofs.SoundPages.{line_word}
use Rattle.words.specs.declared.refusal.Refusal.TheVariants.{NoSuchCycle}
use Rattle.words.specs.Answers.{WordAnswer, word_answer, word_told}
use Rattle.sessions.specs.Step.{named_checks}
use Rattle.sessions.proofs.Step.Laws.{NamedOn, named-on}
use Rattle.sessions.specs.Private.ClassLeft.{class_left_of}
use Rattle.sessions.specs.Private.Striking.{class_without}

module _ (limit : ℕ) (slip : Slip) (page : List ℕ) (line cycle : ℕ) where
  abbrev chosen : Line
  chosen = line_of (get_or page line 0)

  abbrev left : WordAnswer
  left = class_left_of limit slip page line cycle

  abbrev first : ℕ
  first = first_of (named_checks limit slip page line cycle)

  -- the checks behind those of slip and page
  abbrev behind : List Check
  behind = no-8 slip.lines line ∷ no_9 (class_of (line_at (waiting slip page) line).class) cycle ∷ []

  -- ---- the tests
  named-refused : (k : ℕ) → first ≡ k → (k ≡ 0 → ⊥) → word_answer k 0 ≡ left
  unfolding class_left_of
  named-refused k e some = sym (rw e (or-refused (λ k. word_answer k 0) _ k some))

  pub page-refuses : (k : ℕ) → k ≡ first_of (page_checks limit slip page) → (k ≡ 0 → ⊥) → word_answer k 0 ≡ left
  page-refuses k e some =
      named-refused k (first-refuses (page_checks limit slip page) behind (λ z. some (e ∙ z)) ∙ sym e) some

  module _ (none : first_of (page_checks limit slip page) ≡ 0) where
    page-passes : first ≡ first_of behind
    page-passes = first_passes (page_checks limit slip page) behind refl none

    pub no-such-line : slip.lines ≤ line → word_answer 8 0 ≡ left
    no-such-line l = named-refused 8 (page-passes ∙ rw (le-leb slip.lines line l)) (λ z. omega arith)

    module _ (there : line < slip.lines) (s : Option ℕ) (e : s ≡ class_without cycle chosen.class) where
      abbrev absent : Bool
      absent = times cycle (class_of chosen.class) =? 0

      pub class-or_9 : word_told (ok_or s NoSuchCycle) ≡ left
      unfolding class_left_of class_without
      class-or_9 = go absent refl
        where
          go : (b : Bool) → absent ≡ b → word_told (ok_or s NoSuchCycle) ≡ left
          go true t =
              let none : s ≡ None = e ∙ rw t refl in
              rw none
              (named-refused 9 (page-passes ∙ rw (lt-leb slip.lines line there, line_word slip page line there, t))
              (λ z. omega arith))
          go false f =
              let word = line_word slip page line there in
              let some : s ≡ Some (class_word (without cycle (class_of chosen.class))) = e ∙ rw f refl in
              let pass : first ≡ 0 = page-passes ∙ rw (lt-leb slip.lines line there, word, f) in
              rw (some, pass, word) refl

  -- ---- what is left
  pub record Chosen (r : WordAnswer) : Type 0 where
    pub none : first ≡ 0
    pub named : NamedOn plain_mode limit slip page line cycle
    pub class-left : r.word ≡ class_word (without cycle (class_of chosen.class))

  module _ (r : WordAnswer) (e : r ≡ left) where
    pub number : r.refused ≡ first
    unfolding class_left_of
    number = answer-number (λ (x : WordAnswer). x.refused) (λ k. word_answer k 0) _ (λ k. refl) refl first r e

    pub chosen_by : r.refused ≡ 0 → Chosen r
    unfolding class_left_of
    chosen_by z =
        let (none, given) =
        answer-given (λ (x : WordAnswer). x.refused) (λ k. word_answer k 0) _ (λ k. refl) refl first r e z in
        let named = named-on plain-lawful limit slip page line cycle none in
        record {
          none = none;
          named = named;
          class-left = ap (λ (x : WordAnswer). x.word) given ∙ rw (line_word slip page line named.there);
        }
