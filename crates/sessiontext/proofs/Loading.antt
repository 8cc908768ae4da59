-- From the tests of a load to what it is promised to answer and to leave, by any form that is faithful.
--   first_lines f text   the checks of the lines in front of those that wait
use Rattle.std.specs.Prelude.{◌∷◌, ◌++◌, ◌+◌, ◌-◌}
use mathlib.Core.Path.{◌≡◌, refl, sym, ◌∙◌, ap}
use Prim.Native.Nat.{◌≤◌, ◌<◌}
use native.Mathlib.Nat.{zero-add}
use native.Mathlib.Omega.{arith}
use mathlib.Core.List.{append_assoc}
use lib.ListN.{length-map, length-drop}
use lib.Seq.{sets, sets-eq, length-sets, take-append_seam, take_all}
use borrow.Author.Tests.{lt-ltb, le-ltb, ne_eqb}
use Rattle.theory.specs.Basics.{Bool, true, false, cond, List, [], map, length, take, drop, replicate}
use Rattle.theory.specs.Basics.{ℕ, ◌=?◌}
use Rattle.theory.specs.Limits.{degree_limit}
use Rattle.theory.specs.Refusals.{Check, first_of, no-7, no-10, no-16}
use Rattle.theory.specs.Refusals.Laws.{Numbered}
use Rattle.theory.proofs.Refusals.Laws.{first-refuses, first_passes, or-refused}
use Rattle.words.specs.Answers.{Outcome}
use Rattle.text.specs.Text.{Text}
use Rattle.textreading.specs.Reading.{lines_of}
use Rattle.pages.specs.Mode.{plain_mode}
use Rattle.pages.specs.Sound.{sound_with}
use Rattle.pages.specs.Page.{word_of, blank, padded}
use Rattle.pages.specs.Budget.{budget_of, spent_all, Budget}
use Rattle.pages.specs.Budget.Laws.{budget-sound}
use Rattle.sessiontext.specs.Calls.{Loaded}
use Rattle.sessiontext.specs.SessionText.{Form, plain_form}
use Rattle.sessiontext.specs.SessionText.Faithful.{Faithful}
use Rattle.sessiontext.specs.Reading.{front_faults, following_by, line_faults_by, head_faults_by, faults_by, fault_by}
use Rattle.sessiontext.specs.Reading.{slip_by, lines_by, line_in, line_faults, following, slip_in, lines_in}
use Rattle.sessiontext.specs.declared.reading.FirstLines.{FirstLines}
use Rattle.sessiontext.specs.Private.Read.{HeadOf}
use Rattle.pages.specs.declared.Slip.{Slip}
use Rattle.sessiontext.specs.Calls.{loaded, load_checks_by, load_by}

-- ---- the line at fault
module _ (f : Form) (text : Text) where
  -- the checks of the lines in front of those that wait
  abbrev pub first_lines : List Check
  first_lines = front_faults 1 f.front (lines_of text) ++ head_faults_by f degree_limit text

  abbrev waiting_lines : List Check
  waiting_lines = line_faults_by f degree_limit (length f.front + 7) (following_by f text)

  together : fault_by f degree_limit text ≡ first_of (first_lines ++ waiting_lines)
  unfolding fault_by faults_by
  together =
      ap first_of
      (sym
      (append_assoc (front_faults 1 f.front (lines_of text)) (head_faults_by f degree_limit text) waiting_lines))

  pub head-fault : {k : ℕ} → k ≡ first_of first_lines → (k ≡ 0 → ⊥) → fault_by f degree_limit text ≡ k
  head-fault e some = together ∙ first-refuses first_lines waiting_lines (λ z. some (e ∙ z)) ∙ sym e

  pub line-fault : {k : ℕ} → Numbered first_lines → first_of first_lines ≡ 0 → k ≡ first_of waiting_lines
      → fault_by f degree_limit text ≡ k
  line-fault numbered none e = together ∙ first_passes first_lines waiting_lines numbered none ∙ sym e

-- ---- answers
module _ {f : Form} (fa : Faithful f) (text : Text) (x : f.mode.Lent) where
  abbrev Loads : Loaded → f.mode.Lent → Type 0
  Loads r after = Outcome (load_by f degree_limit text x) r after

  abbrev others : List Check
  others =
      no-16 (fault_by f degree_limit text) ∷ no-10 (lines_by f text) (f.mode.page x)
      ∷ no-7 (sound_with f.mode degree_limit (slip_by f text) (lines_by f text)) ∷ []

  refused : (k line : ℕ) → first_of (load_checks_by f degree_limit text x) ≡ k → (k ≡ 0 → ⊥)
      → cond (k =? 16) (fault_by f degree_limit text) 0 ≡ line → Loads (loaded k line blank) x
  unfolding load_by
  refused k line e some l =
      rw (
        e,
        or-refused {A = Loaded × f.mode.Lent}
            (λ k. (loaded k (cond (k =? 16) (fault_by f degree_limit text) 0) blank, x)) _ k some,
        l,
      ) (record { answers = refl; leaves = refl })

  pub lent-refuses : (k : ℕ) → first_of (f.mode.lent_checks x) ≡ k → (k ≡ 0 → ⊥) → k =? 16 ≡ false
      → Loads (loaded k 0 blank) x
  lent-refuses k e some other =
      refused k 0 (first-refuses (f.mode.lent_checks x) others (λ z. some (sym e ∙ z)) ∙ e) some (rw other refl)

  module _ (lent : first_of (f.mode.lent_checks x) ≡ 0) where
    passes : first_of (load_checks_by f degree_limit text x) ≡ first_of others
    passes = first_passes (f.mode.lent_checks x) others (fa.law.numbered x) lent

    pub text-faulty : {k : ℕ} → fault_by f degree_limit text ≡ k → (k ≡ 0 → ⊥) → Loads (loaded 16 k blank) x
    text-faulty {k} e some = refused 16 k (passes ∙ rw (e, ne_eqb k 0 some) refl) (λ z. omega arith) e

    module _ (good : fault_by f degree_limit text ≡ 0) where
      pub lines-many : length (f.mode.page x) < length (lines_by f text) → Loads (loaded 10 0 blank) x
      lines-many h =
          refused 10 0 (passes ∙ rw (good, lt-ltb (length (f.mode.page x)) (length (lines_by f text)) h) refl)
          (λ z. omega arith) refl

      module _ (room : length (lines_by f text) ≤ length (f.mode.page x)) {sound : Bool}
          (e : sound ≡ sound_with f.mode degree_limit (slip_by f text) (lines_by f text)) where
        last : first_of (load_checks_by f degree_limit text x) ≡ first_of (no-7 sound ∷ [])
        last = passes ∙ rw (good, le-ltb (length (f.mode.page x)) (length (lines_by f text)) room, ← e) refl

        pub lines-unsound : sound ≡ false → Loads (loaded 7 0 blank) x
        lines-unsound u = refused 7 0 (last ∙ rw u refl) (λ z. omega arith) refl

        pub loads : sound ≡ true → {after : f.mode.Lent} → after ≡ f.mode.put (lines_by f text) x
            → Loads (loaded 0 0 (slip_by f text)) after
        unfolding load_by
        loads t whole =
            let none : first_of (load_checks_by f degree_limit text x) ≡ 0 = last ∙ rw t refl in
            rw none (record { answers = refl; leaves = whole })

-- ---- what is lent
module _ {A : Type 0} (v : A) where
  -- what is put at the front, and zeros from there on
  pub put_front : (vs xs : List A) → length vs ≤ length xs → take (length vs) (sets xs 0 vs) ≡ vs
  put_front vs xs h = rw (sets-eq vs xs 0 (omega arith), zero-add) (take-append_seam vs _)

  pub put-cleared : (vs xs : List A) → length vs ≤ length xs
      → take (length vs) (sets xs 0 vs) ++ replicate (length (sets xs 0 vs) - length vs) v
      ≡ vs ++ replicate (length xs - length vs) v
  put-cleared vs xs h = rw (put_front vs xs h, length-sets xs 0 vs) refl

-- ---- what a load has read, and what it leaves
module _ (text : Text) where
  pub lines-enough : {ts : List Text} {b : Budget} {enough : Bool}
      → enough ≡ (spent_all degree_limit b (map line_in ts)).enough → ts ≡ following text
      → b ≡ budget_of degree_limit (slip_in text)
      → enough ≡ sound_with plain_mode degree_limit (slip_in text) (lines_in text)
  unfolding lines_by
  lines-enough e t b = e ∙ rw (t, b) (budget-sound degree_limit (slip_in text) (lines_in text))

  pub lines-put : (page : List ℕ) {count : ℕ} {ts : List Text} {left after : List ℕ}
      → left ≡ sets page 0 (map word_of (map line_in ts)) → ts ≡ following text → count ≡ length (lines_in text)
      → after ≡ take count left ++ replicate (length left - count) 0 → length (lines_in text) ≤ length page
      → after ≡ padded (lines_in text) page
  unfolding lines_by
  lines-put page w t n c room =
      let words : List ℕ = map word_of (lines_in text) in
      let long : length words ≡ length (lines_in text) = length-map (lines_in text) word_of in
      let cleared = put-cleared 0 words page (omega arith) in
      c ∙ rw (w, t, n, ← long) cleared

-- ---- what the first six lines tell
module _ (text : Text) {h : FirstLines} (head : HeadOf text h) where
  abbrev left : Text
  left = take (length text - h.end) (drop h.end text)

  pub head-count : h.slip.lines ≡ length (lines_in text)
  unfolding slip_by lines_by
  head-count = ap (λ (s : Slip). s.lines) head.slip ∙ sym (length-map (following text) line_in)

  pub head-follows : h.slip.lines ≡ length (following text)
  unfolding slip_by
  head-follows = ap (λ (s : Slip). s.lines) head.slip

  pub head-rest : lines_of left ≡ following text
  head-rest =
      ap lines_of (take_all (length text - h.end) (drop h.end text) (omega (arith, length-drop h.end text))) ∙ head.rest

  pub head-line-fault : {k : ℕ} → k ≡ first_of (line_faults degree_limit 7 (lines_of left))
      → fault_by plain_form degree_limit text ≡ k
  head-line-fault e = line-fault plain_form text refl head.passes (rw head-rest at e)
