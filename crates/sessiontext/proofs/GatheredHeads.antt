-- The first seven lines of a gathered session's text: the mode's, and six that are read as those of a plain session.
--   raised checks      the checks, each with the next number
--   heads_from n body   the checks of the six lines of a body, with n lines in front of it; slip_from, the slip
use Rattle.std.specs.Prelude.{◌&&◌, ◌∷◌, ◌+◌, ◌-◌, ◌^◌, ◌≢◌}
use mathlib.Core.Path.{◌≡◌, refl, sym, ◌∙◌, ap}
use Prim.Native.Nat.{◌≤◌, ◌<◌}
use native.Mathlib.Omega.{arith}
use lib.ListN.{length-drop}
use lib.Seq.{drop-drop, take_all}
use Rattle.theory.specs.Basics.{Bool, true, false, not, cond, List, [], ℕ, suc, pos, ◌=?◌}
use Rattle.theory.specs.Basics.{length}
use Rattle.theory.specs.Basics.{get_or, take, drop, same, Each}
use Rattle.theory.proofs.Basics.Keep.{same_test}
use Rattle.theory.proofs.Basics.Laws.{same_lists}
use Rattle.theory.specs.Partition.{degree}
use Rattle.theory.specs.ShapeWord.{shape_word}
use Rattle.theory.specs.ClassWord.{class_word}
use Rattle.theory.specs.Limits.{degree_limit}
use Rattle.theory.specs.Refusals.{Check, first_of}
use Rattle.theory.specs.Refusals.Laws.{Numbered}
use Rattle.theory.proofs.Refusals.Laws.{none-applies, first_below}
use Rattle.text.specs.Text.{Text, ascii, decimal, field}
use Rattle.textreading.specs.Reading.{number_in, integer_in, list_in, lines_of, first_line}
use Rattle.textreading.proofs.Reading.Lines.{Next, next}
use Rattle.pages.specs.declared.Slip.{Slip}
use Rattle.pages.specs.Page.{slip_of}
use Rattle.sessiontext.specs.declared.reading.FirstLines.{FirstLines}
use mir.Facts.{to_z-of_z}
use mir.Syntax.{w64}
use mir.Val.{to_z, of_z}
use borrow.Author.Rules.{sfits_of}
use borrow.Author.Tests.{not-false}
use Rattle.sessiontext.proofs.Words.{held_fits}
use Rattle.sessiontext.specs.SessionText.{held, gathered_form}
use Rattle.sessiontext.specs.Reading.{is_number, is_integer, is_list, at, head_faults, head_faults_by, slip_by}
use Rattle.sessiontext.specs.Reading.Forms.{self, is-number, is-integer}
use Rattle.sessiontext.specs.Private.Read.{HeadOf}
use Rattle.sessiontext.specs.Private.Weighted.{fronted_faults, FrontedHead}
use Rattle.sessiontext.proofs.Told.{Compared}

-- ---- checks with the next numbers
abbrev raised : List Check → List Check
raised [] = []
raised (check ∷ checks) = (check.0, suc check.1) ∷ raised checks

raised-some : (checks : List Check) → (first_of checks ≡ 0 → ⊥) → first_of (raised checks) ≡ suc (first_of checks)
raised-some [] n = absurd (n refl)
raised-some (check ∷ checks) n = go check.0 n (raised-some checks)
  where
    go : (b : Bool) → (cond b check.1 (first_of checks) ≡ 0 → ⊥)
        → ((first_of checks ≡ 0 → ⊥) → first_of (raised checks) ≡ suc (first_of checks))
        → cond b (suc check.1) (first_of (raised checks)) ≡ suc (cond b check.1 (first_of checks))
    go true n others = refl
    go false n others = others n

raised-none : (checks : List Check) → Numbered checks → first_of checks ≡ 0 → first_of (raised checks) ≡ 0
raised-none checks numbered none = go checks (none-applies checks numbered none)
  where
    go : (cs : List Check) → Each (λ check. check.0 ≡ false) cs → first_of (raised cs) ≡ 0
    go [] a = refl
    go (check ∷ cs) a = rw a.0 (go cs a.1)

-- ---- the six lines of a body
abbrev heads_from : ℕ → List Text → List Check
heads_from n body =
    (not (is_number (ascii "degree=") (2 ^ 64) (at 0)), n + 1)
    ∷ (is_list degree_limit (ascii "shape=") (at 1) && not (number_in (at 0) =? degree (list_in (at 1))), n + 1)
    ∷ (not (is_list degree_limit (ascii "shape=") (at 1)), n + 2)
    ∷ (not (is_list degree_limit (ascii "class=") (at 2)), n + 3)
    ∷ (not (is_number (ascii "steps=") (2 ^ 63) (at 3)), n + 4)
    ∷ (not (is_integer (ascii "settled=") (at 4)), n + 5)
    ∷ (not (same (at 5) (field "lines=" (decimal (length (drop 6 body))))), n + 6)
    ∷ []
  where
    at : ℕ → Text
    at i = get_or body i []

abbrev slip_from : ℕ → List Text → Slip
slip_from mode body =
    slip_of (shape_word (list_in (get_or body 1 []))) (class_word (list_in (get_or body 2 []))) (integer_in (get_or body 4 []))
    (length (drop 6 body)) (pos (number_in (get_or body 3 []))) mode

abbrev mode_line : Text
mode_line = field "mode=" (ascii "gathered")

-- the numbers of a slip that was read fit 64 bits
formed-head : (text : Text) {h : FirstLines} → HeadOf text h
    → (number_in (at text 3) < 2 ^ 63) × (held (integer_in (at text 4)) ≡ true)
formed-head text head =
    let a = none-applies (head_faults degree_limit text) refl head.passes in
    let h = a.1.1.1 in (
      (is-number (ascii "steps=") (2 ^ 63) (at text 3) (not-false _ h.1.0)).small,
      (is-integer (ascii "settled=") (at text 4) (not-false _ h.1.1.0)).fits,
    )

module _ (text : Text) {front : ℕ} (e : front ≡ 0 + length (first_line (drop 0 text))) where
  abbrev rest : Text
  rest = drop front text

  mode-ends : Next text 0 front
  mode-ends = next text 0 front e

  pub front_fits : front ≤ length text
  front_fits = mode-ends.fits (omega arith)

  pub front-line : take front text ≡ first_line text
  front-line =
      let whole : front - 0 ≡ front = omega arith in
      rw whole at mode-ends.line

  pub rest-whole : take (length text - front) rest ≡ rest
  rest-whole = take_all (length text - front) rest (omega (arith, length-drop front text))

  its-body : lines_of rest ≡ drop 1 (lines_of text)
  its-body = mode-ends.others

  heads-raised : head_faults_by gathered_form degree_limit text ≡ raised (head_faults degree_limit rest)
  heads-raised = ap (heads_from 1) (sym its-body)

  module _ {b : Bool} (c : Compared b (take front text) mode_line) where
    mode-told : b ≡ same (first_line text) mode_line
    mode-told =
        same_test b (same (first_line text) mode_line) (λ t. self (sym front-line ∙ c.0 t))
        (λ t. c.1 (front-line ∙ same_lists (first_line text) mode_line t))

    pub mode-fault : b ≡ false → (1 ≡ first_of (fronted_faults text)) × (◌≢◌ {A = ℕ} 1 0)
    mode-fault f = (rw (← mode-told, f) refl, λ z. omega arith)

    module _ (t : b ≡ true) where
      mode-passes : first_of (fronted_faults text) ≡ first_of (raised (head_faults degree_limit rest))
      mode-passes = rw (← mode-told, t) (ap first_of heads-raised)

      pub head-fault : {k : ℕ} → k ≡ first_of (head_faults degree_limit rest) → k ≢ 0
          → (k + 1 ≡ first_of (fronted_faults text)) × (k + 1 ≢ 0)
      head-fault {k} e some =
          let more : k + 1 ≡ suc k = omega arith in (
            more ∙ ap suc e ∙ sym (mode-passes ∙ raised-some (head_faults degree_limit rest) (λ z. some (e ∙ z))),
            λ z. omega arith,
          )

      pub few : {k : ℕ} → k ≡ first_of (head_faults degree_limit rest) → k < 7
      few e = rw e (first_below 7 (head_faults degree_limit rest) (omega arith) refl)

      long : front ≡ 14
      long = omega (arith, e, ap length (sym front-line ∙ c.0 t))

      module _ {h : FirstLines} (read : HeadOf rest h) where
        pub end_fits : front + h.end ≤ length text
        end_fits = omega (arith, read.fits, length-drop front text, front_fits)

        slip-same : slip_of h.slip.shape h.slip.class h.slip.settled h.slip.lines h.slip.steps 1 ≡ slip_by gathered_form text
        unfolding slip_by
        slip-same = rw read.slip (ap (slip_from 1) its-body)

        steps-kept : to_z w64 (of_z w64 h.slip.steps) ≡ h.slip.steps
        unfolding slip_by
        steps-kept =
            let good = formed-head rest read in
            to_z-of_z {w = w64} (rw read.slip (sfits_of good.0))

        settled-kept : to_z w64 (of_z w64 h.slip.settled) ≡ h.slip.settled
        unfolding slip_by
        settled-kept =
            let good = formed-head rest read in
            to_z-of_z {w = w64} (rw read.slip (held_fits _ good.1))

        pub head_read : FrontedHead text
            (record {
              slip = slip_of h.slip.shape h.slip.class (to_z w64 (of_z w64 h.slip.settled)) h.slip.lines
                  (to_z w64 (of_z w64 h.slip.steps)) 1;
              end = front + h.end;
            })
        head_read = rw (steps-kept, settled-kept) (record {
          passes = mode-passes ∙ raised-none (head_faults degree_limit rest) refl read.passes;
          slip = slip-same;
          far = omega (arith, long, read.far);
          fits = end_fits;
          rest = ap lines_of (sym (drop-drop h.end front text)) ∙ read.rest ∙ ap (drop 6) its-body;
        })
