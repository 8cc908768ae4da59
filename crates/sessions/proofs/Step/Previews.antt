-- What a preview and its commit have to do with each other (document 02, P3).
--   step_checks .., step ..   the single step of document 01 ("Step: 6, 7, 8, 9, 10"), which no call makes any more
--   Fits strip               the front of the strip is the preview that is made now
use Rattle.std.specs.Prelude.{◌≡◌, ◌≤◌, ◌∷◌, ◌++◌, ◌-◌}
use Rattle.std.proofs.Math.Path.{refl, sym, ap}
use Rattle.std.proofs.Common.{◌∙◌, arith, le-ltb, take_at}
use Rattle.std.proofs.Math.Decide.{ℕ_discrete}
use Rattle.std.proofs.lemmas.Bool.{eqb-false, not-false, not-true}
use Rattle.std.proofs.lemmas.List.{map-append, length-map}
use Rattle.theory.specs.Basics.{Bool, true, false, not, cond, List, [], length, take, ℕ, ◌=?◌, ◌<?◌, every}
use Rattle.theory.specs.Basics.{map, drop, replicate, suc, ℤ}
use Rattle.theory.proofs.Basics.Laws.{both, same_lists, same_self}
use Rattle.theory.proofs.Basics.Keep.{length-keep}
use Rattle.theory.specs.Partition.{degree}
use Rattle.theory.specs.ShapeWord.{shape_of}
use Rattle.theory.specs.Refusals.{Check, first_of, no-10, no-18, no-19}
use Rattle.theory.specs.Refusals.Laws.{Numbered}
use Rattle.theory.proofs.Refusals.Laws.{first-refuses, first_passes, both-pass, none-applies, answer-number}
use Rattle.words.specs.Answers.{CountAnswer}
use Rattle.words.specs.Answers.{count_answer}
use Rattle.pages.specs.Line.{Line, line_degree, hook_lines}
use Rattle.pages.specs.Line.Hooks.{hook-lines-few}
use Rattle.pages.specs.declared.Slip.{Slip}
use Rattle.pages.specs.Page.{word_of, line_at}
use Rattle.pages.specs.Mode.{Mode, waiting_in, waiting, gathered_mode}
use Rattle.pages.specs.Lawful.{Lawful}
use Rattle.pages.specs.Lawful.Plain.{plain-lawful}
use Rattle.pages.specs.Lawful.Gathered.{gathered-lawful}
use Rattle.pages.specs.Sound.Bounds.{asked-within}
use Rattle.sessions.specs.Opening.{handed, Handed}
use Rattle.sessions.specs.Step.{empty, waiting_hooks, next_lines_in, named_checks_in, new_lines_in, preview_in}
use Rattle.sessions.specs.Step.{commit_checks_in, finished_in, commit_in, next_lines, new_lines}
use Rattle.sessions.specs.Step.{preview, commit_checks, commit}
use Rattle.sessions.proofs.Step.Named.{chosen-sound}
use Rattle.sessions.proofs.Step.Laws.{NamedOn, numbered-named, named-on}

-- a number that no check has is not the first
first-other : (n : ℕ) (checks : List Check) → (n ≡ 0 → ⊥) → every (λ check. not (check.1 =? n)) checks ≡ true
    → first_of checks ≡ n → ⊥
first-other n [] some e first = some (sym first)
first-other n (check ∷ checks) some e first = go check.0 (first-other n checks some all.1) first
  where
    all : (not (check.1 =? n) ≡ true) × (every (λ check. not (check.1 =? n)) checks ≡ true)
    all = both (not (check.1 =? n)) (every (λ check. not (check.1 =? n)) checks) e

    go : (b : Bool) → (first_of checks ≡ n → ⊥) → cond b check.1 (first_of checks) ≡ n → ⊥
    go true rest is = eqb-false check.1 n (not-true (check.1 =? n) all.0) is
    go false rest is = rest is

module _ {m : Mode} (law : Lawful m) (limit : ℕ) (slip : Slip) (x : m.Lent) (line cycle : ℕ) where
  abbrev named : List Check
  named = named_checks_in m limit slip x line cycle

  abbrev new : List ℕ
  new = new_lines_in m slip x line cycle

  numbers : Numbered named
  numbers = numbered-named law limit slip x line cycle

  abbrev room : List Check
  room = no-10 (next_lines_in m (waiting_in m slip x) line cycle) (m.page x) ∷ []

  -- ---- the single step
  abbrev pub step_checks : List Check
  step_checks = named ++ room

  unfoldable pub step : Handed × m.Lent
  step = finished_in m (first_of step_checks) slip x line cycle

  -- ---- a strip that fits
  abbrev pub Fits : List ℕ → Type 0
  Fits strip = take (length new) strip ≡ new

  -- a line and a cycle that are refused are refused in a commit as in a step, whatever the strip
  refused-alike : (strip : List ℕ) → (first_of named ≡ 0 → ⊥)
      → first_of (commit_checks_in m limit slip x line cycle strip) ≡ first_of step_checks
  refused-alike strip n = first-refuses named (no-19 new strip ∷ room) n ∙ sym (first-refuses named room n)

  fits-alike : (strip : List ℕ) → Fits strip
      → first_of (commit_checks_in m limit slip x line cycle strip) ≡ first_of step_checks
  fits-alike strip f = elim (ℕ_discrete (first_of named) 0) [
    | yes z ↦
        let asked : first_of (no-19 new strip ∷ room) ≡ first_of room = rw (f, same_self new) refl in
        first_passes named (no-19 new strip ∷ room) numbers z ∙ asked ∙ sym (first_passes named room numbers z)
    | no n ↦ refused-alike strip n
  ]

  -- a commit is the single step where its strip fits; where there is no new line, any strip does
  pub commit-is-step : (strip : List ℕ) → Fits strip → commit_in m limit slip x line cycle strip ≡ step
  unfolding commit_in step
  commit-is-step strip f = ap (λ k. finished_in m k slip x line cycle) (fits-alike strip f)

  pub any-strip : (strip : List ℕ) → new ≡ [] → commit_in m limit slip x line cycle strip ≡ step
  any-strip strip none = commit-is-step strip (rw none refl)

  -- and it is accepted only where its strip fits
  number : (k : ℕ) → (finished_in m k slip x line cycle).0.refused ≡ k
  number k =
      answer-number (λ (x : Handed × m.Lent). x.0.refused) (λ k. (handed k slip, x)) _ (λ k. refl) refl k _ refl

  pub accepted-fits : (strip : List ℕ) → (commit_in m limit slip x line cycle strip).0.refused ≡ 0 → Fits strip
  unfolding commit_in
  accepted-fits strip e =
      let last : List Check = no-19 new strip ∷ room in
      let none = (both-pass named last numbers (sym (number _) ∙ e)).1 in
      sym (same_lists new (take (length new) strip) (not-false _ (none-applies last refl none).0))

  -- ---- a preview and its commit
  abbrev preview_checks : List ℕ → List Check
  preview_checks strip = named ++ no-18 new strip ∷ []

  preview-number : (strip : List ℕ)
      → (preview_in m limit slip x line cycle strip).0.refused ≡ first_of (preview_checks strip)
  unfolding preview_in
  preview-number strip =
      answer-number (λ (x : CountAnswer × List ℕ). x.0.refused) (λ k. (count_answer k 0, strip)) _ (λ k. refl) refl _ _
      refl

  -- what a preview leaves on a strip that it does not find too short
  left-fits : (strip : List ℕ) → first_of named ≡ 0 → ((preview_in m limit slip x line cycle strip).0.refused ≡ 18 → ⊥)
      → Fits (preview_in m limit slip x line cycle strip).1
  unfolding preview_in
  left-fits strip z long = go (length strip <? length new) refl
    where
      first : first_of (preview_checks strip) ≡ first_of (no-18 new strip ∷ [])
      first = first_passes named (no-18 new strip ∷ []) numbers z

      go : (b : Bool) → length strip <? length new ≡ b → Fits (preview_in m limit slip x line cycle strip).1
      go true e = absurd (long (rw (first, e) refl))
      go false e = rw (first, e) (take_at new _ (length new) refl)

  -- the single step is the two together, on any strip that is not too short
  pub step-is-both : (strip : List ℕ) → ((preview_in m limit slip x line cycle strip).0.refused ≡ 18 → ⊥)
      → commit_in m limit slip x line cycle (preview_in m limit slip x line cycle strip).1 ≡ step
  unfolding commit_in step
  step-is-both strip long =
      let left : List ℕ = (preview_in m limit slip x line cycle strip).1 in
      let alike : first_of (commit_checks_in m limit slip x line cycle left) ≡ first_of step_checks =
      elim (ℕ_discrete (first_of named) 0) [
        | yes z ↦ fits-alike left (left-fits strip z long)
        | no n ↦ refused-alike left n
      ] in
      ap (λ k. finished_in m k slip x line cycle) alike

  -- a commit of an accepted preview is refused by nothing but 10
  pub nothing-but-10 : (strip : List ℕ) → (preview_in m limit slip x line cycle strip).0.refused ≡ 0
      → (commit_in m limit slip x line cycle (preview_in m limit slip x line cycle strip).1).0.refused ≡ first_of room
  unfolding step
  nothing-but-10 strip e =
      let none = (both-pass named (no-18 new strip ∷ []) numbers (sym (preview-number strip) ∙ e)).0 in
      ap (λ (x : Handed × m.Lent). x.0.refused) (step-is-both strip (λ t. omega (arith, e)))
      ∙ number (first_of step_checks) ∙ first_passes named room numbers none

  -- a strip of as many words as the limit is never too short
  pub few-new : NamedOn m limit slip x line cycle → length new ≤ limit
  few-new n =
      let l : Line = line_at (waiting_in m slip x) line in
      let same : line_degree (m.own l) ≡ line_degree l = ap (λ (s : ℕ). degree (shape_of s)) (law.own-words l).0 in
      omega (
        arith,
        length-map (waiting_hooks cycle (m.own l)) word_of,
        length-keep (λ y. not (empty y)) (hook_lines cycle (m.own l)),
        hook-lines-few cycle (m.own l),
        same,
        (chosen-sound law limit slip (waiting_in m slip x) line cycle n.named).within,
        asked-within limit slip (waiting_in m slip x) n.soundness.lines,
      )

  -- no check of a line and a cycle has the number 18
  abbrev Other : Type 0
  Other = every (λ check. not (check.1 =? 18)) named ≡ true

  pub suffices : Other → (strip : List ℕ) → limit ≤ length strip
      → (preview_in m limit slip x line cycle strip).0.refused ≡ 18 → ⊥
  suffices other strip long e =
      let first = sym (preview-number strip) ∙ e in
      elim (ℕ_discrete (first_of named) 0) [
        | yes z ↦
            let few = few-new (named-on law limit slip x line cycle z) in
            let passes : first_of (no-18 new strip ∷ []) ≡ 0 =
            rw (le-ltb (length strip) (length new) (omega arith)) refl in
            omega (arith, first_passes named (no-18 new strip ∷ []) numbers z, first, passes)
        | no n ↦
            first-other 18 named (λ z. omega arith) other (sym (first-refuses named (no-18 new strip ∷ []) n) ∙ first)
      ]

pub limit-suffices : (limit : ℕ) (slip : Slip) (page : List ℕ) (line cycle : ℕ) (strip : List ℕ) → limit ≤ length strip
    → (preview limit slip page line cycle strip).0.refused ≡ 18 → ⊥
limit-suffices limit slip page line cycle = suffices plain-lawful limit slip page line cycle refl

pub gathered-limit-suffices : (limit : ℕ) (slip : Slip) (page : List ℕ) (column : List ℤ) (line cycle : ℕ)
    (strip : List ℕ) → limit ≤ length strip
    → (preview_in gathered_mode limit slip (page, column) line cycle strip).0.refused ≡ 18 → ⊥
gathered-limit-suffices limit slip page column line cycle =
    suffices gathered-lawful limit slip (page, column) line cycle refl

-- ---- in the plain mode what was previewed is what comes: behind the other lines an accepted commit puts the front of
-- its strip on the page
pub strip-on-page : (limit : ℕ) (slip : Slip) (page : List ℕ) (line cycle : ℕ) (strip : List ℕ)
    → (commit limit slip page line cycle strip).0.refused ≡ 0
    → let lines = waiting slip page in
    (commit limit slip page line cycle strip).1
    ≡ map word_of (take line lines ++ drop (suc line) lines) ++ take (length (new_lines slip page line cycle)) strip
    ++ replicate (length page - length (next_lines lines line cycle)) 0
unfolding commit_in next_lines_in
strip-on-page limit slip page line cycle strip e =
    let none : first_of (commit_checks limit slip page line cycle strip) ≡ 0 =
    sym (number plain-lawful limit slip page line cycle _) ∙ e in
    let lines : List Line = waiting slip page in
    rw (
      none,
      accepted-fits plain-lawful limit slip page line cycle strip e,
      map-append word_of (take line lines ++ drop (suc line) lines),
    ) refl
