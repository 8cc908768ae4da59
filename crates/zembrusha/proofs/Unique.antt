-- No second outcome meets a contract. Each theorem is of the contract itself, as Rattle reads it (`Reads.Post`).
use mathlib.Core.Path.{◌≡◌, sym, ◌∙◌, ap}
use Rattle.theory.specs.Basics.{List, ℕ, ℤ}
use Rattle.theory.specs.Limits.{degree_limit}
use Rattle.words.specs.Answers.Laws.{one-outcome}
use Rattle.words.specs.Answers.{NumberAnswer}
use Rattle.words.specs.Calls.{shape_parts_into, class_parts_into}
use Rattle.words.specs.Calls.Laws.{one-period-told}
use Rattle.oldlists.specs.Calls.{shapes_from_old, shapes_to_old}
use Rattle.classcolumns.specs.Calls.{column_into}
use Rattle.pages.specs.Mode.{gathered_mode}
use Rattle.sessions.specs.Opening.{opening_in, opening}
use Rattle.sessions.specs.Step.{preview_in, commit_in, preview, commit}
use Rattle.sessiontext.specs.SessionText.{gathered_form}
use Rattle.sessiontext.specs.Calls.{save_by, load_by, save_into, load_into}
use Rattle.zembrusha.specs.Exports.{counted, listed, given, handed_run, loaded_run}
use Rattle.zembrusha.proofs.singles.zembrusha_character.Reads as character
use Rattle.zembrusha.proofs.singles.zembrusha_character_refusal.Reads as character-refusal
use Rattle.zembrusha.proofs.singles.zembrusha_good_shape.Reads as good-shape
use Rattle.zembrusha.proofs.singles.zembrusha_degree.Reads as degree
use Rattle.zembrusha.proofs.singles.zembrusha_degree_refusal.Reads as degree-refusal
use Rattle.zembrusha.proofs.singles.zembrusha_character_degree.Reads as character-degree
use Rattle.zembrusha.proofs.singles.zembrusha_character_degree_refusal.Reads as character-degree-refusal
use Rattle.zembrusha.proofs.singles.zembrusha_conjugate.Reads as conjugate
use Rattle.zembrusha.proofs.singles.zembrusha_conjugate_refusal.Reads as conjugate-refusal
use Rattle.zembrusha.proofs.singles.zembrusha_class_sign.Reads as class-sign
use Rattle.zembrusha.proofs.singles.zembrusha_class_sign_refusal.Reads as class-sign-refusal
use Rattle.zembrusha.proofs.singles.zembrusha_class_size.Reads as class-size
use Rattle.zembrusha.proofs.singles.zembrusha_class_size_refusal.Reads as class-size-refusal
use Rattle.zembrusha.proofs.singles.zembrusha_class_period.Reads as class-period
use Rattle.zembrusha.proofs.singles.zembrusha_class_period_refusal.Reads as class-period-refusal
use Rattle.zembrusha.proofs.runs.zembrusha_shape_word.Reads as shape-word
use Rattle.zembrusha.proofs.runs.zembrusha_class_word.Reads as class-word
use Rattle.zembrusha.proofs.runs.zembrusha_shape_parts.Reads as shape-parts
use Rattle.zembrusha.proofs.runs.zembrusha_class_parts.Reads as class-parts
use Rattle.zembrusha.proofs.runs.zembrusha_shapes_from_old.Reads as shapes-from-old
use Rattle.zembrusha.proofs.runs.zembrusha_shapes_to_old.Reads as shapes-to-old
use Rattle.zembrusha.proofs.runs.zembrusha_column.Reads as column
use Rattle.zembrusha.proofs.plain.zembrusha_open.Reads as opened
use Rattle.zembrusha.proofs.plain.zembrusha_preview.Reads as previewed
use Rattle.zembrusha.proofs.plain.zembrusha_commit.Reads as committed
use Rattle.zembrusha.proofs.plain.zembrusha_watch_whole.Reads as watch-whole
use Rattle.zembrusha.proofs.plain.zembrusha_watch_ratio.Reads as watch-ratio
use Rattle.zembrusha.proofs.plain.zembrusha_watch_refusal.Reads as watch-refusal
use Rattle.zembrusha.proofs.gatherings.zembrusha_gathered_open.Reads as gathered-opened
use Rattle.zembrusha.proofs.gatherings.zembrusha_gathered_preview.Reads as gathered-previewed
use Rattle.zembrusha.proofs.gatherings.zembrusha_gathered_commit.Reads as gathered-committed
use Rattle.zembrusha.proofs.gatherings.zembrusha_gathered_watch_whole.Reads as gathered-watch-whole
use Rattle.zembrusha.proofs.gatherings.zembrusha_gathered_watch_ratio.Reads as gathered-watch-ratio
use Rattle.zembrusha.proofs.gatherings.zembrusha_gathered_watch_refusal.Reads as gathered-watch-refusal
use Rattle.zembrusha.proofs.gatherings.zembrusha_gathered_save.Reads as gathered-saved
use Rattle.zembrusha.proofs.gatherings.zembrusha_gathered_load.Reads as gathered-loaded
use Rattle.zembrusha.proofs.texts.zembrusha_save.Reads as saved
use Rattle.zembrusha.proofs.texts.zembrusha_load.Reads as loaded

-- a page and its column
both_runs : {A : Type 0} {r r' : A} {x y : List ℕ × List ℤ} → (r ≡ r') × (x ≡ y)
    → (r ≡ r') × (x.0 ≡ y.0) × (x.1 ≡ y.1)
both_runs (answer, lent) =
    (answer, ap (λ (l : List ℕ × List ℤ). l.0) lent, ap (λ (l : List ℕ × List ℤ). l.1) lent)

-- ---- single calls
pub zembrusha-character-once : (κs : _) (a : _) (r r' : _) (s s' : _) → character.Post κs a r s
    → character.Post κs a r' s' → r ≡ r'
zembrusha-character-once κs a r r' s s' p q = p ∙ sym q

pub zembrusha-character-refusal-once : (κs : _) (a : _) (r r' : _) (s s' : _) → character-refusal.Post κs a r s
    → character-refusal.Post κs a r' s' → r ≡ r'
zembrusha-character-refusal-once κs a r r' s s' p q = p ∙ sym q

pub zembrusha-good-shape-once : (κs : _) (a : _) (r r' : _) (s s' : _) → good-shape.Post κs a r s
    → good-shape.Post κs a r' s' → r ≡ r'
zembrusha-good-shape-once κs a r r' s s' p q = p ∙ sym q

pub zembrusha-degree-once : (κs : _) (a : _) (r r' : _) (s s' : _) → degree.Post κs a r s
    → degree.Post κs a r' s' → r ≡ r'
zembrusha-degree-once κs a r r' s s' p q = p ∙ sym q

pub zembrusha-degree-refusal-once : (κs : _) (a : _) (r r' : _) (s s' : _) → degree-refusal.Post κs a r s
    → degree-refusal.Post κs a r' s' → r ≡ r'
zembrusha-degree-refusal-once κs a r r' s s' p q = p ∙ sym q

pub zembrusha-character-degree-once : (κs : _) (a : _) (r r' : _) (s s' : _) → character-degree.Post κs a r s
    → character-degree.Post κs a r' s' → r ≡ r'
zembrusha-character-degree-once κs a r r' s s' p q = p ∙ sym q

pub zembrusha-character-degree-refusal-once : (κs : _) (a : _) (r r' : _) (s s' : _)
    → character-degree-refusal.Post κs a r s
    → character-degree-refusal.Post κs a r' s' → r ≡ r'
zembrusha-character-degree-refusal-once κs a r r' s s' p q = p ∙ sym q

pub zembrusha-conjugate-once : (κs : _) (a : _) (r r' : _) (s s' : _) → conjugate.Post κs a r s
    → conjugate.Post κs a r' s' → r ≡ r'
zembrusha-conjugate-once κs a r r' s s' p q = p ∙ sym q

pub zembrusha-conjugate-refusal-once : (κs : _) (a : _) (r r' : _) (s s' : _) → conjugate-refusal.Post κs a r s
    → conjugate-refusal.Post κs a r' s' → r ≡ r'
zembrusha-conjugate-refusal-once κs a r r' s s' p q = p ∙ sym q

pub zembrusha-class-sign-once : (κs : _) (a : _) (r r' : _) (s s' : _) → class-sign.Post κs a r s
    → class-sign.Post κs a r' s' → r ≡ r'
zembrusha-class-sign-once κs a r r' s s' p q = p ∙ sym q

pub zembrusha-class-sign-refusal-once : (κs : _) (a : _) (r r' : _) (s s' : _) → class-sign-refusal.Post κs a r s
    → class-sign-refusal.Post κs a r' s' → r ≡ r'
zembrusha-class-sign-refusal-once κs a r r' s s' p q = p ∙ sym q

pub zembrusha-class-size-once : (κs : _) (a : _) (r r' : _) (s s' : _) → class-size.Post κs a r s
    → class-size.Post κs a r' s' → r ≡ r'
zembrusha-class-size-once κs a r r' s s' p q = p ∙ sym q

pub zembrusha-class-size-refusal-once : (κs : _) (a : _) (r r' : _) (s s' : _) → class-size-refusal.Post κs a r s
    → class-size-refusal.Post κs a r' s' → r ≡ r'
zembrusha-class-size-refusal-once κs a r r' s s' p q = p ∙ sym q

pub zembrusha-class-period-once : (κs : _) (a : _) (r r' : _) (s s' : _) → class-period.Post κs a r s
    → class-period.Post κs a r' s' → r ≡ r'
zembrusha-class-period-once κs a r r' s s' p q =
    let same = one-period-told degree_limit a.0 p.promised q.promised in
    p.number ∙ ap (λ (answer : NumberAnswer). answer.number) same ∙ sym q.number

pub zembrusha-class-period-refusal-once : (κs : _) (a : _) (r r' : _) (s s' : _) → class-period-refusal.Post κs a r s
    → class-period-refusal.Post κs a r' s' → r ≡ r'
zembrusha-class-period-refusal-once κs a r r' s s' p q = p ∙ sym q

-- ---- lent runs
pub zembrusha-shape-word-once : (κs : _) (a : _) (r r' : _) (s s' : _) → shape-word.Post κs a r s
    → shape-word.Post κs a r' s' → r ≡ r'
zembrusha-shape-word-once κs a r r' s s' p q = p ∙ sym q

pub zembrusha-class-word-once : (κs : _) (a : _) (r r' : _) (s s' : _) → class-word.Post κs a r s
    → class-word.Post κs a r' s' → r ≡ r'
zembrusha-class-word-once κs a r r' s s' p q = p ∙ sym q

pub zembrusha-shape-parts-once : (κs : _) (a : _) (r r' : _) (s s' : _) → shape-parts.Post κs a r s
    → shape-parts.Post κs a r' s' → (r ≡ r') × (s.1.0.now ≡ s'.1.0.now)
zembrusha-shape-parts-once κs a r r' s s' p q =
    one-outcome (counted (shape_parts_into degree_limit a.0 a.1.0.now)) p q

pub zembrusha-class-parts-once : (κs : _) (a : _) (r r' : _) (s s' : _) → class-parts.Post κs a r s
    → class-parts.Post κs a r' s' → (r ≡ r') × (s.1.0.now ≡ s'.1.0.now)
zembrusha-class-parts-once κs a r r' s s' p q =
    one-outcome (counted (class_parts_into degree_limit a.0 a.1.0.now)) p q

pub zembrusha-shapes-from-old-once : (κs : _) (a : _) (r r' : _) (s s' : _) → shapes-from-old.Post κs a r s
    → shapes-from-old.Post κs a r' s' → (r ≡ r') × (s.1.0.now ≡ s'.1.0.now)
zembrusha-shapes-from-old-once κs a r r' s s' p q =
    one-outcome (listed (shapes_from_old degree_limit a.0.now a.1.0.now)) p q

pub zembrusha-shapes-to-old-once : (κs : _) (a : _) (r r' : _) (s s' : _) → shapes-to-old.Post κs a r s
    → shapes-to-old.Post κs a r' s' → (r ≡ r') × (s.1.0.now ≡ s'.1.0.now)
zembrusha-shapes-to-old-once κs a r r' s s' p q =
    one-outcome (listed (shapes_to_old degree_limit a.0.now a.1.0.now)) p q

pub zembrusha-column-once : (κs : _) (a : _) (r r' : _) (s s' : _) → column.Post κs a r s → column.Post κs a r' s'
    → (r ≡ r') × (s.1.0.now ≡ s'.1.0.now)
zembrusha-column-once κs a r r' s s' p q = one-outcome (counted (column_into degree_limit a.0 a.1.0.now)) p q

-- ---- sessions
pub zembrusha-open-once : (κs : _) (a : _) (r r' : _) (s s' : _) → opened.Post κs a r s → opened.Post κs a r' s'
    → (r ≡ r') × (s.1.1.0.now ≡ s'.1.1.0.now)
zembrusha-open-once κs a r r' s s' p q =
    one-outcome (handed_run (opening degree_limit a.0 a.1.0 a.1.1.0.now)) p q

pub zembrusha-preview-once : (κs : _) (a : _) (r r' : _) (s s' : _) → previewed.Post κs a r s
    → previewed.Post κs a r' s' → (r ≡ r') × (s.1.1.1.1.0.now ≡ s'.1.1.1.1.0.now)
zembrusha-preview-once κs a r r' s s' p q =
    one-outcome
    (counted
    (preview degree_limit (given a.0) a.1.0.now a.1.1.0 a.1.1.1.0 a.1.1.1.1.0.now)) p q

pub zembrusha-commit-once : (κs : _) (a : _) (r r' : _) (s s' : _) → committed.Post κs a r s
    → committed.Post κs a r' s' → (r ≡ r') × (s.1.0.now ≡ s'.1.0.now)
zembrusha-commit-once κs a r r' s s' p q =
    one-outcome
    (handed_run
    (commit degree_limit (given a.0) a.1.0.now a.1.1.0 a.1.1.1.0 a.1.1.1.1.0.now)) p q

pub zembrusha-watch-whole-once : (κs : _) (a : _) (r r' : _) (s s' : _) → watch-whole.Post κs a r s
    → watch-whole.Post κs a r' s' → r ≡ r'
zembrusha-watch-whole-once κs a r r' s s' p q = p ∙ sym q

pub zembrusha-watch-ratio-once : (κs : _) (a : _) (r r' : _) (s s' : _) → watch-ratio.Post κs a r s
    → watch-ratio.Post κs a r' s' → r ≡ r'
zembrusha-watch-ratio-once κs a r r' s s' p q = p ∙ sym q

pub zembrusha-watch-refusal-once : (κs : _) (a : _) (r r' : _) (s s' : _) → watch-refusal.Post κs a r s
    → watch-refusal.Post κs a r' s' → r ≡ r'
zembrusha-watch-refusal-once κs a r r' s s' p q = p ∙ sym q

-- ---- texts
pub zembrusha-save-once : (κs : _) (a : _) (r r' : _) (s s' : _) → saved.Post κs a r s → saved.Post κs a r' s'
    → (r ≡ r') × (s.1.1.0.now ≡ s'.1.1.0.now)
zembrusha-save-once κs a r r' s s' p q =
    one-outcome (counted (save_into degree_limit (given a.0) a.1.0.now a.1.1.0.now)) p q

pub zembrusha-load-once : (κs : _) (a : _) (r r' : _) (s s' : _) → loaded.Post κs a r s → loaded.Post κs a r' s'
    → (r ≡ r') × (s.1.0.now ≡ s'.1.0.now)
zembrusha-load-once κs a r r' s s' p q =
    one-outcome (loaded_run (load_into degree_limit a.0.now a.1.0.now)) p q

-- ---- sessions in the gathered mode
pub zembrusha-gathered-open-once : (κs : _) (a : _) (r r' : _) (s s' : _) → gathered-opened.Post κs a r s
    → gathered-opened.Post κs a r' s'
    → (r ≡ r') × (s.1.1.0.now ≡ s'.1.1.0.now) × (s.1.1.1.0.now ≡ s'.1.1.1.0.now)
zembrusha-gathered-open-once κs a r r' s s' p q =
    both_runs
    (one-outcome
    (handed_run (opening_in gathered_mode degree_limit a.0 a.1.0 (a.1.1.0.now, a.1.1.1.0.now))) p q)

pub zembrusha-gathered-preview-once : (κs : _) (a : _) (r r' : _) (s s' : _) → gathered-previewed.Post κs a r s
    → gathered-previewed.Post κs a r' s' → (r ≡ r') × (s.1.1.1.1.1.0.now ≡ s'.1.1.1.1.1.0.now)
zembrusha-gathered-preview-once κs a r r' s s' p q =
    one-outcome
    (counted
    (preview_in gathered_mode degree_limit (given a.0) (a.1.0.now, a.1.1.0.now) a.1.1.1.0
    a.1.1.1.1.0 a.1.1.1.1.1.0.now)) p q

pub zembrusha-gathered-commit-once : (κs : _) (a : _) (r r' : _) (s s' : _) → gathered-committed.Post κs a r s
    → gathered-committed.Post κs a r' s'
    → (r ≡ r') × (s.1.0.now ≡ s'.1.0.now) × (s.1.1.0.now ≡ s'.1.1.0.now)
zembrusha-gathered-commit-once κs a r r' s s' p q =
    both_runs
    (one-outcome
    (handed_run
    (commit_in gathered_mode degree_limit (given a.0) (a.1.0.now, a.1.1.0.now) a.1.1.1.0
    a.1.1.1.1.0 a.1.1.1.1.1.0.now)) p q)

pub zembrusha-gathered-watch-whole-once : (κs : _) (a : _) (r r' : _) (s s' : _) → gathered-watch-whole.Post κs a r s
    → gathered-watch-whole.Post κs a r' s' → r ≡ r'
zembrusha-gathered-watch-whole-once κs a r r' s s' p q = p ∙ sym q

pub zembrusha-gathered-watch-ratio-once : (κs : _) (a : _) (r r' : _) (s s' : _) → gathered-watch-ratio.Post κs a r s
    → gathered-watch-ratio.Post κs a r' s' → r ≡ r'
zembrusha-gathered-watch-ratio-once κs a r r' s s' p q = p ∙ sym q

pub zembrusha-gathered-watch-refusal-once : (κs : _) (a : _) (r r' : _) (s s' : _)
    → gathered-watch-refusal.Post κs a r s → gathered-watch-refusal.Post κs a r' s' → r ≡ r'
zembrusha-gathered-watch-refusal-once κs a r r' s s' p q = p ∙ sym q

pub zembrusha-gathered-save-once : (κs : _) (a : _) (r r' : _) (s s' : _) → gathered-saved.Post κs a r s
    → gathered-saved.Post κs a r' s' → (r ≡ r') × (s.1.1.1.0.now ≡ s'.1.1.1.0.now)
zembrusha-gathered-save-once κs a r r' s s' p q =
    one-outcome
    (counted
    (save_by gathered_form degree_limit (given a.0) (a.1.0.now, a.1.1.0.now) a.1.1.1.0.now)) p q

pub zembrusha-gathered-load-once : (κs : _) (a : _) (r r' : _) (s s' : _) → gathered-loaded.Post κs a r s
    → gathered-loaded.Post κs a r' s'
    → (r ≡ r') × (s.1.0.now ≡ s'.1.0.now) × (s.1.1.0.now ≡ s'.1.1.0.now)
zembrusha-gathered-load-once κs a r r' s s' p q =
    both_runs
    (one-outcome (loaded_run (load_by gathered_form degree_limit a.0.now (a.1.0.now, a.1.1.0.now))) p q)
