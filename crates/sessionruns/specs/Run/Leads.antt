-- What a commit keeps, accepted or refused, on any sound slip and page, whoever wrote it, in any mode.
--   Leads m limit s x k t y   with k steps that count, slip s and x, which is lent, become the sound slip t and y,
--                             worth the same, of the same shape and class, on a page of the same length
use Rattle.std.specs.Prelude.{◌≡◌, ◌+◌, ◌+ℤ◌}
use Rattle.std.proofs.Math.Path.{refl}
use Rattle.std.proofs.Common.{sym, ◌∙◌, ap}
use Rattle.std.proofs.Math.Dec.{eqb-suc-zero}
use Rattle.std.proofs.Math.IntN.{+ℤ_assoc, +ℤ_idr}
use Rattle.theory.specs.Basics.{cond, List, length, ℕ, zero, suc, pos, ◌=?◌}
use Rattle.theory.specs.Limits.{degree_limit}
use Rattle.theory.specs.Refusals.{first_of}
use Rattle.words.specs.Answers.{Outcome}
use Rattle.text.specs.Text.{Text}
use Rattle.pages.specs.declared.Slip.{Slip}
use Rattle.sessions.specs.Opening.{Handed}
use Rattle.pages.specs.Line.{Line}
use Rattle.pages.specs.Page.{worth}
use Rattle.pages.specs.Mode.{Mode, waiting_in}
use Rattle.pages.specs.Sound.Laws.{SoundIn}
use Rattle.pages.specs.Lawful.{Lawful}
use Rattle.sessions.specs.Step.{next_lines_in, next_slip_in, commit_checks_in, finished_in, commit_in}
use Rattle.sessions.proofs.Step.Laws.{accepted, next-sound-in, next-waits, next-worth-in}
use Rattle.sessiontext.specs.Calls.{Loaded}
use Rattle.sessiontext.specs.SessionText.{Form}
use Rattle.sessiontext.specs.SessionText.Faithful.{Faithful}
use Rattle.sessiontext.specs.Calls.{load_by}
use Rattle.sessiontext.specs.Calls.Laws.{loaded-text}

pub record Leads (m : Mode) (limit : ℕ) (s : Slip) (x : m.Lent) (k : ℕ) (t : Slip) (y : m.Lent) : Type 0 where
  pub soundness : SoundIn m limit t y
  pub same-worth : worth t (waiting_in m t y) ≡ worth s (waiting_in m s x)
  pub counted : t.steps ≡ s.steps +ℤ pos k
  pub same_shape : t.shape ≡ s.shape
  pub same_class : t.class ≡ s.class
  pub same_length : length (m.page y) ≡ length (m.page x)
  pub still-lent : first_of (m.lent_checks x) ≡ 0 → first_of (m.lent_checks y) ≡ 0
  -- what is lent has its lines and zeros after them
  pub laid : x ≡ m.put (waiting_in m s x) x → y ≡ m.put (waiting_in m t y) y

module _ {m : Mode} {limit : ℕ} {s : Slip} {x : m.Lent} where
  pub stays : SoundIn m limit s x → Leads m limit s x 0 s x
  stays sound = record {
    soundness = sound;
    same-worth = refl;
    counted = sym (+ℤ_idr s.steps);
    same_shape = refl;
    same_class = refl;
    same_length = refl;
    still-lent = λ e. e;
    laid = λ e. e;
  }

  pub and_then : {j k : ℕ} {t u : Slip} {y z : m.Lent} → Leads m limit s x j t y → Leads m limit t y k u z
      → Leads m limit s x (j + k) u z
  and_then {j} {k} l r = record {
    soundness = r.soundness;
    same-worth = r.same-worth ∙ l.same-worth;
    counted = r.counted ∙ ap (λ z. z +ℤ pos k) l.counted ∙ +ℤ_assoc s.steps (pos j) (pos k);
    same_shape = r.same_shape ∙ l.same_shape;
    same_class = r.same_class ∙ l.same_class;
    same_length = r.same_length ∙ l.same_length;
    still-lent = λ e. r.still-lent (l.still-lent e);
    laid = λ e. r.laid (l.laid e);
  }

-- ---- a commit
abbrev one-if-accepted : Handed → ℕ
one-if-accepted a = cond (a.refused =? 0) 1 0

module _ {m : Mode} (law : Lawful m) (limit : ℕ) where
  pub commit-leads : (s : Slip) (x : m.Lent) (line cycle : ℕ) (strip : List ℕ) → SoundIn m limit s x
      → Leads m limit s x (one-if-accepted (commit_in m limit s x line cycle strip).0)
      (commit_in m limit s x line cycle strip).0.slip (commit_in m limit s x line cycle strip).1
  unfolding commit_in next_slip_in
  commit-leads s x line cycle strip sound = go (first_of (commit_checks_in m limit s x line cycle strip)) refl
    where
      next : List Line
      next = next_lines_in m (waiting_in m s x) line cycle

      Given : ℕ → Handed × m.Lent
      Given k = finished_in m k s x line cycle

      go : (k : ℕ) → first_of (commit_checks_in m limit s x line cycle strip) ≡ k
          → Leads m limit s x (one-if-accepted (Given k).0) (Given k).0.slip (Given k).1
      go zero e =
          let a = accepted law limit s x line cycle strip e in
          let long = law.length-put next x a.room in
          let lent = a.named.lent in
          let passes = law.lent-put next x lent a.room in
          record {
            soundness = next-sound-in law limit s x line cycle a;
            same-worth = next-worth-in law limit s x line cycle a;
            counted = refl;
            same_shape = refl;
            same_class = refl;
            same_length = long;
            still-lent = λ _. passes;
            laid = λ _.
                law.put-alike next x (m.put next x) lent passes (sym long)
                ∙ ap (λ ls. m.put ls (m.put next x)) (sym (next-waits law limit s x line cycle a));
          }
      go (suc k) e = rw (eqb-suc-zero k) (stays sound)

-- a commit on what a load of any text gives, saved wherever it was
pub foreign-commit : {f : Form} (fa : Faithful f) (text : Text) (x : f.mode.Lent) (line cycle : ℕ) (strip : List ℕ)
    {a : Loaded} {b : Handed} {y z : f.mode.Lent}
    → Outcome (load_by f degree_limit text x) a y → a.refused ≡ 0
    → Outcome (commit_in f.mode degree_limit a.slip y line cycle strip) b z
    → Leads f.mode degree_limit a.slip y (one-if-accepted b) b.slip z
foreign-commit {f} fa text x line cycle strip {a} {y = y} loads none commits =
    let number = ap (λ (r : Loaded). r.refused) loads.answers in
    let s : SoundIn f.mode degree_limit a.slip y =
    rw (loads.answers, loads.leaves) (loaded-text fa text x (sym number ∙ none)).fair in
    rw (commits.answers, commits.leaves) (commit-leads fa.law degree_limit a.slip y line cycle strip s)
