-- An accepted commit on any sound slip and page, whoever wrote it, in any mode: what it leaves is sound again and worth
-- the same.
--   NamedOn m ..    what it tells that no check up to 9 refuses a line and a cycle; Accepted m .., that none refuses a
--                   commit
use Rattle.std.specs.Prelude.{◌≡◌, ◌≤◌, ◌<◌, ◌∷◌}
use Rattle.std.proofs.Math.Path.{refl}
use Rattle.std.proofs.Common.{◌∙◌, ap, arith, ltb-false, leb-false}
use Rattle.std.proofs.lemmas.Bool.{eqb-false}
use Rattle.theory.specs.Basics.{List, [], length, ℕ, Each}
use Rattle.theory.proofs.Basics.AtPlace.{each_at}
use Rattle.theory.proofs.Basics.Laws.{each_same}
use Rattle.theory.specs.Limits.{page_limit}
use Rattle.theory.proofs.ShapeWord.Good.{good-shape}
use Rattle.theory.specs.ClassWord.{class_of}
use Rattle.theory.proofs.ClassWord.Laws.{good-class}
use Rattle.theory.specs.Refusals.{Check, first_of, no-8, no_9, no-10, no-19}
use Rattle.theory.specs.Refusals.Laws.{Numbered}
use Rattle.theory.proofs.Refusals.Laws.{none-applies, both-pass}
use Rattle.pages.specs.Line.{Line}
use Rattle.pages.specs.Line.Hooks.{hook-line-class}
use Rattle.pages.specs.declared.Slip.{Slip}
use Rattle.pages.specs.Page.{line_of, line_at, worth}
use Rattle.pages.specs.Mode.{Mode, waiting_in}
use Rattle.pages.specs.Sound.{page_checks_in}
use Rattle.pages.specs.Sound.Laws.{SoundIn, asked}
use Rattle.pages.specs.Lawful.{Lawful}
use Rattle.pages.specs.Lawful.Checks.{numbered_more, numbered-page, passed-page, page-passes}
use Rattle.pages.specs.Lawful.Put.{waiting-put, sound-put}
use Rattle.sessions.specs.Step.{waiting_hooks, next_lines_in, next_slip_in, named_checks_in, new_lines_in}
use Rattle.sessions.specs.Step.{commit_checks_in}
use Rattle.sessions.proofs.Step.Strike.{each-waiting}
use Rattle.sessions.proofs.Step.Named.{Named, chosen-sound, next-written, next-stands, next-sound, next-worth}

abbrev rest : (m : Mode) → Slip → m.Lent → ℕ → ℕ → List Check
rest m slip x line cycle = no-8 slip.lines line ∷ no_9 (class_of (line_at (waiting_in m slip x) line).class) cycle ∷ []

-- ---- a line and a cycle that are named
pub record NamedOn (m : Mode) (limit : ℕ) (slip : Slip) (x : m.Lent) (line cycle : ℕ) : Type 0 where
  pub lent : first_of (m.lent_checks x) ≡ 0
  pub short : length (m.page x) ≤ page_limit
  pub soundness : SoundIn m limit slip x
  pub there : line < slip.lines
  pub named : Named limit slip (waiting_in m slip x) line cycle

-- ---- an accepted commit
pub record Accepted (m : Mode) (limit : ℕ) (slip : Slip) (x : m.Lent) (line cycle : ℕ) : Type 0 where
  pub named : NamedOn m limit slip x line cycle
  pub room : length (next_lines_in m (waiting_in m slip x) line cycle) ≤ length (m.page x)

module _ {m : Mode} (law : Lawful m) (limit : ℕ) (slip : Slip) (x : m.Lent) (line cycle : ℕ) where
  abbrev lines : List Line
  lines = waiting_in m slip x

  abbrev next : List Line
  next = next_lines_in m lines line cycle

  abbrev after : Slip
  after = next_slip_in m slip lines line cycle

  pub numbered-named : Numbered (named_checks_in m limit slip x line cycle)
  numbered-named =
      numbered_more (page_checks_in m limit slip x) (rest m slip x line cycle) (numbered-page law limit slip x) refl

  pub named-on : first_of (named_checks_in m limit slip x line cycle) ≡ 0 → NamedOn m limit slip x line cycle
  named-on e =
      let last : List Check = rest m slip x line cycle in
      let (page-none, none) = both-pass (page_checks_in m limit slip x) last (numbered-page law limit slip x) e in
      let (lent, soundness) = passed-page law limit slip x page-none in
      let (is-there, (has, _)) = none-applies last refl none in
      let there = leb-false slip.lines line is-there in
      record {
        lent = lent;
        short = law.short x lent;
        soundness = soundness;
        there = there;
        named = record {
          soundness = soundness.lines;
          there = omega (arith, law.waits-length slip.lines x lent soundness.fit);
          has = eqb-false _ 0 has;
        };
      }

  pub accepted : (strip : List ℕ) → first_of (commit_checks_in m limit slip x line cycle strip) ≡ 0
      → Accepted m limit slip x line cycle
  accepted strip e =
      let last : List Check = no-19 (new_lines_in m slip x line cycle) strip ∷ no-10 next (m.page x) ∷ [] in
      let (named_none, none) = both-pass (named_checks_in m limit slip x line cycle) last numbered-named e in
      record {
        named = named-on named_none;
        room = ltb-false (length (m.page x)) (length next) (none-applies last refl none).1.0;
      }

  module _ (a : NamedOn m limit slip x line cycle) where
    -- what waits can be written down: its hooks have its weight's size, and good words
    hooks-written : Each law.Written (waiting_hooks cycle (line_at lines line))
    hooks-written =
        let l : Line = line_at lines line in
        let n = a.named in
        let s = chosen-sound law limit slip lines line cycle n in
        let written = each_at law.Written lines (line_of 0) line (law.written-waits slip.lines x) n.there in
        each_same _ law.Written (waiting_hooks cycle l)
        (λ y h.
        let class = (good-class y.class (hook-line-class cycle l s.class n.has y h.0).0).below in
        let shape = (good-shape y.shape h.0.good-shape).below in
        law.written-like l y written h.0.same_size (omega arith) (omega arith))
        (each-waiting (asked slip) cycle l s n.has)

    pub all-written : Each law.Written next
    all-written =
        next-written law limit slip lines line cycle a.named (law.written-waits slip.lines x) hooks-written

  module _ (a : Accepted m limit slip x line cycle) where
    pub next-sound-in : SoundIn m limit after (m.put next x)
    unfolding next_slip_in
    next-sound-in =
        sound-put law after next x refl (all-written a.named) limit a.named.soundness.mode a.room
        (next-stands law limit slip lines line cycle a.named.named a.named.soundness.stands)
        (next-sound law limit slip lines line cycle a.named.named)

    pub next-waits : waiting_in m after (m.put next x) ≡ next
    unfolding next_slip_in
    next-waits = waiting-put law after next x refl (all-written a.named)

    pub next-passes : first_of (page_checks_in m limit after (m.put next x)) ≡ 0
    next-passes =
        page-passes law limit after (m.put next x) (law.lent-put next x a.named.lent a.room) next-sound-in

    pub next-worth-in : worth after (waiting_in m after (m.put next x)) ≡ worth slip lines
    next-worth-in = ap (worth after) next-waits ∙ next-worth law limit slip lines line cycle a.named.named
