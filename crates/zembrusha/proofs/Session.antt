-- A session's calls are those of the contracts: whatever meets the contract of an export, as Rattle reads it
-- (`Reads.Post`), goes in front of a run, or begins a session.
--   InFront f calls end at call   the call, made at `at`, goes in front of the calls that lead to `end`
--   at-hand counted saves slip x  a run stands so, slip and what is lent those that an export was handed
use Rattle.std.specs.Prelude.{◌∷◌}
use mathlib.Core.Path.{◌≡◌}
use Rattle.theory.specs.Basics.{List, [], ℕ, ℤ}
use Rattle.sessiontext.specs.SessionText.{Form, plain_form, gathered_form}
use Rattle.sessionruns.specs.Run.{Saves, counts_at, Standing, standing, after, begun}
use Rattle.zembrusha.specs.declared.Slip.{Slip}
use Rattle.zembrusha.specs.Exports.{given}
use Rattle.zembrusha.specs.Session.{Call, opened, previewed, committed, watched-whole, watched-ratio}
use Rattle.zembrusha.specs.Session.{watched-refusal, saved, loaded, their_next, Run, Session}
use Rattle.zembrusha.proofs.plain.zembrusha_open.Reads as open-export
use Rattle.zembrusha.proofs.plain.zembrusha_preview.Reads as preview-export
use Rattle.zembrusha.proofs.plain.zembrusha_commit.Reads as commit-export
use Rattle.zembrusha.proofs.plain.zembrusha_watch_whole.Reads as whole-export
use Rattle.zembrusha.proofs.plain.zembrusha_watch_ratio.Reads as ratio-export
use Rattle.zembrusha.proofs.plain.zembrusha_watch_refusal.Reads as refusal-export
use Rattle.zembrusha.proofs.gatherings.zembrusha_gathered_open.Reads as gathered-open-export
use Rattle.zembrusha.proofs.gatherings.zembrusha_gathered_preview.Reads as gathered-preview-export
use Rattle.zembrusha.proofs.gatherings.zembrusha_gathered_commit.Reads as gathered-commit-export
use Rattle.zembrusha.proofs.gatherings.zembrusha_gathered_watch_whole.Reads as gathered-whole-export
use Rattle.zembrusha.proofs.gatherings.zembrusha_gathered_watch_ratio.Reads as gathered-ratio-export
use Rattle.zembrusha.proofs.gatherings.zembrusha_gathered_watch_refusal.Reads as gathered-refusal-export
use Rattle.zembrusha.proofs.gatherings.zembrusha_gathered_save.Reads as gathered-save-export
use Rattle.zembrusha.proofs.gatherings.zembrusha_gathered_load.Reads as gathered-load-export
use Rattle.zembrusha.proofs.texts.zembrusha_save.Reads as save-export
use Rattle.zembrusha.proofs.texts.zembrusha_load.Reads as load-export

-- a call in front of a run that goes on from where it leads
abbrev InFront : (f : Form) → List (Call f.mode.Lent) → (end at : Standing f.mode.Lent) → Call f.mode.Lent
    → Type 0
InFront f calls end at call = Run f (after at (their_next f at call)) calls end → Run f at (call ∷ calls) end

abbrev at-hand : {L : Type 0} → ℕ → Saves → Slip → L → Standing L
at-hand counted saves slip lent = standing (given slip) lent counted saves

-- ---- in the plain mode
module _ (calls : List (Call (List ℕ))) (end : Standing (List ℕ)) where
  pub session-opens : (κs : _) (a : _) (r : _) (s : _) → open-export.Post κs a r s → r.refused ≡ 0
      → Run plain_form (begun (given r.slip) s.1.1.0.now) calls end
      → Session plain_form a.0 a.1.0 a.1.1.0.now calls end
  session-opens κs a r s o accepted run =
      record { answer = r; lent = s.1.1.0.now; promised = o; accepted = accepted; goes_on = run }

  module _ (counted : ℕ) (saves : Saves) where
    pub run-opens : (κs : _) (a : _) (r : _) (s : _) (u : Slip) → open-export.Post κs a r s → (r.refused ≡ 0 → ⊥)
        → InFront plain_form calls end (at-hand counted saves u a.1.1.0.now)
        (opened a.0 a.1.0 r s.1.1.0.now)
    unfolding Run
    run-opens κs a r s u o refused run = (o, refused, run)

    pub run-previews : (κs : _) (a : _) (r : _) (s : _) → preview-export.Post κs a r s
        → InFront plain_form calls end (at-hand counted saves a.0 a.1.0.now)
        (previewed a.1.1.0 a.1.1.1.0 a.1.1.1.1.0.now r s.1.1.1.1.0.now)
    unfolding Run
    run-previews κs a r s o run = (o, tt, run)

    pub run-commits : (κs : _) (a : _) (r : _) (s : _) → commit-export.Post κs a r s
        → InFront plain_form calls end (at-hand counted saves a.0 a.1.0.now)
        (committed a.1.1.0 a.1.1.1.0 a.1.1.1.1.0.now r s.1.0.now)
    unfolding Run
    run-commits κs a r s o run = (o, tt, run)

    pub run-watches-whole : (κs : _) (a : _) (r : _) (s : _) → whole-export.Post κs a r s
        → InFront plain_form calls end (at-hand counted saves a.0 a.1.0.now)
        (watched-whole a.1.1.0 a.1.1.1.0 r)
    unfolding Run
    run-watches-whole κs a r s o run = (o, tt, run)

    pub run-watches-ratio : (κs : _) (a : _) (r : _) (s : _) → ratio-export.Post κs a r s
        → InFront plain_form calls end (at-hand counted saves a.0 a.1.0.now)
        (watched-ratio a.1.1.0 a.1.1.1.0 r)
    unfolding Run
    run-watches-ratio κs a r s o run = (o, tt, run)

    pub run-watches-refusal : (κs : _) (a : _) (r : _) (s : _) → refusal-export.Post κs a r s
        → InFront plain_form calls end (at-hand counted saves a.0 a.1.0.now)
        (watched-refusal a.1.1.0 a.1.1.1.0 r)
    unfolding Run
    run-watches-refusal κs a r s o run = (o, tt, run)

    pub run-saves : (κs : _) (a : _) (r : _) (s : _) → save-export.Post κs a r s
        → InFront plain_form calls end (at-hand counted saves a.0 a.1.0.now)
        (saved a.1.1.0.now r s.1.1.0.now)
    unfolding Run
    run-saves κs a r s o run = (o, tt, run)

    -- a load that is refused, or of a text that was saved in the run
    pub run-loads : (κs : _) (a : _) (r : _) (s : _) (u : Slip) → load-export.Post κs a r s
        → (r.refused ≡ 0 → counts_at a.0.now saves ≡ [] → ⊥)
        → InFront plain_form calls end (at-hand counted saves u a.1.0.now) (loaded a.0.now r s.1.0.now)
    unfolding Run
    run-loads κs a r s u o known run = (o, known, run)

-- ---- in the gathered mode
abbrev Lent : Type 0
Lent = List ℕ × List ℤ

module _ (calls : List (Call Lent)) (end : Standing Lent) where
  pub gathered-session-opens : (κs : _) (a : _) (r : _) (s : _) → gathered-open-export.Post κs a r s → r.refused ≡ 0
      → Run gathered_form (begun (given r.slip) (s.1.1.0.now, s.1.1.1.0.now)) calls end
      → Session gathered_form a.0 a.1.0 (a.1.1.0.now, a.1.1.1.0.now) calls end
  gathered-session-opens κs a r s o accepted run =
      record {
        answer = r;
        lent = (s.1.1.0.now, s.1.1.1.0.now);
        promised = o;
        accepted = accepted;
        goes_on = run;
      }

  module _ (counted : ℕ) (saves : Saves) where
    pub gathered-run-opens : (κs : _) (a : _) (r : _) (s : _) (u : Slip) → gathered-open-export.Post κs a r s
        → (r.refused ≡ 0 → ⊥)
        → InFront gathered_form calls end (at-hand counted saves u (a.1.1.0.now, a.1.1.1.0.now))
        (opened a.0 a.1.0 r (s.1.1.0.now, s.1.1.1.0.now))
    unfolding Run
    gathered-run-opens κs a r s u o refused run = (o, refused, run)

    pub gathered-run-previews : (κs : _) (a : _) (r : _) (s : _) → gathered-preview-export.Post κs a r s
        → InFront gathered_form calls end (at-hand counted saves a.0 (a.1.0.now, a.1.1.0.now))
        (previewed a.1.1.1.0 a.1.1.1.1.0 a.1.1.1.1.1.0.now r s.1.1.1.1.1.0.now)
    unfolding Run
    gathered-run-previews κs a r s o run = (o, tt, run)

    pub gathered-run-commits : (κs : _) (a : _) (r : _) (s : _) → gathered-commit-export.Post κs a r s
        → InFront gathered_form calls end (at-hand counted saves a.0 (a.1.0.now, a.1.1.0.now))
        (committed a.1.1.1.0 a.1.1.1.1.0 a.1.1.1.1.1.0.now r (s.1.0.now, s.1.1.0.now))
    unfolding Run
    gathered-run-commits κs a r s o run = (o, tt, run)

    pub gathered-run-watches-whole : (κs : _) (a : _) (r : _) (s : _) → gathered-whole-export.Post κs a r s
        → InFront gathered_form calls end (at-hand counted saves a.0 (a.1.0.now, a.1.1.0.now))
        (watched-whole a.1.1.1.0 a.1.1.1.1.0 r)
    unfolding Run
    gathered-run-watches-whole κs a r s o run = (o, tt, run)

    pub gathered-run-watches-ratio : (κs : _) (a : _) (r : _) (s : _) → gathered-ratio-export.Post κs a r s
        → InFront gathered_form calls end (at-hand counted saves a.0 (a.1.0.now, a.1.1.0.now))
        (watched-ratio a.1.1.1.0 a.1.1.1.1.0 r)
    unfolding Run
    gathered-run-watches-ratio κs a r s o run = (o, tt, run)

    pub gathered-run-watches-refusal : (κs : _) (a : _) (r : _) (s : _) → gathered-refusal-export.Post κs a r s
        → InFront gathered_form calls end (at-hand counted saves a.0 (a.1.0.now, a.1.1.0.now))
        (watched-refusal a.1.1.1.0 a.1.1.1.1.0 r)
    unfolding Run
    gathered-run-watches-refusal κs a r s o run = (o, tt, run)

    pub gathered-run-saves : (κs : _) (a : _) (r : _) (s : _) → gathered-save-export.Post κs a r s
        → InFront gathered_form calls end (at-hand counted saves a.0 (a.1.0.now, a.1.1.0.now))
        (saved a.1.1.1.0.now r s.1.1.1.0.now)
    unfolding Run
    gathered-run-saves κs a r s o run = (o, tt, run)

    -- a load that is refused, or of a text that was saved in the run
    pub gathered-run-loads : (κs : _) (a : _) (r : _) (s : _) (u : Slip) → gathered-load-export.Post κs a r s
        → (r.refused ≡ 0 → counts_at a.0.now saves ≡ [] → ⊥)
        → InFront gathered_form calls end (at-hand counted saves u (a.1.0.now, a.1.1.0.now))
        (loaded a.0.now r (s.1.0.now, s.1.1.0.now))
    unfolding Run
    gathered-run-loads κs a r s u o known run = (o, known, run)
