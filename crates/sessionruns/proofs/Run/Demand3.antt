-- Demand 3 is true of every session, whatever was called in it (specs/Run/Demand3.antt).
use Rattle.std.specs.Prelude.{◌≡◌, refl, ◌∷◌, ◌+ℤ◌}
use Rattle.std.proofs.Math.Path.{sym, ap}
use Rattle.std.proofs.Common.{◌∙◌, arith}
use Rattle.std.proofs.Math.IntN.{+ℤ_idr}
use Rattle.theory.specs.Basics.{List, [], length, ℕ, pos, sum}
use Rattle.theory.specs.Limits.{degree_limit}
use Rattle.theory.specs.ShapeWord.{shape_of}
use Rattle.theory.proofs.ShapeWord.InFront.{dropped-shape}
use Rattle.theory.specs.ClassWord.{class_of}
use Rattle.theory.specs.Character.{◌on◌}
use Rattle.sessions.specs.Opening.{Handed}
use Rattle.pages.specs.Sound.Laws.{sound-is}
use Rattle.sessions.specs.Opening.Laws.{Opened, opening-opened}
use Rattle.pages.specs.Line.{Line, signed_character}
use Rattle.pages.specs.Page.{worth}
use Rattle.pages.specs.Mode.{waiting_in}
use Rattle.sessiontext.specs.SessionText.{Form}
use Rattle.sessiontext.specs.SessionText.Faithful.{Faithful}
use Rattle.sessionruns.specs.Run.{Call, saved, Standing, begun, Run, Session}
use Rattle.sessionruns.specs.Run.Parts.{run-splits, one_end, one-begun, session-unwatched}
use Rattle.sessionruns.specs.Run.Leads.{stays}
use Rattle.sessionruns.specs.Run.Kept.{Stands}
use Rattle.sessionruns.specs.Run.Demand3.{PutsBack, Demand3}
use Rattle.sessionruns.proofs.Run.Kept.{run-stands}
use Rattle.sessionruns.proofs.Run.Back.{steps-counted, put_back}

-- the sum over no line
no-sum : (lines : List Line) → length lines ≡ 0 → sum signed_character lines ≡ pos 0
no-sum [] e = refl
no-sum (l ∷ lines) e = absurd (omega arith)

module _ {f : Form} (fa : Faithful f) (shape class : ℕ) (x : f.mode.Lent) (calls : List (Call f.mode.Lent))
    (end : Standing f.mode.Lent) where
  -- what an accepted opening promised, of the answer and the page that came back
  pub session-opened : (s : Session f degree_limit shape class x calls end)
      → Opened fa.law degree_limit shape class x s.answer.slip s.lent
  session-opened s =
      let a = s.promised.answers in
      rw (a, s.promised.leaves)
      (opening-opened fa.law degree_limit shape class x (sym (ap (λ (h : Handed). h.refused) a) ∙ s.accepted))

  module _ (s : Session f degree_limit shape class x calls end) where
    abbrev first : Standing f.mode.Lent
    first = begun s.answer.slip s.lent

    stands : (so_far : List (Call f.mode.Lent)) (now : Standing f.mode.Lent)
        → Run f degree_limit first so_far now → Stands fa s.answer.slip s.lent now
    stands so_far now r =
        run-stands fa s.answer.slip s.lent (session-opened s).lent first so_far now r
        (record { leads = stays (session-opened s).soundness; stored = tt })

    -- the calls before a save lead to where it was made, and those after it on from there
    puts_back : PutsBack fa shape class x calls end
    unfolding Run
    puts_back before later then out left a cut t none =
        let o = session-opened s in
        let so_far : Run f degree_limit first before then = rw (one-begun f degree_limit s t) t.goes_on in
        let split = run-splits f degree_limit first before (saved out a left ∷ later) end (rw cut at s.goes_on) in
        let r = rw (one_end f degree_limit first before split.so_far so_far) at split.goes_on in
        let laid =
        o.laid
        ∙ fa.law.put-alike (waiting_in f.mode s.answer.slip s.lent) x s.lent o.was-lent o.lent
        (sym o.same_length) in
        put_back fa s.answer.slip s.lent o.lent o.unstepped laid then (stands before then so_far) out left
        a r.0 none later end r.2

  pub demand-3 : Session f degree_limit shape class x calls end → Demand3 fa shape class x calls end
  unfolding worth
  demand-3 s =
      let o = session-opened s in
      let l = (stands s calls end s.goes_on).leads in
      let conserved : worth end.slip (waiting_in f.mode end.slip end.lent) ≡ shape_of shape on class_of class =
      l.same-worth ∙ o.asks in
      let counted = steps-counted o.unstepped l in
      record {
        conserved = conserved;
        finished = λ none.
            let passes = l.still-lent o.lent in
            let empty = no-sum (waiting_in f.mode end.slip end.lent)
            (fa.law.waits-length end.slip.lines end.lent passes l.soundness.fit ∙ none) in
            sym (+ℤ_idr end.slip.settled) ∙ ap (λ z. end.slip.settled +ℤ z) (sym empty) ∙ conserved;
        counted = counted;
        bounded =
            let same = l.same_shape ∙ o.its_shape in
            omega (arith, rw (counted, same, dropped-shape shape) at l.soundness.lines.span);
        watch-free = session-unwatched f degree_limit s;
        still-sound = sound-is f.mode degree_limit end.slip end.lent l.soundness;
        same_length = l.same_length ∙ o.same_length;
        still-lent = l.still-lent o.lent;
        put_back = puts_back s;
      }
