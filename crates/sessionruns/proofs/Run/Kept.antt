-- What every call of a run keeps: a commit by its own laws, a load since its text is that of a session which kept it.
use Rattle.std.specs.Prelude.{◌≡◌, refl, ◌≤◌, ◌∷◌}
use Rattle.std.proofs.Common.{sym, ◌∙◌, ap, arith, eqb-true}
use Rattle.std.proofs.lemmas.Bool.{eqb-false}
use Rattle.theory.specs.Basics.{Bool, true, false, cond, List, [], map, length, get_or, take, ℕ, ◌=?◌, keep, same}
use Rattle.theory.specs.Basics.{Each}
use Rattle.theory.proofs.Basics.Laws.{same_lists}
use Rattle.theory.specs.Limits.{degree_limit}
use Rattle.theory.specs.Refusals.{first_of}
use Rattle.words.specs.Answers.{CountAnswer}
use Rattle.words.specs.Answers.{Outcome}
use Rattle.text.specs.Text.{Text}
use Rattle.pages.specs.declared.Slip.{Slip}
use Rattle.sessions.specs.Opening.{Handed}
use Rattle.pages.specs.Line.{Line}
use Rattle.pages.specs.Page.{worth}
use Rattle.pages.specs.Mode.{Mode, waiting_in}
use Rattle.pages.specs.Lawful.Put.{waiting-put, sound-put}
use Rattle.sessions.specs.Opening.Laws.{refused-opening}
use Rattle.sessiontext.specs.Calls.{Loaded}
use Rattle.sessiontext.specs.SessionText.{Form}
use Rattle.sessiontext.specs.SessionText.Faithful.{Faithful}
use Rattle.sessiontext.specs.Calls.{loaded as loaded_as, save_by, load_by}
use Rattle.sessiontext.specs.Calls.Laws.{saved-text, saved-loads, refused-load}
use Rattle.sessionruns.specs.Run.{Call, opened, previewed, committed, watched, saved, loaded, Saves, counts_at}
use Rattle.sessionruns.specs.Run.{Standing, Promised, Belongs, after, Run}
use Rattle.sessionruns.specs.Run.Leads.{Leads, and_then, commit-leads}
use Rattle.sessionruns.specs.Run.Kept.{Stored, Stands}

module _ {f : Form} (fa : Faithful f) (s : Slip) (x : f.mode.Lent) where
  abbrev m : Mode
  m = f.mode

  unfoldable pub save-stored : {k : ℕ} {t : Slip} {y : m.Lent} → Leads m degree_limit s x k t y
      → (out : Text) {a : CountAnswer} {left : Text} → Outcome (save_by f degree_limit t y out) a left → a.refused ≡ 0
      → Stored fa s x (take a.count left, k)
  save-stored {k} {t} {y} l out o none =
      let saved = saved-text fa t y out (ap (λ (c : CountAnswer). c.refused) (sym o.answers) ∙ none) in
      record { slip = t; lent = y; leads = l; passes = saved.lent; text = rw (o.answers, o.leaves) saved.text }

  -- a stored text is loaded as the session that it was saved of, where the page is as long
  module _ {save : Text × ℕ} (st : Stored fa s x save) (y : m.Lent) (passes : first_of (m.lent_checks y) ≡ 0)
      (long : length (m.page y) ≡ length (m.page x)) where
    abbrev lines : List Line
    lines = waiting_in m st.slip st.lent

    same-long : length (m.page st.lent) ≡ length (m.page y)
    same-long = st.leads.same_length ∙ sym long

    count : st.slip.lines ≡ length lines
    count = sym (fa.law.waits-length st.slip.lines st.lent st.passes st.leads.soundness.fit)

    room : length lines ≤ length (m.page y)
    room = omega (arith, count, same-long, st.leads.soundness.fit)

    pub stored-loads : load_by f degree_limit save.0 y ≡ (loaded_as 0 0 st.slip, m.put lines y)
    stored-loads =
        ap (λ text. load_by f degree_limit text y) st.text
        ∙ saved-loads fa st.leads.soundness st.passes y passes room

    pub load-leads : Leads m degree_limit s x save.1 st.slip (m.put lines y)
    load-leads =
        let written = fa.law.written-waits st.slip.lines st.lent in
        let back : waiting_in m st.slip (m.put lines y) ≡ lines =
        waiting-put fa.law st.slip lines y count written in
        let l = st.leads in
        let still = fa.law.lent-put lines y passes room in
        record {
          soundness =
              sound-put fa.law st.slip lines y count written degree_limit l.soundness.mode room
              l.soundness.stands l.soundness.lines;
          same-worth = ap (worth st.slip) back ∙ l.same-worth;
          counted = l.counted;
          same_shape = l.same_shape;
          same_class = l.same_class;
          same_length = fa.law.length-put lines y room ∙ long;
          still-lent = λ _. still;
          laid = λ _. fa.law.put-alike lines y (m.put lines y) passes still (sym (fa.law.length-put lines y room))
              ∙ ap (λ ls. m.put ls (m.put lines y)) (sym back);
        }

  -- the latest save of a text
  latest : (text : Text) (saves : Saves) → Each (Stored fa s x) saves → (counts_at text saves ≡ [] → ⊥)
      → Stored fa s x (text, get_or (counts_at text saves) 0 0)
  latest text [] e some = absurd (some refl)
  latest text (save ∷ saves) e some = go (same text save.0) refl (latest text saves e.1) some
    where
      Chosen : Bool → List ℕ
      Chosen b = map (λ (x : Text × ℕ). x.1)
          (cond b (save ∷ keep (λ x. same text x.0) saves) (keep (λ x. same text x.0) saves))

      go : (b : Bool) → same text save.0 ≡ b
          → ((counts_at text saves ≡ [] → ⊥) → Stored fa s x (text, get_or (counts_at text saves) 0 0)) → (Chosen b ≡ [] → ⊥)
          → Stored fa s x (text, get_or (Chosen b) 0 0)
      go true x earlier some = rw (same_lists text save.0 x) e.0
      go false x earlier some = earlier some

  -- ---- a call, where what was lent first passes its checks
  module _ (lent : first_of (m.lent_checks x) ≡ 0) where
    pub call-stands : (now : Standing m.Lent) (call : Call m.Lent)
        → Promised f degree_limit now.slip now.lent call → Belongs now.saves call → Stands fa s x now
        → Stands fa s x (after now call)
    call-stands now (opened shape class a y) o b w =
        let number = ap (λ (h : Handed). h.refused) o.answers in
        let e : y ≡ now.lent =
        o.leaves ∙ refused-opening fa.law degree_limit shape class now.lent (λ z. b (number ∙ z)) in
        rw e w
    call-stands now (previewed line cycle strip a left) o b w = w
    call-stands now (committed line cycle strip a y) o b w =
        record {
          leads = and_then w.leads
              (rw (o.answers, o.leaves)
              (commit-leads fa.law degree_limit now.slip now.lent line cycle strip w.leads.soundness));
          stored = w.stored;
        }
    call-stands now (watched kind line a) o b w = w
    call-stands now (saved out a left) o b w = record { leads = w.leads; stored = go (a.refused =? 0) refl }
      where
        go : (c : Bool) → a.refused =? 0 ≡ c
            → Each (Stored fa s x) (cond c ((take a.count left, now.counted) ∷ now.saves) now.saves)
        go true e = (save-stored w.leads out o (eqb-true a.refused 0 e), w.stored)
        go false e = w.stored
    call-stands now (loaded text a y) o b w = record { leads = go (a.refused =? 0) refl; stored = w.stored }
      where
        number : a.refused ≡ (load_by f degree_limit text now.lent).0.refused
        number = ap (λ (r : Loaded). r.refused) o.answers

        go : (c : Bool) → a.refused =? 0 ≡ c
            → Leads m degree_limit s x (cond c (get_or (counts_at text now.saves) 0 0) now.counted)
            (cond c a.slip now.slip) y
        go true e =
            let st = latest text now.saves w.stored (b (eqb-true a.refused 0 e)) in
            let passes = w.leads.still-lent lent in
            let gives = stored-loads st now.lent passes w.leads.same_length in
            rw (o.answers, o.leaves, gives) (load-leads st now.lent passes w.leads.same_length)
        go false e =
            let same : y ≡ now.lent =
            o.leaves ∙ refused-load fa text now.lent (λ z. eqb-false a.refused 0 e (number ∙ z)) in
            rw same w.leads

    pub run-stands : (now : Standing m.Lent) (calls : List (Call m.Lent)) (end : Standing m.Lent)
        → Run f degree_limit now calls end → Stands fa s x now → Stands fa s x end
    unfolding Run
    run-stands now [] end r w = rw r w
    run-stands now (call ∷ calls) end r w =
        run-stands (after now call) calls end r.2 (call-stands now call r.0 r.1 w)
