-- Saving and loading undo each other (document 02, P1: "Reading it back gives the same slip and lines, zeros after
-- them. One session has one text"), by any form that is faithful.
--   Saved ..           what an accepted save was given, and what it left
--   saved-text         an accepted save leaves the text of its session, which is sound, at the front
--   saved-anywhere     the text of a sound session is loaded as that session, wherever what is lent and 10 let it pass;
--   saved-loads        so where there is room for its lines; room-enough, bytes that are enough for every save
--   Taken ..           what an accepted load was given, and what it gave
--   loaded-text        a text that is loaded is the text of the session that it gives, which is sound
--   load-then-save     and is what a save gives of it
--   refused-load       a load that is refused leaves what it was lent
use Rattle.std.specs.Prelude.{◌≡◌, ◌≤◌, ◌<◌, ◌∷◌, ◌++◌, ◌+◌, ◌*◌}
use Rattle.std.proofs.Math.Path.{refl, sym}
use Rattle.std.proofs.Common.{◌∙◌, ap, le_refl, arith}
use Rattle.std.proofs.Math.Nat.{mul-le-mul}
use Rattle.std.proofs.lemmas.List.{length-map}
use Rattle.std.proofs.Math.Seq.{take-append_seam}
use borrow.Author.Tests.{ltb-false, le-ltb, eqb-true, not-false}
use Rattle.theory.specs.Basics.{Bool, true, false, cond, List, [], length, take, ℕ}
use Rattle.theory.specs.Basics.{zero, suc, ◌=?◌, Each}
use Rattle.theory.proofs.Basics.Laws.{both, each_map}
use Rattle.theory.specs.Digits.{width}
use Rattle.theory.specs.Limits.{degree_limit, page_limit}
use Rattle.theory.specs.Refusals.{Check, first_of, refused_or, no-7, no-10, no-16, no-17}
use Rattle.theory.proofs.Refusals.Laws.{none-applies, both-pass, first_passes, answer-given}
use Rattle.words.specs.Answers.{CountAnswer}
use Rattle.words.specs.Answers.{count_answer, at_front}
use Rattle.text.specs.Text.{Text}
use Rattle.pages.specs.Line.{Line}
use Rattle.pages.specs.declared.Slip.{Slip}
use Rattle.pages.specs.Page.{blank}
use Rattle.pages.specs.Mode.{waiting_in}
use Rattle.pages.specs.Sound.{sound_with, sound_lines, sound_in, page_checks_in}
use Rattle.pages.specs.Sound.Laws.{SoundIn, SoundLines, sound-is, are-sound, sound-are}
use Rattle.pages.specs.Lawful.Checks.{numbered-page, passed-page}
use Rattle.pages.specs.Lawful.Put.{waiting-put, sound-put}
use Rattle.sessiontext.specs.SessionText.{Form, session_text_by}
use Rattle.sessiontext.specs.SessionText.Laws.{front_text}
use Rattle.sessiontext.specs.SessionText.Faithful.{Faithful}
use Rattle.sessiontext.specs.SessionText.Storable.{StorableBy, sound-storable}
use Rattle.sessiontext.specs.SessionText.Room.{head_room, line_room_by, session-short}
use Rattle.sessiontext.specs.Reading.{line_by, following_by, fault_by, slip_by, lines_by}
use Rattle.sessiontext.specs.Reading.Forms.{WaitingBy, formed}
use Rattle.sessiontext.specs.Reading.Back.{text-faultless, slip-back, lines-back}
use Rattle.sessiontext.specs.Reading.Exact.{line-written, text-exact}
use Rattle.sessiontext.specs.Calls.{Loaded, loaded, save_by, load_checks_by, load_by}

small : degree_limit < width
small = omega arith

-- ---- an accepted save
pub record Saved (f : Form) (slip : Slip) (x : f.mode.Lent) (count : ℕ) (after : Text) : Type 0 where
  pub lent : first_of (f.mode.lent_checks x) ≡ 0
  pub fair : SoundIn f.mode degree_limit slip x
  pub text : take count after ≡ session_text_by f slip (waiting_in f.mode slip x)

module _ {f : Form} (fa : Faithful f) (slip : Slip) (x : f.mode.Lent) (out : Text) where
  abbrev its-text : Text
  its-text = session_text_by f slip (waiting_in f.mode slip x)

  pub saved-text : (save_by f degree_limit slip x out).0.refused ≡ 0
      → Saved f slip x (save_by f degree_limit slip x out).0.count (save_by f degree_limit slip x out).1
  unfolding save_by
  saved-text e =
      let page : List Check = page_checks_in f.mode degree_limit slip x in
      let last : List Check = no-17 its-text out ∷ [] in
      let g = answer-given {A = CountAnswer × Text} (λ r. r.0.refused) (λ k. (count_answer k 0, out)) _ (λ k. refl) refl
      (first_of (page ++ last)) _ refl e in
      let (none, _) = both-pass page last (numbered-page fa.law degree_limit slip x) g.0 in
      let (lent, fair) = passed-page fa.law degree_limit slip x none in
      record { lent = lent; fair = fair; text = rw g.0 (take-append_seam its-text _) }

-- ---- the text of a sound session
module _ {f : Form} (fa : Faithful f) {slip : Slip} {x : f.mode.Lent} (s : SoundIn f.mode degree_limit slip x)
    (lent : first_of (f.mode.lent_checks x) ≡ 0) where
  abbrev lines : List Line
  lines = waiting_in f.mode slip x

  storable : StorableBy fa degree_limit slip lines
  storable = sound-storable fa s lent

  -- wherever it is loaded: a check of what is lent, 10 or the session, and never 16 or 7
  pub saved-anywhere : (y : f.mode.Lent)
      → load_by f degree_limit (session_text_by f slip lines) y
      ≡ refused_or (first_of (f.mode.lent_checks y ++ no-10 lines (f.mode.page y) ∷ [])) (λ k. (loaded k 0 blank, y))
      (loaded 0 0 slip, f.mode.put lines y)
  unfolding load_by
  saved-anywhere y =
      rw (
        text-faultless fa degree_limit small storable,
        slip-back fa degree_limit small storable,
        lines-back fa degree_limit small storable,
        s.stands,
        sound-are degree_limit slip lines s.lines,
      )
      (same_answer (first_of (front ++ (false, 16) ∷ tenth ∷ (false, 7) ∷ [])) (first_of (front ++ tenth ∷ []))
      same_first)
    where
      front : List Check
      front = f.mode.lent_checks y

      tenth : Check
      tenth = no-10 lines (f.mode.page y)

      Given : ℕ → Loaded × f.mode.Lent
      Given k = refused_or k (λ j. (loaded j (cond (j =? 16) 0 0) blank, y)) (loaded 0 0 slip, f.mode.put lines y)

      either : (b : Bool) → ◌≡◌ {A = ℕ} (cond b 0 0) 0
      either true = refl
      either false = refl

      same_answer : (k j : ℕ) → k ≡ j
          → Given k ≡ refused_or j (λ k. (loaded k 0 blank, y)) (loaded 0 0 slip, f.mode.put lines y)
      same_answer k zero e = rw e refl
      same_answer k (suc j) e = rw (e, either (suc j =? 16)) refl

      tail : (b : Bool) → ◌≡◌ {A = ℕ} (cond b 10 (cond false 7 0)) (cond b 10 0)
      tail true = refl
      tail false = refl

      same_first : first_of (front ++ (false, 16) ∷ tenth ∷ (false, 7) ∷ []) ≡ first_of (front ++ tenth ∷ [])
      same_first = go front
        where
          go : (checks : List Check)
              → first_of (checks ++ (false, 16) ∷ tenth ∷ (false, 7) ∷ []) ≡ first_of (checks ++ tenth ∷ [])
          go [] = tail tenth.0
          go (check ∷ checks) = ap (λ (k : ℕ). cond check.0 check.1 k) (go checks)

  pub saved-loads : (y : f.mode.Lent) → first_of (f.mode.lent_checks y) ≡ 0 → length lines ≤ length (f.mode.page y)
      → load_by f degree_limit (session_text_by f slip lines) y ≡ (loaded 0 0 slip, f.mode.put lines y)
  saved-loads y passes room =
      let last : List Check = no-10 lines (f.mode.page y) ∷ [] in
      let none : first_of (f.mode.lent_checks y ++ last) ≡ 0 =
      first_passes (f.mode.lent_checks y) last (fa.law.numbered y) passes
      ∙ rw (le-ltb (length (f.mode.page y)) (length lines) room) refl in
      saved-anywhere y ∙ rw none refl

  -- so many bytes are enough for every session
  pub room-enough : (out : Text) → length (front_text f) + (head_room + page_limit * line_room_by fa) ≤ length out
      → (save_by f degree_limit slip x out).0.refused ≡ 0
  unfolding save_by
  room-enough out h =
      let count = fa.law.waits-length slip.lines x lent s.fit in
      let few : length lines ≤ page_limit = omega (arith, count, s.fit, fa.law.short x lent) in
      let most = mul-le-mul few (le_refl (line_room_by fa)) in
      let page : List Check = page_checks_in f.mode degree_limit slip x in
      let last : List Check = no-17 (session_text_by f slip lines) out ∷ [] in
      let sound : first_of (no-7 (sound_in f.mode degree_limit slip x) ∷ []) ≡ 0 =
      rw (sound-is f.mode degree_limit slip x s) refl in
      let page-none : first_of page ≡ 0 =
      first_passes (f.mode.lent_checks x) (no-7 (sound_in f.mode degree_limit slip x) ∷ []) (fa.law.numbered x) lent
      ∙ sound in
      let none : first_of (page ++ last) ≡ 0 =
      first_passes page last (numbered-page fa.law degree_limit slip x) page-none
      ∙ rw (le-ltb (length out) (length (session_text_by f slip lines)) (omega (arith, session-short fa storable, most)))
      refl in
      rw none refl

-- ---- an accepted load
pub record Taken (f : Form) (text : Text) (x : f.mode.Lent) (slip : Slip) (after : f.mode.Lent) : Type 0 where
  pub lent : first_of (f.mode.lent_checks x) ≡ 0
  pub room : slip.lines ≤ length (f.mode.page x)
  pub fair : SoundIn f.mode degree_limit slip after
  pub same : session_text_by f slip (waiting_in f.mode slip after) ≡ text
  pub lines : after ≡ f.mode.put (waiting_in f.mode slip after) x
  pub long : length (f.mode.page after) ≡ length (f.mode.page x)
  pub passes : first_of (f.mode.lent_checks after) ≡ 0

module _ {f : Form} (fa : Faithful f) (text : Text) (x : f.mode.Lent) where
  abbrev Result : Type 0
  Result = Loaded × f.mode.Lent

  record Passed : Type 0 where
    lent : first_of (f.mode.lent_checks x) ≡ 0
    good : fault_by f degree_limit text ≡ 0
    room : length (lines_by f text) ≤ length (f.mode.page x)
    stands : f.mode.stands (lines_by f text) ≡ true
    fair : SoundLines degree_limit (slip_by f text) (lines_by f text)

  passed : first_of (load_checks_by f degree_limit text x) ≡ 0 → Passed
  passed none =
      let sound : Bool = sound_with f.mode degree_limit (slip_by f text) (lines_by f text) in
      let rest : List Check =
      no-16 (fault_by f degree_limit text) ∷ no-10 (lines_by f text) (f.mode.page x) ∷ no-7 sound ∷ [] in
      let (lent, others) = both-pass (f.mode.lent_checks x) rest (fa.law.numbered x) none in
      let a = none-applies rest refl others in
      let b = both (f.mode.stands (lines_by f text)) (sound_lines degree_limit (slip_by f text) (lines_by f text))
      (not-false sound a.1.1.0) in
      record {
        lent = lent;
        good = eqb-true (fault_by f degree_limit text) 0 (not-false _ a.0);
        room = ltb-false (length (f.mode.page x)) (length (lines_by f text)) a.1.0;
        stands = b.0;
        fair = are-sound degree_limit (slip_by f text) (lines_by f text) b.1;
      }

  module _ (p : Passed) where
    its-count : (slip_by f text).lines ≡ length (lines_by f text)
    unfolding slip_by lines_by
    its-count = sym (length-map (following_by f text) (line_by f))

    its-mode : (slip_by f text).mode ≡ f.mode.number
    unfolding slip_by
    its-mode = refl

    all-written : Each fa.law.Written (lines_by f text)
    unfolding lines_by
    all-written =
        each_map (WaitingBy f degree_limit) fa.law.Written (line_by f) (following_by f text)
        (λ t w. line-written degree_limit small fa w)
        (formed f degree_limit text p.good).lines

    abbrev after : f.mode.Lent
    after = f.mode.put (lines_by f text) x

    back : waiting_in f.mode (slip_by f text) after ≡ lines_by f text
    back = waiting-put fa.law (slip_by f text) (lines_by f text) x its-count all-written

    taken : Taken f text x (slip_by f text) after
    taken = record {
      lent = p.lent;
      room = rw its-count p.room;
      fair =
          sound-put fa.law (slip_by f text) (lines_by f text) x its-count all-written degree_limit its-mode p.room
          p.stands p.fair;
      same = rw back (sym (text-exact degree_limit small fa text (formed f degree_limit text p.good)));
      lines = ap (λ (ls : List Line). f.mode.put ls x) (sym back);
      long = fa.law.length-put (lines_by f text) x p.room;
      passes = fa.law.lent-put (lines_by f text) x p.lent p.room;
    }

  pub loaded-text : (load_by f degree_limit text x).0.refused ≡ 0
      → Taken f text x (load_by f degree_limit text x).0.slip (load_by f degree_limit text x).1
  unfolding load_by
  loaded-text e =
      let g = answer-given {A = Result} (λ r. r.0.refused)
      (λ k. (loaded k (cond (k =? 16) (fault_by f degree_limit text) 0) blank, x)) _ (λ k. refl) refl
      (first_of (load_checks_by f degree_limit text x)) _ refl e in
      rw g.0 (taken (passed g.0))

  pub refused-load : ((load_by f degree_limit text x).0.refused ≡ 0 → ⊥) → (load_by f degree_limit text x).1 ≡ x
  unfolding load_by
  refused-load refused = go (first_of (load_checks_by f degree_limit text x)) refused
    where
      Given : ℕ → Result
      Given k =
          refused_or k (λ k. (loaded k (cond (k =? 16) (fault_by f degree_limit text) 0) blank, x))
          (loaded 0 0 (slip_by f text), f.mode.put (lines_by f text) x)

      go : (k : ℕ) → ((Given k).0.refused ≡ 0 → ⊥) → (Given k).1 ≡ x
      go zero refused = absurd (refused refl)
      go (suc k) refused = refl

  -- what was loaded is saved as the very text
  pub load-then-save : (load_by f degree_limit text x).0.refused ≡ 0 → (out : Text) → length text ≤ length out
      → save_by f degree_limit (load_by f degree_limit text x).0.slip (load_by f degree_limit text x).1 out
      ≡ (count_answer 0 (length text), at_front text out)
  unfolding save_by
  load-then-save e out room =
      let t = loaded-text e in
      let y : f.mode.Lent = (load_by f degree_limit text x).1 in
      let slip : Slip = (load_by f degree_limit text x).0.slip in
      let page : List Check = page_checks_in f.mode degree_limit slip y in
      let last : List Check = no-17 (session_text_by f slip (waiting_in f.mode slip y)) out ∷ [] in
      let sound : first_of (no-7 (sound_in f.mode degree_limit slip y) ∷ []) ≡ 0 =
      rw (sound-is f.mode degree_limit slip y t.fair) refl in
      let page-none : first_of page ≡ 0 =
      first_passes (f.mode.lent_checks y) (no-7 (sound_in f.mode degree_limit slip y) ∷ []) (fa.law.numbered y)
      t.passes
      ∙ sound in
      let none : first_of (page ++ last) ≡ 0 =
      first_passes page last (numbered-page fa.law degree_limit slip y) page-none
      ∙ rw (t.same, le-ltb (length out) (length text) room) refl in
      rw (none, t.same) refl
