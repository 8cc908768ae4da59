-- Loops over the waiting lines of a text: what is left of the text has the lines that are left.
--   Ends text end      the first line of the text ends there
--   Behind text rest   the rest of a text behind its first line has the other lines
--   Judged ..          the lines in front of the rest are of their form, and what they leave of the budget
--   Put ..             the lines in front of the rest are on the page
use Rattle.std.specs.Prelude.{◌∷◌, ◌+◌, ◌-◌, ◌≢◌}
use mathlib.Core.Path.{◌≡◌, refl, sym, ◌∙◌, ap}
use Prim.Native.Nat.{◌≤◌, ◌<◌}
use native.Mathlib.Numerals.{add-one}
use native.Mathlib.Omega.{arith}
use lib.ListN.{set, length-set, length-drop}
use lib.Seq.{sets, take_all}
use Rattle.theory.specs.Basics.{true, false, List, [], map, ℕ, length, take, drop, Each}
use Rattle.theory.specs.Digits.{width}
use Rattle.theory.specs.Limits.{degree_limit}
use Rattle.theory.specs.Refusals.{first_of}
use Rattle.text.specs.Text.{Text}
use Rattle.textreading.specs.Reading.{lines_of, first_line}
use Rattle.textreading.proofs.Reading.Lines.{next}
use Rattle.pages.specs.Page.{line_of, word_of}
use Rattle.pages.specs.Page.Words.{line_read}
use Rattle.pages.specs.Budget.{spent_all, Budget}
use Rattle.sessiontext.specs.Reading.{is_waiting, line_in, line_faults}
use Rattle.sessiontext.specs.Reading.Forms.{Waiting, is-waiting, waiting-is}
use Rattle.sessiontext.specs.Reading.Exact.{line-written}
use Rattle.sessiontext.specs.SessionText.{plain_form}
use Rattle.sessiontext.specs.SessionText.Faithful.Plain.{plain-faithful}
use Rattle.pages.specs.Lawful.Plain.{plain-lawful}

small : degree_limit < width
small = omega arith

-- ---- one line
pub record Ends (text : Text) (end : ℕ) : Type 0 where
  pub fits : end ≤ length text
  pub line : take end text ≡ first_line text
  pub behind : take (length text - end) (drop end text) ≡ drop (length (first_line text)) text

pub line-ends : (text : Text) {end : ℕ} → end ≡ 0 + length (first_line (drop 0 text)) → Ends text end
line-ends text {end} e =
    let n = next text 0 end e in
    let whole : end - 0 ≡ end = omega arith in
    let long : end ≡ length (first_line text) = omega arith in
    record {
      fits = n.fits (omega arith);
      line = rw whole at n.line;
      behind =
          take_all (length text - end) (drop end text) (omega (arith, length-drop end text))
          ∙ ap (λ (k : ℕ). drop k text) long;
    }

pub record Behind (text rest : Text) : Type 0 where
  pub split : lines_of text ≡ first_line text ∷ lines_of rest
  pub shorter : length rest < length text

pub behind-line : {text rest : Text} → rest ≡ drop (length (first_line text)) text → 0 < length text → Behind text rest
behind-line {text} {rest} e h =
    let end = length (first_line text) in
    let n = next text 0 end (omega arith) in
    record {
      split = rw e (n.split h);
      shorter = rw e (omega (arith, n.later h, length-drop end text));
    }

pub no-lines : (text : Text) → length text ≡ 0 → lines_of text ≡ []
unfolding lines_of
no-lines [] e = refl
no-lines (b ∷ t) e = absurd (omega arith)

-- ---- judging
module _ (text : Text) (budget : Budget) where
  pub record Judged (rest : Text) (number : ℕ) (left : Budget) : Type 0 where
    pub some : 7 ≤ number
    pub far : number + length rest ≤ 7 + length text
    pub faults :
        first_of (line_faults degree_limit 7 (lines_of text)) ≡ first_of (line_faults degree_limit number (lines_of rest))
    pub spent :
        spent_all degree_limit left (map line_in (lines_of rest)) ≡ spent_all degree_limit budget (map line_in (lines_of text))

  module _ {rest : Text} {number : ℕ} {left : Budget} (j : Judged rest number left) where
    pub judged-all : length rest ≡ 0
        → (first_of (line_faults degree_limit 7 (lines_of text)) ≡ 0)
        × (left.enough ≡ (spent_all degree_limit budget (map line_in (lines_of text))).enough)
    unfolding spent_all
    judged-all h =
        let none = no-lines rest h in
        (j.faults ∙ rw none refl, ap (λ (b : Budget). b.enough) (rw none at j.spent))

    module _ (h : 0 < length rest) where
      pub judged-fault : is_waiting degree_limit (first_line rest) ≡ false
          → (number ≡ first_of (line_faults degree_limit 7 (lines_of text))) × (number ≢ 0)
      judged-fault f =
          let b = behind-line refl h in
          (sym (j.faults ∙ rw (b.split, f) refl), λ z. omega (arith, j.some))

      module _ {word : ℕ} (f : is_waiting degree_limit (first_line rest) ≡ true)
          (w : word ≡ word_of (line_in (first_line rest))) where
        its-line : line_of word ≡ line_in (first_line rest)
        unfolding plain-faithful plain-lawful
        its-line =
            let whole = is-waiting plain_form degree_limit (first_line rest) f in
            ap line_of w
            ∙ line_read (line_in (first_line rest)) (line-written degree_limit small plain-faithful whole)

        pub judged-next : {behind : Text} {after : Budget} → behind ≡ drop (length (first_line rest)) rest
            → after ≡ spent_all degree_limit left (map line_of (word ∷ [])) → Judged behind (number + 1) after
        unfolding spent_all
        judged-next {behind} {after} e s =
            let b = behind-line e h in
            record {
              some = omega (arith, j.some);
              far = omega (arith, b.shorter, j.far);
              faults = j.faults ∙ rw (b.split, f, add-one) refl;
              spent = rw (s, its-line) (rw b.split at j.spent);
            }

-- ---- putting on a page
module _ (text : Text) (page : List ℕ) where
  pub record Put (rest : Text) (count : ℕ) (after : List ℕ) : Type 0 where
    pub formed : Each (Waiting degree_limit) (lines_of rest)
    pub room : count + length (lines_of rest) ≤ length page
    pub words : sets after count (map word_of (map line_in (lines_of rest)))
        ≡ sets page 0 (map word_of (map line_in (lines_of text)))
    pub same : length after ≡ length page

  module _ {rest : Text} {count : ℕ} {after : List ℕ} (p : Put rest count after) where
    pub put_all : length rest ≡ 0 → after ≡ sets page 0 (map word_of (map line_in (lines_of text)))
    put_all h = rw (no-lines rest h) at p.words

    module _ (h : 0 < length rest) where
      pub put-formed : is_waiting degree_limit (first_line rest) ≡ true
      put-formed =
          let b = behind-line refl h in
          let formed = rw b.split at p.formed in
          waiting-is plain_form degree_limit _ formed.0

      pub put-room : count < length after
      put-room = let b = behind-line refl h in omega (arith, ap length b.split, p.room, p.same)

      pub put_next : {word : ℕ} {behind : Text} → word ≡ word_of (line_in (first_line rest))
          → behind ≡ drop (length (first_line rest)) rest → Put behind (count + 1) (set after count word)
      put_next {word} w e =
          let b = behind-line e h in
          let formed = rw b.split at p.formed in
          record {
            formed = formed.1;
            room = omega (arith, ap length b.split, p.room);
            words = rw (w, add-one) (rw b.split at p.words);
            same = length-set after count word ∙ p.same;
          }
