-- What the private readers of a line of text are asked, and what they answer.
--   Named name             a name of 8 bytes at most, without digits
--   Tells test value r     r is the value where the test holds, and None where it does not
--   ReadNumber name t r    so of t as a line of this name and a number of 64 bits; ReadSteps and ReadSettled, of those
--                          lines; ReadSigned m n r, of n with this sign, where 64 bits hold it; ReadInteger t r, of what
--                          is read off t; ReadShape and ReadClass, of those lines
--   ReadLine t r           so of what stands in t of a waiting line; ReadWaiting t r, of t as a waiting line
--   ReadNext text r        so of the text's first line; with its word, what is behind it
--   ReadLines ts b r       whether the budget b suffices for the lines ts, or the first of them at fault
--   HeadOf text h          the first six lines are of their form, and h is what they tell; ReadHead text r, r is that, or
--                          the first of them at fault
use Rattle.std.specs.Prelude.{◌≡◌, ◌≤◌, ◌&&◌, ◌^◌, ◌≢◌, Option, MatchOption, Result, MatchResult}
use denote.Ref.{Bor}
use Rattle.theory.specs.Basics.{Bool, true, false, not, cond, List, map, ℕ, ℤ, length, drop}
use Rattle.theory.specs.Basics.{pos, neg_ℤ, every}
use Rattle.theory.specs.Partition.{degree}
use Rattle.theory.specs.ShapeWord.{shape_word}
use Rattle.theory.specs.ClassWord.{class_word}
use Rattle.theory.specs.Limits.{degree_limit}
use Rattle.theory.specs.Refusals.{first_of}
use Rattle.text.specs.Text.{Text, ascii}
use Rattle.textreading.specs.Reading.{is_digit, number_in, integer_in, list_in, lines_of, first_line}
use Rattle.sessiontext.specs.declared.partitions.ShapeAsked.{ShapeAsked}
use Rattle.sessiontext.specs.declared.reading.FirstLines.{FirstLines}
use Rattle.pages.specs.Page.{word_of}
use Rattle.pages.specs.Budget.{spent_all, Budget}
use Rattle.sessiontext.specs.SessionText.{held}
use Rattle.sessiontext.specs.Reading.{in_limit, is_number, is_integer, is_list, shape_in, class_in}
use Rattle.sessiontext.specs.Reading.{is_waiting, line_in, line_faults}
use Rattle.sessiontext.specs.Reading.{following, head_faults, slip_in}

pub record Named (name : Text) : Type 0 where
  pub short : length name ≤ 8
  pub silent : every (λ b. not (is_digit b)) name ≡ true

abbrev pub Tells : {A : Type 0} → Bool → A → Option A → Type 0
Tells test value r = MatchOption r (test ≡ false) (λ v. (test ≡ true) × (v ≡ value))

-- ---- numbers
abbrev pub ReadNumber : Text → Text → Option ℕ → Type 0
ReadNumber name t r = Tells (is_number name (2 ^ 64) t) (number_in t) r

abbrev pub ReadSteps : Text → Option ℤ → Type 0
ReadSteps t r = Tells (is_number (ascii "steps=") (2 ^ 63) t) (pos (number_in t)) r

abbrev pub ReadSigned : Bool → ℕ → Option ℤ → Type 0
ReadSigned minus size r =
    Tells (held (cond minus (neg_ℤ (pos size)) (pos size))) (cond minus (neg_ℤ (pos size)) (pos size)) r

abbrev pub ReadInteger : Text → Option ℤ → Type 0
ReadInteger t r = Tells (held (integer_in t)) (integer_in t) r

abbrev pub ReadSettled : Text → Option ℤ → Type 0
ReadSettled t r = Tells (is_integer (ascii "settled=") t) (integer_in t) r

-- ---- lists
abbrev pub ReadShape : Text → Option ShapeAsked → Type 0
ReadShape t r =
    MatchOption r (is_list degree_limit (ascii "shape=") t ≡ false) (λ s.
    (is_list degree_limit (ascii "shape=") t ≡ true) × (s.word ≡ shape_word (list_in t))
    × (s.degree ≡ degree (list_in t)))

abbrev pub ReadClass : Text → Option ℕ → Type 0
ReadClass t r = Tells (is_list degree_limit (ascii "class=") t) (class_word (list_in t)) r

-- ---- waiting lines
abbrev pub ReadLine : Text → Option ℕ → Type 0
ReadLine t r =
    Tells (in_limit degree_limit (shape_in t) && in_limit degree_limit (class_in t)) (word_of (line_in t)) r

abbrev pub ReadWaiting : Text → Option ℕ → Type 0
ReadWaiting t r = Tells (is_waiting degree_limit t) (word_of (line_in t)) r

abbrev pub ReadNext : Text → Option (ℕ × Bor Text) → Type 0
ReadNext text r =
    MatchOption r (is_waiting degree_limit (first_line text) ≡ false) (λ l.
    (is_waiting degree_limit (first_line text) ≡ true) × (l.0 ≡ word_of (line_in (first_line text)))
    × (l.1.now ≡ drop (length (first_line text)) text))

abbrev pub ReadLines : List Text → Budget → Result Bool ℕ → Type 0
ReadLines ts budget r =
    MatchResult r
    (λ enough.
    (first_of (line_faults degree_limit 7 ts) ≡ 0) × (enough ≡ (spent_all degree_limit budget (map line_in ts)).enough))
    (λ line. (line ≡ first_of (line_faults degree_limit 7 ts)) × (line ≢ 0))

-- ---- the first six lines
pub record HeadOf (text : Text) (h : FirstLines) : Type 0 where
  pub passes : first_of (head_faults degree_limit text) ≡ 0
  pub slip : h.slip ≡ slip_in text
  pub far : 6 ≤ h.end
  pub fits : h.end ≤ length text
  pub rest : lines_of (drop h.end text) ≡ following text

abbrev pub ReadHead : Text → Result FirstLines ℕ → Type 0
ReadHead text r =
    MatchResult r (HeadOf text) (λ line. (line ≡ first_of (head_faults degree_limit text)) × (line ≢ 0))
