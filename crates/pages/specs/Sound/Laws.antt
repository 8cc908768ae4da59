-- What a sound line, sound lines and a sound slip and page are, clause by clause: the tests of Sound as records, there
-- and back.
--   SoundLine n l                 sound_line n l, as a record; SoundLines and SoundIn, of lines and of what is lent
--   asked slip                    the degree of the shape that the slip asks for: the n of document 01
--   values lines, spans lines     what the lines count in all
use Rattle.std.specs.Prelude.{◌≡◌, refl, ◌≤◌, ◌∷◌, ◌+◌}
use Rattle.std.proofs.Common.{le_trans}
use Rattle.std.specs.Int.Signed.{non_neg}
use borrow.Author.Tests.{leb-true, eqb-true, le-leb, eq-eqb, ltb-false, not-false}
use Rattle.theory.specs.Basics.{true, List, [], map, length, drop, ℕ, nat_abs, ◌=?◌, ◌≤?◌, every, total}
use Rattle.theory.specs.Basics.{Each}
use Rattle.theory.proofs.Basics.Laws.{both, each_same}
use Rattle.theory.proofs.Basics.Keep.{every-each, each-every}
use Rattle.theory.specs.Limits.{page_limit}
use Rattle.theory.specs.Partition.{degree}
use Rattle.theory.specs.ShapeWord.{good_shape, shape_of}
use Rattle.theory.proofs.ShapeWord.Good.{shape-good}
use Rattle.theory.specs.ClassWord.{good_class, class_of}
use Rattle.theory.specs.Bounds.{factorial, S}
use Rattle.theory.specs.Refusals.{Check, first_of, pair_checks, no-7}
use Rattle.theory.specs.Refusals.Laws.{Numbered, Matched}
use Rattle.theory.proofs.Refusals.Laws.{none-applies, both-pass, good-matched, pair-passes}
use Rattle.pages.specs.Line.{Line, line_degree}
use Rattle.pages.specs.Page.{Slip}
use Rattle.pages.specs.Mode.{Mode, waiting_in, plain_mode}
use Rattle.pages.specs.Sound.{sound_line, sound_words, line_value, line_span, sound_lines, sound_with, sound_in}
use Rattle.pages.specs.Sound.{page_checks_in, sound, page_checks}

-- ---- a line
pub record SoundLine (n : ℕ) (l : Line) : Type 0 where
  pub shape : good_shape l.shape ≡ true
  pub class : good_class l.class ≡ true
  pub degrees : line_degree l ≡ degree (class_of l.class)
  pub some : 1 ≤ line_degree l
  pub within : line_degree l ≤ n

pub sound-line : (n : ℕ) (l : Line) → sound_line n l ≡ true → SoundLine n l
unfolding sound_line
sound-line n l t =
    let e = both _ (line_degree l ≤? n) t in
    let d = both _ (1 ≤? line_degree l) e.0 in
    let c = both _ (line_degree l =? degree (class_of l.class)) d.0 in
    let b = both (good_shape l.shape) (good_class l.class) c.0 in
    record {
      shape = b.0;
      class = b.1;
      degrees = eqb-true (line_degree l) (degree (class_of l.class)) c.1;
      some = leb-true 1 (line_degree l) d.1;
      within = leb-true (line_degree l) n e.1;
    }

pub line-sound : {n : ℕ} {l : Line} → SoundLine n l → sound_line n l ≡ true
unfolding sound_line
line-sound {n} {l} s = rw (
  s.shape,
  s.class,
  eq-eqb (line_degree l) (degree (class_of l.class)) s.degrees,
  le-leb 1 (line_degree l) s.some,
  le-leb (line_degree l) n s.within,
)

pub line-wider : {m n : ℕ} {l : Line} → m ≤ n → SoundLine m l → SoundLine n l
line-wider w s = record {
  shape = s.shape;
  class = s.class;
  degrees = s.degrees;
  some = s.some;
  within = le_trans s.within w;
}

-- ---- slip and lines
abbrev pub asked : Slip → ℕ
asked slip = degree (shape_of slip.shape)

abbrev pub values : List Line → ℕ
values lines = total (map line_value lines)

abbrev pub spans : List Line → ℕ
spans lines = total (map line_span lines)

pub record SoundLines (limit : ℕ) (slip : Slip) (lines : List Line) : Type 0 where
  pub words : Matched limit slip.shape slip.class
  pub each : Each (SoundLine (asked slip)) lines
  pub value : nat_abs slip.settled + values lines ≤ factorial (asked slip)
  pub forward : non_neg slip.steps ≡ true
  pub span : nat_abs slip.steps + spans lines ≤ S (asked slip)

module _ (limit : ℕ) (slip : Slip) where
  pub words-matched : sound_words limit slip ≡ true → Matched limit slip.shape slip.class
  words-matched t =
      let first : ℕ = first_of (pair_checks limit slip.shape slip.class) in
      let b = both (good_shape slip.shape) (first =? 0) t in
      good-matched b.0 (eqb-true first 0 b.1)

  pub matched-words : Matched limit slip.shape slip.class → sound_words limit slip ≡ true
  matched-words m = rw (shape-good m.shape.good, pair-passes m)

module _ (limit : ℕ) (slip : Slip) (lines : List Line) where
  pub are-sound : sound_lines limit slip lines ≡ true → SoundLines limit slip lines
  unfolding sound_lines
  are-sound t =
      let n : ℕ = asked slip in
      let e = both _ (nat_abs slip.steps + spans lines ≤? S n) t in
      let d = both _ (non_neg slip.steps) e.0 in
      let c = both _ (nat_abs slip.settled + values lines ≤? factorial n) d.0 in
      let b = both (sound_words limit slip) (every (sound_line n) lines) c.0 in
      record {
        words = words-matched limit slip b.0;
        each = each_same _ (SoundLine n) lines (sound-line n) (every-each (sound_line n) lines b.1);
        value = leb-true _ (factorial n) c.1;
        forward = d.1;
        span = leb-true _ (S n) e.1;
      }

  pub sound-are : SoundLines limit slip lines → sound_lines limit slip lines ≡ true
  unfolding sound_lines
  sound-are s =
      let n : ℕ = asked slip in
      rw (
        matched-words limit slip s.words,
        each-every (sound_line n) lines (each_same (SoundLine n) _ lines (λ l. line-sound) s.each),
        le-leb _ (factorial n) s.value,
        s.forward,
        le-leb _ (S n) s.span,
      )

-- ---- slip and page
-- words that are 0
pub all-zero : (xs : List ℕ) → every (◌=? 0) xs ≡ true → Each (λ x. x ≡ 0) xs
all-zero xs t = each_same _ (λ x. x ≡ 0) xs (λ x. eqb-true x 0) (every-each (◌=? 0) xs t)

pub zero-all : (xs : List ℕ) → Each (λ x. x ≡ 0) xs → every (◌=? 0) xs ≡ true
zero-all xs e = each-every (◌=? 0) xs (each_same (λ x. x ≡ 0) _ xs (λ x. eq-eqb x 0) e)

-- what is lent in a mode
pub record SoundIn (m : Mode) (limit : ℕ) (slip : Slip) (x : m.Lent) : Type 0 where
  pub mode : slip.mode ≡ m.number
  pub fit : slip.lines ≤ length (m.page x)
  pub idle : m.idle slip.lines x ≡ true
  pub stands : m.stands (waiting_in m slip x) ≡ true
  pub lines : SoundLines limit slip (waiting_in m slip x)

module _ (m : Mode) (limit : ℕ) (slip : Slip) (x : m.Lent) where
  pub is-sound : sound_in m limit slip x ≡ true → SoundIn m limit slip x
  unfolding sound_in
  is-sound t =
      let waiting : List Line = waiting_in m slip x in
      let d = both _ (sound_with m limit slip waiting) t in
      let c = both (m.stands waiting) (sound_lines limit slip waiting) d.1 in
      let b = both _ (m.idle slip.lines x) d.0 in
      let a = both (slip.mode =? m.number) (slip.lines ≤? length (m.page x)) b.0 in
      record {
        mode = eqb-true slip.mode m.number a.0;
        fit = leb-true slip.lines (length (m.page x)) a.1;
        idle = b.1;
        stands = c.0;
        lines = are-sound limit slip waiting c.1;
      }

  pub sound-is : SoundIn m limit slip x → sound_in m limit slip x ≡ true
  unfolding sound_in
  sound-is s = rw (
    eq-eqb slip.mode m.number s.mode,
    le-leb slip.lines (length (m.page x)) s.fit,
    s.idle,
    s.stands,
    sound-are limit slip (waiting_in m slip x) s.lines,
  )

  -- what it tells that neither a check of what is lent nor 7 refuses
  pub lent-passed : Numbered (m.lent_checks x) → first_of (page_checks_in m limit slip x) ≡ 0
      → (first_of (m.lent_checks x) ≡ 0) × SoundIn m limit slip x
  lent-passed numbers none =
      let last : List Check = no-7 (sound_in m limit slip x) ∷ [] in
      let (lent, passes) = both-pass (m.lent_checks x) last numbers none in
      (lent, is-sound (not-false (sound_in m limit slip x) (none-applies last refl passes).0))

-- ---- in the plain mode
abbrev pub Sound : ℕ → Slip → List ℕ → Type 0
Sound limit slip page = SoundIn plain_mode limit slip page

module _ (limit : ℕ) (slip : Slip) (page : List ℕ) where
  pub sound-zeros : Sound limit slip page → Each (λ x. x ≡ 0) (drop slip.lines page)
  sound-zeros s = all-zero (drop slip.lines page) s.idle

  -- what it tells that 6 and 7 do not refuse
  pub page-passed : first_of (page_checks limit slip page) ≡ 0 → (length page ≤ page_limit) × Sound limit slip page
  page-passed none =
      let (short, (passes, _)) = none-applies (page_checks limit slip page) refl none in (
        ltb-false page_limit (length page) short,
        is-sound plain_mode limit slip page (not-false (sound limit slip page) passes),
      )
