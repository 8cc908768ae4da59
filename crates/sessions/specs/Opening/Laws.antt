-- An accepted opening of a shape word on a class word is sound, and worth the character that it asks for; two words of
-- one shape are opened alike (document 02, P6).
--   Opens m limit s c x          what it tells that no check refuses an opening
--   behind                       the checks behind those of the words
--   First law s c settled lines  what is true of what an opening settles and of the lines that it writes
--   Opened law limit s c x t y   what is true of the slip t of an accepted opening, and of what it leaves, y
use Rattle.std.specs.Prelude.{◌≡◌, ◌≤◌, ◌∷◌, ◌++◌, ◌+◌, ◌+ℤ◌}
use Rattle.std.proofs.Math.Path.{refl, sym, ap}
use Rattle.std.proofs.Common.{◌∙◌, arith, ltb-false, eq-eqb, ne_eqb}
use Rattle.std.proofs.Math.Nat.{le_refl}
use Rattle.std.proofs.Math.Decide.{ℕ_discrete}
use Rattle.std.proofs.Math.IntN.{+ℤ_idl, +ℤ_idr, *ℤ_comm}
use Rattle.theory.specs.Basics.{true, List, [], length, ℕ, ℤ, pos, nat_abs, sum, Each}
use Rattle.theory.proofs.Basics.Integers.Products.{times-one}
use Rattle.theory.specs.Partition.{Parts, degree}
use Rattle.theory.specs.Digits.{digits, width}
use Rattle.theory.specs.ShapeWord.{shape_of, good_word}
use Rattle.theory.specs.ShapeWord.InFront.{SameShape}
use Rattle.theory.proofs.ShapeWord.InFront.{dropped-shape, one-good-word}
use Rattle.theory.proofs.ShapeWord.Good.{shape-good}
use Rattle.theory.proofs.ShapeWord.Laws.{rows-partition}
use Rattle.theory.specs.ClassWord.{class_of}
use Rattle.theory.proofs.ClassWord.Laws.{class-good}
use Rattle.theory.specs.Character.{◌on◌}
use Rattle.theory.proofs.Character.Order.{empty-on-empty}
use Rattle.theory.specs.Bounds.{factorial, S}
use Rattle.theory.specs.Refusals.{Check, first_of, pair_checks, no-10}
use Rattle.theory.specs.Refusals.Laws.{Matched}
use Rattle.theory.proofs.Refusals.Laws.{or-refused, answer-number, none-applies, both-pass, matched}
use Rattle.theory.proofs.Refusals.Laws.{first-refuses, first_passes}
use Rattle.words.specs.Answers.{Outcome}
use Rattle.pages.specs.Line.{Line, signed_character}
use Rattle.pages.specs.declared.Slip.{Slip}
use Rattle.pages.specs.Page.{slip_of, blank, worth}
use Rattle.pages.specs.Mode.{Mode, waiting_in}
use Rattle.pages.specs.Sound.Laws.{SoundLine, values, spans, SoundIn}
use Rattle.pages.specs.Lawful.{Lawful}
use Rattle.pages.specs.Lawful.Put.{waiting-put, sound-put}
use Rattle.sessions.specs.Opening.{handed, first_lines, first_settled, opening_checks_in, opening_in, Handed}

pub record Opens (m : Mode) (limit s c : ℕ) (x : m.Lent) : Type 0 where
  pub words : first_of (pair_checks limit s c) ≡ 0
  pub lent : first_of (m.lent_checks x) ≡ 0
  pub room : length (first_lines (good_word s) c) ≤ length (m.page x)

pub opens : {m : Mode} (law : Lawful m) (limit s c : ℕ) (x : m.Lent) → first_of (opening_checks_in m limit s c x) ≡ 0
    → Opens m limit s c x
opens {m} law limit s c x e =
    let last : List Check = no-10 (first_lines (good_word s) c) (m.page x) ∷ [] in
    let (words, none) = both-pass (pair_checks limit s c) (m.lent_checks x ++ last) refl e in
    let (lent, roomy) = both-pass (m.lent_checks x) last (law.numbered x) none in
    record {
      words = words;
      lent = lent;
      room = ltb-false (length (m.page x)) (length (first_lines (good_word s) c)) (none-applies last refl roomy).0;
    }

-- ---- an opening that is refused: by any check, and by the words alone, whatever is lent
module _ (m : Mode) (limit s c : ℕ) (x : m.Lent) where
  abbrev behind : List Check
  behind = m.lent_checks x ++ no-10 (first_lines (good_word s) c) (m.page x) ∷ []

  pub opening-refused : (k : ℕ) → first_of (pair_checks limit s c ++ behind) ≡ k → (k ≡ 0 → ⊥)
      → Outcome (opening_in m limit s c x) (handed k blank) x
  unfolding opening_in
  opening-refused k e some =
      rw (e, or-refused {A = Handed × m.Lent} (λ k. (handed k blank, x)) _ k some)
      (record { answers = refl; leaves = refl })

  pub words-refuse : (k : ℕ) → k ≡ first_of (pair_checks limit s c) → (k ≡ 0 → ⊥)
      → Outcome (opening_in m limit s c x) (handed k blank) x
  words-refuse k e some =
      opening-refused k (first-refuses (pair_checks limit s c) behind (λ z. some (e ∙ z)) ∙ sym e) some

  pub words-pass : first_of (pair_checks limit s c) ≡ 0 → first_of (pair_checks limit s c ++ behind) ≡ first_of behind
  words-pass none = first_passes (pair_checks limit s c) behind refl none

-- ---- the first lines
record First {m : Mode} (law : Lawful m) (s c : ℕ) (settled : ℤ) (lines : List Line) : Type 0 where
  each : Each (SoundLine (degree (shape_of s))) lines
  written : Each law.Written lines
  stands : m.stands lines ≡ true
  value : nat_abs settled + values lines ≤ factorial (degree (shape_of s))
  span : spans lines ≤ S (degree (shape_of s))
  asks : settled +ℤ sum signed_character lines ≡ shape_of s on class_of c

module _ {m : Mode} (law : Lawful m) (limit s c : ℕ) (w : Matched limit s c) where
  first-none : degree (shape_of s) ≡ 0 → First law s c (pos 1) []
  unfolding factorial
  first-none d = record {
    each = tt;
    written = tt;
    stands = law.stands-none;
    value = rw d (le_refl 1);
    span = omega arith;
    asks = sym
        (empty-on-empty (shape_of s) (class_of c) (rows-partition (digits width s)) w.class.good.partition d
        (sym w.degrees ∙ d));
  }

  first_one : (degree (shape_of s) ≡ 0 → ⊥)
      → First law s c (pos 0) (record { weight = pos 1; shape = s; class = c } ∷ [])
  unfolding signed_character
  first_one n = record {
    each = (
      record {
        shape = shape-good w.shape.good;
        class = class-good w.class.good;
        degrees = w.degrees;
        some = omega arith;
        within = le_refl _;
      },
      tt,
    );
    written = (
      law.written-unit _ refl (omega (arith, w.shape.good.below)) (omega (arith, w.class.good.below)),
      tt,
    );
    stands = law.stands_one _ refl;
    value = omega arith;
    span = omega arith;
    asks = +ℤ_idl _ ∙ +ℤ_idr _ ∙ *ℤ_comm (pos 1) (shape_of s on class_of c) ∙ times-one (shape_of s on class_of c);
  }

  first : First law s c (first_settled s) (first_lines s c)
  first = elim (ℕ_discrete (degree (shape_of s)) 0) [
    | yes e ↦ rw (eq-eqb (degree (shape_of s)) 0 e) (first-none e)
    | no f ↦ rw (ne_eqb (degree (shape_of s)) 0 f) (first_one f)
  ]

-- ---- the answer
module _ {m : Mode} (law : Lawful m) (limit s c : ℕ) (x : m.Lent) where
  abbrev good : ℕ
  good = good_word s

  abbrev lines : List Line
  lines = first_lines good c

  abbrev slip : Slip
  slip = slip_of good c (first_settled good) (length lines) (pos 0) m.number

  -- the number beside a slip is the one that it was refused with
  pub opening-number : (opening_in m limit s c x).0.refused ≡ first_of (opening_checks_in m limit s c x)
  unfolding opening_in
  opening-number =
      answer-number {A = Handed × m.Lent} (λ o. o.0.refused) (λ k. (handed k blank, x))
      (handed 0 slip, m.put lines x) (λ k. refl) refl (first_of (opening_checks_in m limit s c x)) _ refl

  pub refused-opening : ((opening_in m limit s c x).0.refused ≡ 0 → ⊥) → (opening_in m limit s c x).1 ≡ x
  unfolding opening_in
  refused-opening refused =
      ap (λ (o : Handed × m.Lent). o.1)
      (or-refused (λ k. (handed k blank, x)) _ (first_of (opening_checks_in m limit s c x))
      (λ e. refused (opening-number ∙ e)))

  pub record Opened (slip : Slip) (left : m.Lent) : Type 0 where
    pub soundness : SoundIn m limit slip left
    pub was-lent : first_of (m.lent_checks x) ≡ 0
    pub lent : first_of (m.lent_checks left) ≡ 0
    pub asks : worth slip (waiting_in m slip left) ≡ shape_of s on class_of c
    pub unstepped : slip.steps ≡ pos 0
    pub its_shape : slip.shape ≡ good_word s
    pub its-class : slip.class ≡ c
    pub laid : left ≡ m.put (waiting_in m slip left) x
    pub same_length : length (m.page left) ≡ length (m.page x)

  pub opening-opened : (opening_in m limit s c x).0.refused ≡ 0
      → Opened (opening_in m limit s c x).0.slip (opening_in m limit s c x).1
  unfolding opening_in worth
  opening-opened e =
      let z : first_of (opening_checks_in m limit s c x) ≡ 0 = sym opening-number ∙ e in
      let o = opens law limit s c x z in
      let w = matched limit s c o.words in
      let f = first law limit good c w in
      let waits = waiting-put law slip lines x refl f.written in
      rw z
      (record {
        soundness = sound-put law slip lines x refl f.written limit refl o.room f.stands
            (record {
              words = w;
              each = f.each;
              value = f.value;
              forward = refl;
              span = omega (arith, f.span);
            });
        was-lent = o.lent;
        lent = law.lent-put lines x o.lent o.room;
        asks = ap (λ ls. first_settled good +ℤ sum signed_character ls) waits
            ∙ f.asks ∙ ap (λ (rs : Parts). rs on class_of c) (dropped-shape s);
        unstepped = refl;
        its_shape = refl;
        its-class = refl;
        laid = ap (λ ls. m.put ls x) (sym waits);
        same_length = law.length-put lines x o.room;
      })

pub opening-alike : (m : Mode) (limit : ℕ) {v w : ℕ} → SameShape v w → (c : ℕ) (x : m.Lent)
    → opening_in m limit v c x ≡ opening_in m limit w c x
unfolding opening_in
opening-alike m limit {v} {w} s c x = rw (s.first-clear, s.second-clear, s.shapes, one-good-word v w s.shapes)
