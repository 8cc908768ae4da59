-- Waiting lines with coefficients that are read off a text: one line, told by comparing, and loops over them.
--   Faultless ..   the lines in front of `at` are of their form
--   Down ..        the lines in front of `at` are put down
use Rattle.std.specs.Prelude.{Option, None, Some, is_some, not, ◌≢◌, ◌&&◌, ◌∷◌, ◌+◌, ◌-◌, ◌*◌, ◌/◌, ◌%◌, ◌^◌}
use mathlib.Core.Path.{◌≡◌, refl, sym, ◌∙◌, ap, ap₂, subst}
use mathlib.Core.Bool.{false≢true}
use Prim.Native.Nat.{◌≤◌, ◌<◌}
use native.Mathlib.Numerals.{add-one}
use native.Mathlib.Omega.{arith}
use lib.ListN.{set, length-set}
use lib.Seq.{sets}
use Rattle.theory.specs.Basics.{Bool, true, false, List, ℕ, suc, ℤ, length}
use Rattle.theory.specs.Basics.{take, drop, Each}
use Rattle.theory.proofs.Basics.Keep.{same_test}
use Rattle.theory.proofs.Basics.Laws.{both}
use Rattle.theory.specs.Digits.{width}
use Rattle.theory.specs.ShapeWord.{shape_word}
use Rattle.theory.specs.ClassWord.{class_word}
use Rattle.theory.specs.Limits.{degree_limit}
use Rattle.theory.specs.Refusals.{first_of}
use Rattle.text.specs.Text.{Text}
use Rattle.textreading.specs.Reading.{before, lines_of, first_line}
use Rattle.textreading.specs.Reading.Bytes.{before-take, before-fits}
use Rattle.pages.specs.Line.{Line}
use Rattle.pages.specs.Page.{word_of, plain}
use Rattle.pages.specs.Mode.{weighted, unit, words_of, weights_of}
use Rattle.sessiontext.specs.SessionText.{held, gathered_form, line_text_by}
use Rattle.sessiontext.specs.SessionText.Faithful.Gathered.{gathered-faithful}
use Rattle.sessiontext.specs.SessionText.Storable.{StorableLineBy}
use Rattle.sessiontext.specs.SessionText.Room.{weighted_room, line-short}
use Rattle.sessiontext.specs.Reading.{minus_in, shape_in, class_in, weight_by, is_waiting_by, line_in}
use Rattle.sessiontext.specs.Reading.{line_by, line_faults_by}
use Rattle.sessiontext.specs.Reading.Forms.{WaitingBy, InLimit, limit-in, is-waiting}
use Rattle.sessiontext.specs.Reading.Exact.{shape-within, class-within, told-storable}
use Rattle.sessiontext.specs.Private.Weighted.{ToldWeighted, ReadWeighted, read_as, PutDown}
use Rattle.sessiontext.specs.declared.coefficients.Weighted.{Weighted}
use Rattle.std.specs.Bool.{then_some}
use mir.Facts.{to_z-of_z}
use mir.Syntax.{w64}
use mir.Val.{to_z, of_z}
use Rattle.text.specs.Wrote.{Wrote}
use Rattle.sessiontext.proofs.Words.{held_fits}
use Rattle.sessiontext.proofs.Own.{Own, own}
use Rattle.sessiontext.proofs.AllLines.{line-ends, behind-line, no-lines}
use Rattle.sessiontext.proofs.Told.{Compared}
use Rattle.sessiontext.proofs.WaitingLines.{limits, both-limits, compared}

small : degree_limit < width
small = omega arith

-- ---- one line
-- where the text of the weight ends
pub record FrontCut (t : Text) (first : ℕ) : Type 0 where
  pub fits : first ≤ length t
  pub front : take first t ≡ before 59 t

pub front_cut : (t : Text) {first : ℕ} → first ≡ 0 + length (before 59 (drop 0 t)) → FrontCut t first
front_cut t {first} e =
    let same : first ≡ length (before 59 t) = omega arith in
    record { fits = omega (arith, before-fits 59 t); front = rw same (before-take 59 t) }

-- a word without its sign
unsigned : (minus : Bool) (shape class : ℕ) → shape < 2 ^ 31 → class < 2 ^ 32
    → word_of (plain minus shape class) % 2 ^ 63 ≡ (0 + shape) * 2 ^ 32 + class
unsigned true shape class s c = omega arith
unsigned false shape class s c = omega arith

word-unsigned : (t : Text) → InLimit degree_limit (shape_in t) → InLimit degree_limit (class_in t)
    → word_of (line_in t) % 2 ^ 63 ≡ word_of (unit (line_by gathered_form t))
unfolding line_by
word-unsigned t i j =
    unsigned (minus_in t) _ _ (omega (arith, (shape-within degree_limit small i).good.below))
    (omega (arith, (class-within degree_limit small j).good.below))

-- a word and a coefficient are read as the line that they were made of
line-back : (t : Text) → InLimit degree_limit (class_in t)
    → weighted (word_of (unit (line_by gathered_form t))) (weight_by gathered_form t) ≡ line_by gathered_form t
unfolding line_by
line-back t j =
    let s : ℕ = shape_word (shape_in t) in
    let k : ℕ = class_word (class_in t) in
    let room = (class-within degree_limit small j).good.below in
    let shape : ((0 + s) * 2 ^ 32 + k) / 2 ^ 32 ≡ s = omega (arith, room) in
    let class : ((0 + s) * 2 ^ 32 + k) % 2 ^ 32 ≡ k = omega (arith, room) in
    rw (shape, class)

-- what stands in the line, whatever its form
module _ (t : Text) where
  abbrev weight : ℤ
  weight = weight_by gathered_form t

  pub no-limits : limits t ≡ false → (held weight && limits t) ≡ false
  no-limits e = never (held weight)
    where
      never : (b : Bool) → (b && limits t) ≡ false
      never true = e
      never false = refl

  pub no-weight : held weight ≡ false → (held weight && limits t) ≡ false
  no-weight e = rw e refl

  pub weight-handed : {z : ℤ} → held weight ≡ true → z ≡ weight → to_z w64 (of_z w64 z) ≡ z
  weight-handed {z} f e = to_z-of_z {w = w64} (held_fits z (rw e f))

  pub line-told : {word : ℕ} {z : ℤ} → held weight ≡ true → z ≡ weight → limits t ≡ true → word ≡ word_of (line_in t)
      → ToldWeighted t (Some (record { word = word % 2 ^ 63; coefficient = z }))
  line-told h e f w = let l = both-limits t f in (rw (h, f) refl, rw w (word-unsigned t l.0 l.1), e)

-- whether it is of its form
module _ (t : Text) where
  pub line-formed : WaitingBy gathered_form degree_limit t → (held (weight t) && limits t) ≡ true
  line-formed l = rw (l.fits, limit-in l.shape, limit-in l.class) refl

  pub line-unread : (held (weight t) && limits t) ≡ false → is_waiting_by gathered_form degree_limit t ≡ false
  line-unread e =
      same_test (is_waiting_by gathered_form degree_limit t) false
      (λ b. absurd (false≢true (sym e ∙ line-formed (is-waiting gathered_form degree_limit t b))))
      (λ b. absurd (false≢true b))

  module _ (f : (held (weight t) && limits t) ≡ true) where
    abbrev parts : (held (weight t) ≡ true) × (limits t ≡ true)
    parts = both (held (weight t)) (limits t) f

    abbrev both-in : InLimit degree_limit (shape_in t) × InLimit degree_limit (class_in t)
    both-in = both-limits t parts.1

    pub weight-kept : {z : ℤ} → z ≡ weight t → to_z w64 (of_z w64 z) ≡ z
    weight-kept {z} e = to_z-of_z {w = w64} (held_fits z (rw e parts.0))

    pub weighted-told : {b : Bool} → Compared b t (line_text_by gathered_form (line_by gathered_form t))
        → b ≡ is_waiting_by gathered_form degree_limit t
    weighted-told c = compared gathered-faithful t parts.0 both-in.0 both-in.1 c

    pub weighted-read : {w : Weighted} → w.word ≡ word_of (unit (line_by gathered_form t)) → w.coefficient ≡ weight t
        → {b : Bool} {r : Option Weighted} → r ≡ then_some b w → b ≡ is_waiting_by gathered_form degree_limit t
        → ReadWeighted t r
    weighted-read {w} p q {b} e c = rw e (go b c)
      where
        go : (b : Bool) → b ≡ is_waiting_by gathered_form degree_limit t → ReadWeighted t (then_some b w)
        go true c = (sym c, p, q)
        go false c = sym c

    module _ {word : ℕ} {z : ℤ} (w : word ≡ word_of (unit (line_by gathered_form t))) (e : z ≡ weight t) where
      its-made : weighted word z ≡ line_by gathered_form t
      its-made = ap₂ weighted w e ∙ line-back t both-in.1

      its-storable : StorableLineBy gathered-faithful degree_limit (weighted word z)
      its-storable =
          subst (λ (l : Line). StorableLineBy gathered-faithful degree_limit l) (sym its-made)
          (told-storable degree_limit small gathered-faithful t parts.0 both-in.0 both-in.1)

      pub handed-storable : StorableLineBy gathered-faithful degree_limit (weighted word (to_z w64 (of_z w64 z)))
      handed-storable = rw (weight-kept e) its-storable

      pub weighted-own : {before bytes : Text} {end : ℕ}
          → Wrote (line_text_by gathered_form (weighted word (to_z w64 (of_z w64 z)))) 0 before end bytes
          → length before ≡ weighted_room → Own (line_text_by gathered_form (line_by gathered_form t)) end bytes
      unfolding gathered-faithful
      weighted-own {before} {bytes} {end} v room =
          let fits = line-short gathered-faithful (weighted word z) its-storable in
          let Text-of : Line → Type 0 = λ l. Own (line_text_by gathered_form l) end bytes in
          let same : weighted word (to_z w64 (of_z w64 z)) ≡ weighted word z = ap (weighted word) (weight-kept e) in
          let as-handed = subst (λ (l : Line). Wrote (line_text_by gathered_form l) 0 before end bytes) same v in
          subst Text-of its-made (own as-handed (omega (arith, fits)) (omega arith))

-- ---- judging
module _ (text : Text) where
  abbrev faults_from : ℕ → Text → ℕ
  faults_from k rest = first_of (line_faults_by gathered_form degree_limit k (lines_of rest))

  pub record Faultless (rest : Text) (number : ℕ) : Type 0 where
    pub some : 8 ≤ number
    pub far : number + length rest ≤ 8 + length text
    pub faults : faults_from 8 text ≡ faults_from number rest

  module _ {rest : Text} {number : ℕ} (r : Faultless rest number) where
    pub faultless-all : length rest ≡ 0 → faults_from 8 text ≡ 0
    faultless-all h = r.faults ∙ rw (no-lines rest h) refl

    module _ (h : 0 < length rest) {end : ℕ} (e : end ≡ 0 + length (first_line (drop 0 rest))) where
      pub faultless-fault : is_waiting_by gathered_form degree_limit (take end rest) ≡ false
          → (number ≡ faults_from 8 text) × (number ≢ 0)
      faultless-fault f =
          let ends = line-ends rest e in
          let b = behind-line ends.behind h in
          let told = rw ends.line at f in
          (sym (r.faults ∙ rw (b.split, told) refl), λ z. omega (arith, r.some))

      pub faultless-next : is_waiting_by gathered_form degree_limit (take end rest) ≡ true
          → Faultless (take (length rest - end) (drop end rest)) (number + 1)
      faultless-next f =
          let ends = line-ends rest e in
          let b = behind-line ends.behind h in
          let told = rw ends.line at f in
          record {
            some = omega (arith, r.some);
            far = omega (arith, b.shorter, r.far);
            faults = r.faults ∙ rw (b.split, told, add-one) refl;
          }

-- ---- putting down
module _ (text : Text) (page : List ℕ) (column : List ℤ) where
  pub record Down (rest : Text) (count : ℕ) (after : List ℕ) (beside : List ℤ) : Type 0 where
    pub formed : Each (WaitingBy gathered_form degree_limit) (lines_of rest)
    pub room : count + length (lines_of rest) ≤ length page
    pub words : sets after count (words_of (read_as (lines_of rest))) ≡ sets page 0 (words_of (read_as (lines_of text)))
    pub weights :
        sets beside count (weights_of (read_as (lines_of rest))) ≡ sets column 0 (weights_of (read_as (lines_of text)))
    pub same : length after ≡ length page
    pub as_long : length beside ≡ length column
    pub alike : length page ≡ length column

  module _ {rest : Text} {count : ℕ} {after : List ℕ} {beside : List ℤ} (p : Down rest count after beside) where
    pub down-all : length rest ≡ 0 → PutDown (lines_of text) page column after beside
    down-all h =
        let none = no-lines rest h in
        record { words = rw none at p.words; weights = rw none at p.weights }

    module _ (h : 0 < length rest) {end : ℕ} (e : end ≡ 0 + length (first_line (drop 0 rest))) where
      split : Each (WaitingBy gathered_form degree_limit)
          (first_line rest ∷ lines_of (take (length rest - end) (drop end rest)))
      split = let b = behind-line (line-ends rest e).behind h in rw b.split at p.formed

      pub down-formed : (held (weight (take end rest)) && limits (take end rest)) ≡ true
      down-formed = rw (line-ends rest e).line (line-formed (first_line rest) split.0)

      fewer : suc (length (lines_of (take (length rest - end) (drop end rest)))) ≡ length (lines_of rest)
      fewer = let b = behind-line (line-ends rest e).behind h in sym (ap length b.split)

      pub down-room : (count < length after) × (count < length beside)
      down-room = (omega (arith, fewer, p.room, p.same), omega (arith, fewer, p.room, p.alike, p.as_long))

      pub down-next : {word : ℕ} {z : ℤ} → word ≡ word_of (unit (line_by gathered_form (take end rest)))
          → z ≡ weight (take end rest)
          → Down (take (length rest - end) (drop end rest)) (count + 1) (set after count word)
          (set beside count (to_z w64 (of_z w64 z)))
      unfolding line_by
      down-next {word} {z} w v =
          let ends = line-ends rest e in
          let b = behind-line ends.behind h in
          let its-word = rw ends.line at w in
          let kept = weight-kept (take end rest) down-formed v in
          let its-weight = rw ends.line at v in
          rw kept
          (record {
            formed = split.1;
            room = omega (arith, fewer, p.room);
            words = rw (its-word, add-one) (rw b.split at p.words);
            weights = rw (its-weight, add-one) (rw b.split at p.weights);
            same = length-set after count word ∙ p.same;
            as_long = length-set beside count z ∙ p.as_long;
            alike = p.alike;
          })

-- ---- whether a line was read
module _ (t : Text) where
  pub none-told : (r : Option Weighted) → ReadWeighted t r → {b : Bool} → is_some r ≡ not b → b ≡ true
      → is_waiting_by gathered_form degree_limit t ≡ false
  none-told None e n f = e
  none-told (Some x) e n f = absurd (false≢true (sym (n ∙ rw f refl)))

  pub some-told : (r : Option Weighted) → ReadWeighted t r → {b : Bool} → is_some r ≡ not b → b ≡ false
      → is_waiting_by gathered_form degree_limit t ≡ true
  some-told None e n f = absurd (false≢true (n ∙ rw f refl))
  some-told (Some x) e n f = e.0
