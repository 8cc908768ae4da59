-- A budget suffices for the lines of the gathered mode where it does for their words as plain lines, and what these
-- leave for what the coefficients ask for besides.
--   clear xs zs        no word has its sign digit set, and no coefficient is 0
--   more limit xs zs   what the coefficients ask for besides, in all
use Rattle.std.specs.Prelude.{◌&&◌, ◌∷◌, ◌+◌, ◌-◌, ◌*◌, ◌/◌, ◌^◌}
use mathlib.Core.Path.{◌≡◌, refl, sym, ◌∙◌, ap, ap₂}
use mathlib.Core.Bool.{false≢true, and-false}
use Prim.Native.Nat.{min, ◌≤◌, ◌<◌}
use native.Mathlib.Nat.{add-mul}
use native.Mathlib.Omega.{arith}
use borrow.Author.Tests.{le-ltb, ltb-true, ltb-false, le-leb, leb-true, lt-leb, leb-false, eqb-false, not-true}
use Rattle.theory.specs.Basics.{Bool, true, false, not, cond, List, [], map, length, ℕ}
use Rattle.theory.specs.Basics.{ℤ, nat_abs, ◌=?◌, ◌≤?◌, ◌<?◌, every}
use Rattle.theory.proofs.Basics.Laws.{both}
use Rattle.theory.proofs.Basics.Keep.{same_test}
use Rattle.theory.specs.Bounds.{factorial}
use Rattle.theory.specs.Partition.{degree}
use Rattle.theory.specs.ShapeWord.{shape_width, shape_of}
use Rattle.theory.proofs.ShapeWord.Good.{good-shape}
use Rattle.theory.specs.Refusals.Laws.{Within}
use Rattle.pages.specs.Line.{Line, line_degree}
use Rattle.pages.specs.Gathering.{lasting}
use Rattle.pages.specs.Page.{line_of}
use Rattle.pages.specs.Page.Words.{unit-weight}
use Rattle.pages.specs.Mode.{weighted, alongside}
use Rattle.pages.specs.Sound.{sound_line, line_value, line_span}
use Rattle.pages.specs.Sound.Laws.{sound-line, values, spans}
use Rattle.pages.specs.Budget.{left, overspent, spent_all, Budget}
use Rattle.pages.specs.Budget.Laws.{overspent-stays, spent-by}
use Rattle.pages.specs.Budget.Totals.{suffices, reduced, spent-totals}
use Rattle.pages.specs.Private.Gathered.{afforded, word_cost, more_cost, suffices_besides}
use Rattle.pages.proofs.WordDegrees.{shape-degree-is}

-- ---- a line, and its word as a plain one
module _ (m x : ℕ) (z : ℤ) where
  sign_set : 2 ^ 63 ≤ x → sound_line m (weighted x z) ≡ false
  unfolding sound_line
  sign_set set = rw (le-ltb (x / 2 ^ 32) (2 ^ shape_width) (omega arith))

  sign_clear : sound_line m (weighted x z) ≡ true → x <? 2 ^ 63 ≡ true
  sign_clear sound = go (x <? 2 ^ 63) refl
    where
      go : (b : Bool) → x <? 2 ^ 63 ≡ b → b ≡ true
      go true e = refl
      go false e = absurd (false≢true (sym (sign_set (ltb-false x (2 ^ 63) e)) ∙ sound))

  module _ (clear : x < 2 ^ 63) where
    same_shape : (line_of x).shape ≡ (weighted x z).shape
    same_shape = omega arith

    same-sound : sound_line m (line_of x) ≡ sound_line m (weighted x z)
    unfolding sound_line
    same-sound = rw same_shape refl

    same_span : line_span (weighted x z) ≡ line_span (line_of x)
    same_span = rw same_shape refl

    -- d! as often as the coefficient's size is d! once, and what the coefficient asks for besides
    more-value : (limit : ℕ) → m ≤ limit → sound_line m (line_of x) ≡ true → (nat_abs z ≡ 0 → ⊥)
        → line_value (weighted x z) ≡ line_value (line_of x) + more_cost limit x z
    more-value limit small sound some =
        let s = sound-line m (line_of x) sound in
        let shape : Within limit (line_of x).shape = record {
          good = good-shape (line_of x).shape s.shape;
          small = omega (arith, s.within);
        } in
        let cost : word_cost limit x ≡ factorial (line_degree (line_of x)) = ap factorial (shape-degree-is shape) in
        let size : nat_abs z ≡ 1 + (nat_abs z - 1) = omega arith in
        ap (λ w. nat_abs z * factorial (degree (shape_of w))) (sym same_shape)
        ∙ ap (λ k. k * factorial (line_degree (line_of x))) size
        ∙ add-mul 1 (nat_abs z - 1) (factorial (line_degree (line_of x)))
        ∙ rw (unit-weight x, cost) refl

-- ---- all lines, and their words as plain ones
abbrev clear : List ℕ → List ℤ → Bool
clear [] zs = true
clear (x ∷ xs) [] = true
clear (x ∷ xs) (z ∷ zs) = x <? 2 ^ 63 && not (nat_abs z =? 0) && clear xs zs

abbrev more : ℕ → List ℕ → List ℤ → ℕ
more limit [] zs = 0
more limit (x ∷ xs) [] = 0
more limit (x ∷ xs) (z ∷ zs) = more_cost limit x z + more limit xs zs

record Counted (limit m : ℕ) (xs : List ℕ) (zs : List ℤ) : Type 0 where
  lasts : every lasting (alongside xs zs) ≡ true
  sound : every (sound_line m) (alongside xs zs) ≡ true
  value : values (alongside xs zs) ≡ values (map line_of xs) + more limit xs zs
  span : spans (alongside xs zs) ≡ spans (map line_of xs)

module _ (limit m : ℕ) where
  cleared : (xs : List ℕ) (zs : List ℤ) → length xs ≡ length zs → every lasting (alongside xs zs) ≡ true
      → every (sound_line m) (alongside xs zs) ≡ true
      → (clear xs zs ≡ true) × (every (sound_line m) (map line_of xs) ≡ true)
  cleared [] zs e l s = (refl, refl)
  cleared (x ∷ xs) [] e l s = absurd (omega arith)
  cleared (x ∷ xs) (z ∷ zs) e l s =
      let lasts = both (lasting (weighted x z)) (every lasting (alongside xs zs)) l in
      let sound = both (sound_line m (weighted x z)) (every (sound_line m) (alongside xs zs)) s in
      let rest = cleared xs zs (omega arith) lasts.1 sound.1 in
      let here = sign_clear m x z sound.0 in (
        rw (here, lasts.0) rest.0,
        rw (same-sound m x z (ltb-true x (2 ^ 63) here), sound.0) rest.1,
      )

  counted : m ≤ limit → (xs : List ℕ) (zs : List ℤ) → length xs ≡ length zs → clear xs zs ≡ true
      → every (sound_line m) (map line_of xs) ≡ true → Counted limit m xs zs
  counted small [] zs e c s = record { lasts = refl; sound = refl; value = refl; span = refl }
  counted small (x ∷ xs) [] e c s = absurd (omega arith)
  counted small (x ∷ xs) (z ∷ zs) e c s =
      let all = both (x <? 2 ^ 63 && not (nat_abs z =? 0)) (clear xs zs) c in
      let here = both (x <? 2 ^ 63) (not (nat_abs z =? 0)) all.0 in
      let sound = both (sound_line m (line_of x)) (every (sound_line m) (map line_of xs)) s in
      let rest = counted small xs zs (omega arith) all.1 sound.1 in
      let below = ltb-true x (2 ^ 63) here.0 in
      let some = eqb-false (nat_abs z) 0 (not-true (nat_abs z =? 0) here.1) in
      let first = more-value m x z below limit small sound.0 some in
      record {
        lasts = rw here.1 rest.lasts;
        sound = rw (sym (same-sound m x z below) ∙ sound.0) rest.sound;
        value = omega (arith, first, rest.value);
        span = ap₂ ◌+◌ (same_span m x z below) rest.span;
      }

-- what is taken one after the other comes to the same as what is asked for in all
besides-totals : (limit value : ℕ) (xs : List ℕ) (zs : List ℤ)
    → suffices_besides limit value xs zs ≡ (clear xs zs && more limit xs zs ≤? value)
unfolding suffices_besides
besides-totals limit value [] zs = sym (le-leb 0 value (omega arith))
besides-totals limit value (x ∷ xs) [] = sym (le-leb 0 value (omega arith))
besides-totals limit value (x ∷ xs) (z ∷ zs) =
    go (x <? 2 ^ 63) (not (nat_abs z =? 0)) (first ≤? value) refl refl refl (besides-totals limit (value - first) xs zs)
  where
    first : ℕ
    first = more_cost limit x z

    rest : ℕ
    rest = more limit xs zs

    go : (t u w : Bool) → x <? 2 ^ 63 ≡ t → not (nat_abs z =? 0) ≡ u → first ≤? value ≡ w
        → suffices_besides limit (value - first) xs zs ≡ (clear xs zs && rest ≤? (value - first))
        → (t && u && w && suffices_besides limit (value - first) xs zs)
        ≡ (t && u && clear xs zs && (first + rest) ≤? value)
    go true true true e f g so =
        so ∙ ap (λ b. clear xs zs && b) (reduced rest first value (leb-true first value g))
    go true true false e f g so =
        let dear = lt-leb (first + rest) value (omega (arith, leb-false first value g)) in
        sym (and-false (clear xs zs)) ∙ ap (λ b. clear xs zs && b) (sym dear)
    go true false w e f g so = refl
    go false u w e f g so = refl

-- ---- the budget in two: for the words, and for what is asked for besides
enough-is : (t : Bool) (n value span : ℕ) → (cond t (left n value span) overspent).enough ≡ t
enough-is true n value span = refl
enough-is false n value span = refl

not-enough : (limit : ℕ) (b : Budget) (lines : List Line) → b.enough ≡ false → (spent_all limit b lines).enough ≡ false
unfolding spent_all
not-enough limit b [] short = short
not-enough limit b (l ∷ lines) short =
    let none = spent-by limit b l false false (rw short refl) refl in
    ap (λ (c : Budget). (spent_all limit c lines).enough) none
    ∙ ap (λ (c : Budget). c.enough) (overspent-stays limit lines)

module _ (limit : ℕ) (xs : List ℕ) (zs : List ℤ) (same : length xs ≡ length zs) where
  abbrev lines : List Line
  lines = alongside xs zs

  abbrev words : List Line
  words = map line_of xs

  abbrev in_two : Budget → Bool
  in_two c = c.enough && suffices_besides limit c.value xs zs

  module _ (n value span : ℕ) where
    abbrev m : ℕ
    m = min n limit

    abbrev suffice : Bool
    suffice = every lasting lines && suffices m value span lines

    abbrev suffice_besides : Bool
    suffice_besides = clear xs zs && more limit xs zs ≤? (value - values words)

    needed : suffice ≡ true → (suffices m value span words ≡ true) × (suffice_besides ≡ true)
    needed t =
        let a = both (every lasting lines) (suffices m value span lines) t in
        let b = both (every (sound_line m) lines && values lines ≤? value) (spans lines ≤? span) a.1 in
        let d = both (every (sound_line m) lines) (values lines ≤? value) b.0 in
        let e = cleared limit m xs zs same a.0 d.0 in
        let k = counted limit m (omega arith) xs zs same e.0 e.1 in
        let v = leb-true (values lines) value d.1 in
        let s = leb-true (spans lines) span b.1 in (
          rw (
            e.1,
            le-leb (values words) value (omega (arith, k.value)),
            le-leb (spans words) span (omega (arith, k.span)),
          ) refl,
          rw (e.0, le-leb (more limit xs zs) (value - values words) (omega (arith, k.value))) refl,
        )

    enough : suffices m value span words ≡ true → suffice_besides ≡ true → suffice ≡ true
    enough t u =
        let b = both (every (sound_line m) words && values words ≤? value) (spans words ≤? span) t in
        let d = both (every (sound_line m) words) (values words ≤? value) b.0 in
        let e = both (clear xs zs) (more limit xs zs ≤? (value - values words)) u in
        let k = counted limit m (omega arith) xs zs same e.0 d.0 in
        let v = leb-true (values words) value d.1 in
        let w = leb-true (more limit xs zs) (value - values words) e.1 in
        let s = leb-true (spans words) span b.1 in
        rw (
          k.lasts,
          k.sound,
          le-leb (values lines) value (omega (arith, k.value)),
          le-leb (spans lines) span (omega (arith, k.span)),
        ) refl

    over-left : in_two (spent_all limit (left n value span) words) ≡ afforded limit (left n value span) lines
    over-left =
        ap in_two (spent-totals limit n value span words)
        ∙ go (suffices m value span words) refl
        ∙ ap (λ t. every lasting lines && t)
        (sym (ap (λ (c : Budget). c.enough) (spent-totals limit n value span lines)
        ∙ enough-is (suffices m value span lines) n (value - values lines) (span - spans lines)))
      where
        go : (t : Bool) → suffices m value span words ≡ t
            → in_two (cond t (left n (value - values words) (span - spans words)) overspent) ≡ suffice
        go true t =
            besides-totals limit (value - values words) xs zs
            ∙ same_test suffice_besides suffice (enough t) (λ u. (needed u).1)
        go false t = same_test false suffice (λ u. absurd (false≢true u)) (λ u. sym t ∙ (needed u).0)

  over-words : (b : Budget) → in_two (spent_all limit b words) ≡ afforded limit b lines
  over-words b = go b.enough refl
    where
      go : (t : Bool) → b.enough ≡ t → in_two (spent_all limit b words) ≡ afforded limit b lines
      go true t =
          let is : b ≡ left b.degree b.value b.span =
          ap (λ (t : Bool). record { enough = t; degree = b.degree; value = b.value; span = b.span }) t in
          ap (λ (b : Budget). in_two (spent_all limit b words)) is
          ∙ over-left b.degree b.value b.span
          ∙ sym (ap (λ (b : Budget). afforded limit b lines) is)
      go false t =
          ap (λ e. e && suffices_besides limit (spent_all limit b words).value xs zs) (not-enough limit b words t)
          ∙ sym (and-false (every lasting lines))
          ∙ ap (λ e. every lasting lines && e) (sym (not-enough limit b lines t))

  -- as the code goes on
  module _ (b : Budget) where
    pub words-dear : overspent ≡ spent_all limit b words → false ≡ afforded limit b lines
    words-dear after = ap in_two after ∙ over-words b

    pub then-besides : (n value span : ℕ) → left n value span ≡ spent_all limit b words
        → suffices_besides limit value xs zs ≡ afforded limit b lines
    then-besides n value span after = ap in_two after ∙ over-words b
