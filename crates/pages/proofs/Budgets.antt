-- Two budgets that fall as the words of a page are read: what one word does to them, and what they are at first.
use Rattle.std.specs.Prelude.{Option, Some, None, ◌&&◌, ◌∷◌, ◌+◌, ◌-◌, ◌*◌}
use Rattle.std.specs.Option.{is_some}
use mathlib.Core.Path.{◌≡◌, refl, sym, ◌∙◌, ap}
use Prim.Native.Nat.{min, ◌≤◌, ◌<◌}
use native.Mathlib.Numerals.{add-one}
use native.Mathlib.Omega.{arith}
use borrow.Author.Tests.{le-leb, lt-leb, ne_eqb}
use lib.ListN.{drop_of_length-le}
use lib.Seq.{drop-cons}
use lib.Signed.{non_neg}
use Rattle.theory.specs.Basics.{Bool, true, false, cond, List, map, length, get_or, drop, ℕ}
use Rattle.theory.specs.Basics.{nat_abs, ◌≤?◌}
use Rattle.theory.proofs.Basics.Laws.{both}
use Rattle.theory.specs.Bounds.{factorial, S}
use Rattle.theory.specs.ShapeWord.{good_shape}
use Rattle.theory.specs.Refusals.{first_of, pair_checks}
use Rattle.pages.specs.Line.{Line, line_degree}
use Rattle.pages.specs.Page.{line_of, Slip}
use Rattle.pages.specs.Page.Words.{unit-weight}
use Rattle.pages.specs.Sound.{sound_line, sound_words}
use Rattle.pages.specs.Sound.Laws.{sound-line, asked}
use Rattle.pages.specs.declared.Budget.{Budget as Kept}
use Rattle.pages.specs.Budget.{left, overspent, budget_told, budget_of, spent_on, spent_all, Budget}
use Rattle.pages.specs.Budget.Laws.{overspent-stays}
use Rattle.pages.specs.Private.Degrees.{sound_degree, most_degree, paid_for}

-- ---- what is told of a budget
pub enough-told : (r : Option Kept) → is_some r ≡ (budget_told r).enough
enough-told None = refl
enough-told (Some b) = refl

kept : Budget → Option Kept
kept b = cond b.enough (Some (record { degree = b.degree; value = b.value; span = b.span })) None

kept-back : (r : Option Kept) → kept (budget_told r) ≡ r
unfolding kept
kept-back None = refl
kept-back (Some b) = refl

pub budget-told-once : {r s : Option Kept} → budget_told r ≡ budget_told s → r ≡ s
budget-told-once {r} {s} e = sym (kept-back r) ∙ ap kept e ∙ kept-back s

-- ---- a sound degree
module _ (n : ℕ) (l : Line) (d : ℕ) (e : d ≡ sound_degree n l) where
  by-soundness : (P : Type 0) → (sound_line n l ≡ true → d ≡ line_degree l → P) → (sound_line n l ≡ false → d ≡ 0 → P) → P
  unfolding sound_degree
  by-soundness P good bad = go (sound_line n l) refl e
    where
      go : (b : Bool) → sound_line n l ≡ b → d ≡ cond b (line_degree l) 0 → P
      go true t q = good t q
      go false t q = bad t q

  pub sound-small : d ≤ n
  sound-small = by-soundness (d ≤ n) (λ t q. omega (arith, (sound-line n l t).within)) (λ t q. omega arith)

-- ---- the greatest degree
pub most-small : (limit : ℕ) (b : Budget) → most_degree limit b ≤ limit
most-small limit b = go b.enough
  where
    go : (enough : Bool) → cond enough (min b.degree limit) 0 ≤ limit
    go true = omega arith
    go false = omega arith

-- it stands for two tests: that the budget suffices, and that a line is sound within its degree
two-tests : (limit : ℕ) (b : Budget) (l : Line)
    → (b.enough && sound_line (min b.degree limit) l) ≡ sound_line (most_degree limit b) l
two-tests limit b l = go b.enough
  where
    none : (t : Bool) → sound_line 0 l ≡ t → false ≡ t
    none true t =
        let s = sound-line 0 l t in
        absurd (omega (arith, s.some, s.within))
    none false t = refl

    go : (enough : Bool)
        → (enough && sound_line (min b.degree limit) l) ≡ sound_line (cond enough (min b.degree limit) 0) l
    go true = refl
    go false = none (sound_line 0 l) refl

-- ---- a line's degree tells what the line leaves
module _ (limit : ℕ) (b : Budget) (l : Line) (d : ℕ) (e : d ≡ sound_degree (most_degree limit b) l) where
  paid-is : paid_for (nat_abs l.weight) d b ≡ spent_on limit b l
  unfolding paid_for spent_on
  paid-is =
      by-soundness (most_degree limit b) l d e (paid_for (nat_abs l.weight) d b ≡ spent_on limit b l)
      (λ t q.
      let tests = both b.enough (sound_line (min b.degree limit) l) (two-tests limit b l ∙ t) in
      rw (tests.0, tests.1, q, le-leb 1 (line_degree l) (sound-line _ l t).some))
      (λ t q. rw (two-tests limit b l, t, q))

  spent-one : (c : Budget) (lines : List Line) → c ≡ paid_for (nat_abs l.weight) d b
      → spent_all limit c lines ≡ spent_all limit b (l ∷ lines)
  unfolding spent_all
  spent-one c lines is = ap (λ (c : Budget). spent_all limit c lines) (is ∙ paid-is)

-- ---- paying, test by test
module _ (d : ℕ) (b : Budget) where
  pub no_line : d ≡ 0 → overspent ≡ paid_for 1 d b
  unfolding paid_for
  no_line none = rw none

  module _ (some : d ≡ 0 → ⊥) (value : ℕ) (cost : value ≡ factorial d) where
    some-line : 1 ≤? d ≡ true
    some-line = le-leb 1 d (omega arith)

    once : 1 * factorial d ≡ value
    once = omega (arith, cost)

    pub too-dear : (value ≤ b.value → ⊥) → overspent ≡ paid_for 1 d b
    unfolding paid_for
    too-dear short = rw (some-line, once, lt-leb value b.value (omega (arith, short)))

    module _ (paid : value ≤ b.value) (span : ℕ) (steps : span ≡ S d) where
      pub too_long : (span ≤ b.span → ⊥) → overspent ≡ paid_for 1 d b
      unfolding paid_for
      too_long short = rw (some-line, once, ← steps, le-leb value b.value paid, lt-leb span b.span (omega (arith, short)))

      pub all_paid : span ≤ b.span → left b.degree (b.value - value) (b.span - span) ≡ paid_for 1 d b
      unfolding paid_for
      all_paid lasts = rw (some-line, once, ← steps, le-leb value b.value paid, le-leb span b.span lasts)

-- ---- from line to line
pub spent-next : (limit : ℕ) (b c : Budget) (xs : List ℕ) (i d : ℕ) → i < length xs
    → d ≡ sound_degree (most_degree limit b) (line_of (get_or xs i 0)) → c ≡ paid_for 1 d b
    → spent_all limit c (map line_of (drop (i + 1) xs)) ≡ spent_all limit b (map line_of (drop i xs))
spent-next limit b c xs i d h e is =
    let l = line_of (get_or xs i 0) in
    let size : 1 ≡ nat_abs l.weight = sym (unit-weight (get_or xs i 0)) in
    rw (add-one i, drop-cons xs i 0 h) (spent-one limit b l d e c _ (is ∙ ap (λ k. paid_for k d b) size))

-- once overspent, it stays so
pub spent-stops : (limit : ℕ) (b : Budget) (xs : List ℕ) (i d : ℕ) → i < length xs
    → d ≡ sound_degree (most_degree limit b) (line_of (get_or xs i 0)) → overspent ≡ paid_for 1 d b
    → overspent ≡ spent_all limit b (map line_of (drop i xs))
spent-stops limit b xs i d h e is =
    sym (overspent-stays limit (map line_of (drop (i + 1) xs))) ∙ spent-next limit b overspent xs i d h e is

pub spent-end : (limit : ℕ) (b : Budget) (xs : List ℕ) (i : ℕ) → length xs ≤ i
    → b ≡ spent_all limit b (map line_of (drop i xs))
unfolding spent_all
spent-end limit b xs i h = rw (drop_of_length-le xs h)

-- ---- at first
module _ (limit : ℕ) (slip : Slip) where
  pub shape-not-good : good_shape slip.shape ≡ false → overspent ≡ budget_of limit slip
  unfolding budget_of
  shape-not-good bad = rw bad

  pub words-refused : good_shape slip.shape ≡ true
      → (first_of (pair_checks limit slip.shape slip.class) ≡ 0 → ⊥) → overspent ≡ budget_of limit slip
  unfolding budget_of
  words-refused good some = rw (good, ne_eqb (first_of (pair_checks limit slip.shape slip.class)) 0 some)

  module _ (words : sound_words limit slip ≡ true) where
    pub steps_back : non_neg slip.steps ≡ false → overspent ≡ budget_of limit slip
    unfolding budget_of
    steps_back back = rw (words, back)

    module _ (forward : non_neg slip.steps ≡ true) (n : ℕ) (is-asked : n ≡ asked slip) (settled : ℕ)
        (settled-size : settled ≡ nat_abs slip.settled) (value : ℕ) (cost : value ≡ factorial n) where
      pub settled-dear : (settled ≤ value → ⊥) → overspent ≡ budget_of limit slip
      unfolding budget_of
      settled-dear short = rw (
        words,
        forward,
        ← settled-size,
        ← is-asked,
        ← cost,
        lt-leb settled value (omega (arith, short)),
      )

      module _ (paid : settled ≤ value) (steps : ℕ) (steps-size : steps ≡ nat_abs slip.steps) (span : ℕ)
          (most : span ≡ S n) where
        pub steps-long : (steps ≤ span → ⊥) → overspent ≡ budget_of limit slip
        unfolding budget_of
        steps-long short = rw (
          words,
          forward,
          ← settled-size,
          ← steps-size,
          ← is-asked,
          ← cost,
          ← most,
          le-leb settled value paid,
          lt-leb steps span (omega (arith, short)),
        )

        pub first-left : steps ≤ span → left n (value - settled) (span - steps) ≡ budget_of limit slip
        unfolding budget_of
        first-left lasts = rw (
          words,
          forward,
          ← settled-size,
          ← steps-size,
          ← is-asked,
          ← cost,
          ← most,
          le-leb settled value paid,
          le-leb steps span lasts,
        )
