-- What lines leave of a budget, by their totals: they are taken one after the other, and it comes to the same as if all
-- were counted first (document 01: "its size plus the sum of all d! is at most n!").
--   suffices n value span lines   each line is sound within n, and their totals are within the two budgets
use Rattle.std.specs.Prelude.{◌≡◌, min, ◌≤◌, ◌&&◌, ◌∷◌, ◌+◌, ◌-◌}
use Rattle.std.proofs.Math.Path.{refl}
use Rattle.std.proofs.Common.{◌∙◌, ap}
use native.Mathlib.Omega.{arith}
use borrow.Author.Tests.{leb-true, le-leb, leb-false, lt-leb}
use Rattle.theory.specs.Basics.{Bool, true, false, cond, List, [], ℕ, ◌≤?◌, every}
use Rattle.theory.proofs.Basics.Keep.{same_test}
use Rattle.pages.specs.Line.{Line}
use Rattle.pages.specs.Sound.{sound_line, line_value, line_span}
use Rattle.pages.specs.Sound.Laws.{values, spans}
use Rattle.pages.specs.Budget.{left, overspent, spent_on, spent_all, Budget}
use Rattle.pages.specs.Budget.Laws.{overspent-stays, spent-by}

abbrev pub suffices : ℕ → ℕ → ℕ → List Line → Bool
suffices n value span lines = every (sound_line n) lines && values lines ≤? value && spans lines ≤? span

-- a budget that was reduced suffices for the rest just where it sufficed for all
pub reduced : (a first all : ℕ) → first ≤ all → (a ≤? (all - first)) ≡ ((first + a) ≤? all)
reduced a first all h = same_test (a ≤? (all - first)) ((first + a) ≤? all)
    (λ t. le-leb (first + a) all (omega (arith, leb-true a (all - first) t)))
    (λ t. le-leb a (all - first) (omega (arith, leb-true (first + a) all t)))

no_second : (a c : Bool) → (a && false && c) ≡ false
no_second true c = refl
no_second false c = refl

no_third : (a b : Bool) → (a && b && false) ≡ false
no_third true true = refl
no_third true false = refl
no_third false b = refl

module _ (limit n : ℕ) where
  abbrev Spent : ℕ → ℕ → List Line → Type 0
  Spent value span lines =
      spent_all limit (left n value span) lines
      ≡ cond (suffices (min n limit) value span lines) (left n (value - values lines) (span - spans lines)) overspent

  pub spent-totals : (value span : ℕ) (lines : List Line) → Spent value span lines
  unfolding spent_all
  spent-totals value span [] =
      let v : value - 0 ≡ value = omega arith in
      let s : span - 0 ≡ span = omega arith in
      rw (le-leb 0 value (omega arith), le-leb 0 span (omega arith), v, s) refl
  spent-totals value span (l ∷ lines) =
      go (sound_line (min n limit) l) (line_value l ≤? value) (line_span l ≤? span) refl refl refl
      (spent-totals (value - line_value l) (span - line_span l) lines)
    where
      b : Budget
      b = left n value span

      after : Budget → Budget
      after c = spent_all limit c lines

      none : (t : Bool) → sound_line (min n limit) l ≡ t → (t && line_value l ≤? value && line_span l ≤? span) ≡ false
          → after (spent_on limit b l) ≡ overspent
      none t e f = ap after (spent-by limit b l t false e f) ∙ overspent-stays limit lines

      go : (t u w : Bool) → sound_line (min n limit) l ≡ t → line_value l ≤? value ≡ u → line_span l ≤? span ≡ w
          → Spent (value - line_value l) (span - line_span l) lines → Spent value span (l ∷ lines)
      go true true true e f g rest =
          let v = leb-true (line_value l) value f in
          let s = leb-true (line_span l) span g in
          let less : value - line_value l - values lines ≡ value - (line_value l + values lines) = omega arith in
          let fewer : span - line_span l - spans lines ≡ span - (line_span l + spans lines) = omega arith in
          ap after (spent-by limit b l true true e (rw (f, g) refl))
          ∙ rest
          ∙ rw (
            e,
            reduced (values lines) (line_value l) value v,
            reduced (spans lines) (line_span l) span s,
            less,
            fewer,
          ) refl
      go false u w e f g rest = none false e refl ∙ rw e refl
      go true false w e f g rest =
          let more = lt-leb (line_value l + values lines) value (omega (arith, leb-false (line_value l) value f)) in
          none true e (rw f refl)
          ∙ rw (more, no_second (every (sound_line (min n limit)) (l ∷ lines)) (spans (l ∷ lines) ≤? span)) refl
      go true true false e f g rest =
          let more = lt-leb (line_span l + spans lines) span (omega (arith, leb-false (line_span l) span g)) in
          none true e (rw (f, g) refl)
          ∙ rw (more, no_third (every (sound_line (min n limit)) (l ∷ lines)) (values (l ∷ lines) ≤? value)) refl
