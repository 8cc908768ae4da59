-- `pages::paying::first` meets its contract: each test stops at no budget, or leaves it to those behind it.
use Rattle.std.proofs.Common.{◌≡◌, ◌∙◌, ◌≤◌, ◌<◌, ◌^◌, sym, ap, ℕ, true, arith}
use Rattle.std.specs.Int.Signed.{non_neg}
use mir.Facts.{to_z-of_z}
use mir.Syntax.{w64}
use mir.Val.{SFits}
use lib.IntN.{nat_abs}
use borrow.Author.Rules.{rules}
use borrow.Author.Tests.{not-true, not-false, lt-ltb, le-ltb}
use Rattle.theory.specs.Partition.{degree}
use Rattle.theory.specs.ShapeWord.{good_shape, shape_width}
use Rattle.theory.specs.Limits.{degree_limit}
use Rattle.pages.specs.Page.{Slip}
use Rattle.pages.specs.Sound.{sound_words}
use Rattle.pairs.proofs.WordPairs.{Pair, pair-refused, pair-passed}
use Rattle.std.specs.Prelude.{Option, Some, None, Result, Ok, Err}
use Rattle.std.specs.Result.{result_ok}
use Rattle.theory.specs.Refusals.{first_of, pair_checks}
use Rattle.pairs.specs.Pairs.{common_told, degree_of_both}
use Rattle.words.specs.declared.refusal.Refusal.{Refusal}
use Rattle.words.proofs.Told.{refuses}
use Rattle.pairs.specs.declared.Common.{Common}
use Rattle.pages.proofs.Signed.{below-zero}
use Rattle.pages.proofs.Budgets.{shape-not-good, words-refused, steps_back, settled-dear, steps-long, first-left}
use Rattle.pages.proofs.paying.first.Goals as goal

-- ---- what is known of the words once they have passed
good : (s : ℕ) → s < 2 ^ shape_width → good_shape s ≡ true
good s below = lt-ltb s (2 ^ shape_width) below

module _ (s c : ℕ) where
  asked : (r : Result Common Refusal) {j : Common} → common_told r ≡ degree_of_both degree_limit s c
      → ◌≡◌ {A = Option Common} (Some j) (result_ok r) → Pair degree_limit s c j
  asked (Ok x) {j} e k =
      let same : j ≡ x = cc in
      rw same (pair-passed _ _ _ e)
  asked (Err d) e k = absurd cc

  refused : (r : Result Common Refusal) → common_told r ≡ degree_of_both degree_limit s c
      → ◌≡◌ {A = Option Common} None (result_ok r) → first_of (pair_checks degree_limit s c) ≡ 0 → ⊥
  refused (Ok x) e k none = absurd cc
  refused (Err d) e k none = refuses d (pair-refused _ _ _ (Err d) e ∙ none)

module _ {s c : ℕ} {j : Common} (pair : Pair degree_limit s c j) where
  small : j.degree ≤ degree_limit
  small = omega (arith, pair.degree, pair.words.shape.small, ap degree pair.its_shape)

words : (slip : Slip) {j : Common} → good_shape slip.shape ≡ true → Pair degree_limit slip.shape slip.class j
    → sound_words degree_limit slip ≡ true
words slip good pair = rw (good, pair.none)

-- ---- the tests
pub returns-then-slip-ge-SHAPE_WORDS : goal.returns-then-slip-ge-SHAPE_WORDS
returns-then-slip-ge-SHAPE_WORDS c =
    shape-not-good degree_limit c.args.slip (le-ltb _ (2 ^ shape_width) (omega (arith, c.if-slip-ge-SHAPE_WORDS.true)))

pub returns-in_err-degree : goal.returns-in_err-degree
returns-in_err-degree c =
    rw c.from_residual.ensures
    (words-refused degree_limit c.args.slip (good _ (omega (arith, c.if-slip-ge-SHAPE_WORDS.false)))
    (refused _ _ _ c.common_degree.ensures c.in_err-degree.ensures.value))

pub returns-then-slip-lt0 : goal.returns-then-slip-lt0
returns-then-slip-lt0 c =
    let pair = asked _ _ _ c.common_degree.ensures c.in_ok-degree.ensures.value in
    let fits : SFits w64 c.args.slip.steps = search rules in
    steps_back _ c.args.slip (words c.args.slip (good _ (omega (arith, c.if-slip-ge-SHAPE_WORDS.false))) pair)
    (not-true (non_neg c.args.slip.steps) (sym (below-zero c.args.slip.steps fits) ∙ c.if-slip-lt0.true))

pub factorial-requires : goal.factorial-requires
factorial-requires c = small (asked _ _ _ c.common_degree.ensures c.in_ok-degree.ensures.value)

pub span-requires : goal.span-requires
span-requires c = small (asked _ _ _ c.common_degree.ensures c.in_ok-degree.ensures.value)

pub returns-in_err-value : goal.returns-in_err-value
returns-in_err-value c =
    let pair = asked _ _ _ c.common_degree.ensures c.in_ok-degree.ensures.value in
    let settled-fits : SFits w64 c.args.slip.settled = search rules in
    let steps-fits : SFits w64 c.args.slip.steps = search rules in
    let forward =
    not-false (non_neg c.args.slip.steps) (sym (below-zero c.args.slip.steps steps-fits) ∙ c.if-slip-lt0.false) in
    rw c.from_residual-in_err-value.ensures
    (settled-dear _ c.args.slip (words c.args.slip (good _ (omega (arith, c.if-slip-ge-SHAPE_WORDS.false))) pair) forward _ pair.degree _ (c.unsigned_abs-settled.ensures.value ∙ ap nat_abs (to_z-of_z settled-fits)) _
    c.factorial.ensures c.in_err-value.ensures)

pub returns-in_err-span : goal.returns-in_err-span
returns-in_err-span c =
    let pair = asked _ _ _ c.common_degree.ensures c.in_ok-degree.ensures.value in
    let settled-fits : SFits w64 c.args.slip.settled = search rules in
    let steps-fits : SFits w64 c.args.slip.steps = search rules in
    let forward =
    not-false (non_neg c.args.slip.steps) (sym (below-zero c.args.slip.steps steps-fits) ∙ c.if-slip-lt0.false) in
    rw c.from_residual-in_err-span.ensures
    (steps-long _ c.args.slip (words c.args.slip (good _ (omega (arith, c.if-slip-ge-SHAPE_WORDS.false))) pair) forward _ pair.degree _ (c.unsigned_abs-settled.ensures.value ∙ ap nat_abs (to_z-of_z settled-fits)) _
    c.factorial.ensures c.in_ok-value.ensures.0 _ (c.unsigned_abs-steps.ensures.value ∙ ap nat_abs (to_z-of_z steps-fits)) _ c.span.ensures c.in_err-span.ensures)

pub returns : goal.returns
returns c =
    let pair = asked _ _ _ c.common_degree.ensures c.in_ok-degree.ensures.value in
    let settled-fits : SFits w64 c.args.slip.settled = search rules in
    let steps-fits : SFits w64 c.args.slip.steps = search rules in
    let forward =
    not-false (non_neg c.args.slip.steps) (sym (below-zero c.args.slip.steps steps-fits) ∙ c.if-slip-lt0.false) in
    rw (c.in_ok-value.ensures.1, c.in_ok-span.ensures.1)
    (first-left _ c.args.slip (words c.args.slip (good _ (omega (arith, c.if-slip-ge-SHAPE_WORDS.false))) pair) forward _ pair.degree _ (c.unsigned_abs-settled.ensures.value ∙ ap nat_abs (to_z-of_z settled-fits)) _
    c.factorial.ensures c.in_ok-value.ensures.0 _ (c.unsigned_abs-steps.ensures.value ∙ ap nat_abs (to_z-of_z steps-fits)) _ c.span.ensures c.in_ok-span.ensures.0)
