-- A sound line l struck by a cycle of its class: what waits of its hook lines is sound, it is worth what they and the
-- settled weights are worth, and they count no more than it did.
use Rattle.std.specs.Prelude.{◌≡◌, ◌≤◌, ◌+◌, ◌*◌, ◌+ℤ◌}
use Rattle.std.proofs.Common.{sym, ◌∙◌, le_refl, mul-le-mul, arith}
use Rattle.std.proofs.Math.Path.{ap}
use Rattle.std.proofs.Math.Decide.{ℕ_discrete}
use borrow.Author.Tests.{eqb-true, eqb-false, not-true}
use Rattle.theory.specs.Basics.{true, not, map, ℕ, nat_abs, total, sum}
use Rattle.theory.specs.Basics.{◌=?◌, Each}
use Rattle.theory.proofs.Basics.Laws.{each_same, each_member, map_same, sum_same}
use Rattle.theory.proofs.Basics.Keep.{each_keep, sum-keep, total-keep}
use Rattle.theory.proofs.Basics.Integers.Products.{times-one}
use Rattle.theory.specs.Partition.{degree}
use Rattle.theory.proofs.Partition.Laws.{without-degree, times_zero}
use Rattle.theory.specs.Digits.{digits, width}
use Rattle.theory.specs.ShapeWord.{shape_of}
use Rattle.theory.proofs.ShapeWord.Words.{empty-word}
use Rattle.theory.proofs.ShapeWord.Laws.{rows-partition}
use Rattle.theory.specs.ClassWord.{class_of}
use Rattle.theory.proofs.ClassWord.Laws.{good-class, parts-no-zero}
use Rattle.theory.proofs.Character.Order.{empty-on-empty}
use Rattle.theory.proofs.Hooks.Bounds.{step-factorial, step-S}
use Rattle.theory.specs.Bounds.{factorial, S}
use Rattle.pages.specs.Line.{Line, line_degree, signed_character, hook_lines}
use Rattle.pages.specs.Line.Hooks.{Has, HookLine, hook-lines, over-hook-lines, hook-line-class}
use Rattle.pages.specs.Line.Hooks.{hook-rule-line}
use Rattle.pages.specs.Line.Weights.{weight_of, sum-within, total-scaled}
use Rattle.pages.specs.Sound.{line_value, line_span}
use Rattle.pages.specs.Sound.Laws.{SoundLine, values, spans}
use Rattle.pages.specs.Sound.Bounds.{weight-counted}
use Rattle.sessions.specs.Step.{empty, settled_hooks, waiting_hooks}

-- a hook line has the empty shape exactly when its degree is 0
pub empty-line : {cycle : ℕ} {l y : Line} → HookLine cycle l y → empty y ≡ (line_degree y =? 0)
empty-line {y = y} h = empty-word y.shape h.good-shape

module _ (n cycle : ℕ) (l : Line) (s : SoundLine n l) (has : Has cycle l) where
  pub cycle-positive : 1 ≤ cycle
  cycle-positive = elim (ℕ_discrete cycle 0) [
    | yes e ↦ absurd (has (rw e (times_zero (parts-no-zero 0 (digits width l.class)))))
    | no f ↦ omega arith
  ]

  -- the class of a hook line has the degree of its shape
  class-degree : (y : Line) → HookLine cycle l y → line_degree y ≡ degree (class_of y.class)
  class-degree y h =
      rw (hook-line-class cycle l s.class has y h).1
      (omega (arith, without-degree cycle (class_of l.class) has, h.lower, s.degrees))

  -- ---- hook lines that wait
  pub each-waiting : Each (λ y. HookLine cycle l y × (not (empty y) ≡ true)) (waiting_hooks cycle l)
  each-waiting = each_keep (λ y. not (empty y)) (HookLine cycle l) (hook_lines cycle l) (hook-lines cycle l)

  pub waiting-sound : Each (SoundLine n) (waiting_hooks cycle l)
  waiting-sound = each_same _ (SoundLine n) (waiting_hooks cycle l) ok each-waiting
    where
      ok : (y : Line) → HookLine cycle l y × (not (empty y) ≡ true) → SoundLine n y
      ok y h = record {
        shape = h.0.good-shape;
        class = (hook-line-class cycle l s.class has y h.0).0;
        degrees = class-degree y h.0;
        some =
            let f = eqb-false (line_degree y) 0 (sym (empty-line h.0) ∙ not-true (empty y) h.1) in
            omega arith;
        within = omega (arith, h.0.lower, s.within);
      }

  -- ---- hook lines that are settled
  Settled : Line → Type 0
  Settled y = HookLine cycle l y × (empty y ≡ true)

  settled-worth : (y : Line) → Settled y → signed_character y ≡ y.weight
  unfolding Settled signed_character
  settled-worth y h =
      let d : line_degree y ≡ 0 = eqb-true (line_degree y) 0 (sym (empty-line h.0) ∙ h.1) in
      let good = good-class y.class (hook-line-class cycle l s.class has y h.0).0 in
      rw (empty-on-empty (shape_of y.shape) (class_of y.class) (rows-partition (digits width y.shape))
      good.partition d (sym (class-degree y h.0) ∙ d))
      (times-one y.weight)

  pub strike-worth : signed_character l
      ≡ sum weight_of (settled_hooks cycle l) +ℤ sum signed_character (waiting_hooks cycle l)
  unfolding Settled
  strike-worth =
      hook-rule-line cycle l s.class has
      ∙ sum-keep empty signed_character (hook_lines cycle l)
      ∙ ap (λ z. z +ℤ sum signed_character (waiting_hooks cycle l))
      (sum_same Settled signed_character weight_of (settled_hooks cycle l) settled-worth
      (each_keep empty (HookLine cycle l) (hook_lines cycle l) (hook-lines cycle l)))

  -- ---- what they count
  hook-values : values (hook_lines cycle l) ≤ line_value l
  hook-values =
      let size : ℕ = nat_abs l.weight in
      let scaled : values (hook_lines cycle l) ≡ size * total (map (λ y. factorial (line_degree y)) (hook_lines cycle l)) =
      ap total
      (map_same (HookLine cycle l) line_value (λ y. size * factorial (line_degree y)) (hook_lines cycle l)
      (λ y h. ap (λ (k : ℕ). k * factorial (line_degree y)) h.same_size) (hook-lines cycle l))
      ∙ total-scaled size (λ y. factorial (line_degree y)) (hook_lines cycle l) in
      rw (scaled, over-hook-lines cycle l factorial)
      (mul-le-mul (le_refl size) (step-factorial cycle l.shape cycle-positive))

  pub strike-value : nat_abs (sum weight_of (settled_hooks cycle l)) + values (waiting_hooks cycle l) ≤ line_value l
  strike-value = omega (
    arith,
    hook-values,
    total-keep empty line_value (hook_lines cycle l),
    sum-within weight_of line_value (settled_hooks cycle l)
        (each_member _ (settled_hooks cycle l) (λ y m. weight-counted y)),
  )

  pub strike-span : 1 + spans (waiting_hooks cycle l) ≤ line_span l
  strike-span = omega (
    arith,
    total-keep empty line_span (hook_lines cycle l),
    over-hook-lines cycle l S,
    step-S cycle l.shape cycle-positive s.some,
  )
