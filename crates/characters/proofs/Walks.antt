-- The hook walk and the value: a shape word and a class that can be evaluated, struck by one cycle.
--   FirstCycle s w z   the value of the shape word s on the class word w strikes the cycle z first
--   Asked hook         what a hook leaves can be evaluated on the class without its longest cycle
use Rattle.std.specs.Prelude.{◌∷◌, ◌^◌}
use mathlib.Core.Path.{◌≡◌, refl, sym, ◌∙◌, ap}
use Prim.Native.Nat.{◌≤◌, ◌<◌}
use native.Mathlib.Nat.{lt_of_le_of_lt}
use native.Mathlib.Omega.{arith}
use lib.Count.{count_leading_zeros}
use Rattle.theory.specs.Basics.{List, [], ℕ, ℤ, pos, nat_abs}
use Rattle.theory.specs.Partition.{Parts, degree}
use Rattle.theory.specs.Partition.Laws.{NoZero, some}
use Rattle.theory.specs.Digits.{digits, width}
use Rattle.theory.specs.ShapeWord.{shape_of}
use Rattle.theory.proofs.ShapeWord.Good.{good-shape}
use Rattle.theory.proofs.ShapeWord.Laws.{rows-partition}
use Rattle.theory.specs.ClassWord.{class_of}
use Rattle.theory.specs.Character.{◌on◌}
use Rattle.theory.proofs.Character.Order.{empty-on-empty}
use Rattle.theory.specs.Hooks.{Hook, hook_words}
use Rattle.theory.specs.Hooks.Words.{Left}
use Rattle.theory.proofs.Hooks.Words.{hook-rule-first}
use Rattle.theory.specs.Bounds.{factorial}
use Rattle.theory.proofs.Hooks.Bounds.{word-bounded}
use Rattle.theory.specs.Bounds.Laws.{largest_limit}
use Rattle.theory.specs.Refusals.Laws.{Within}
use Rattle.words.proofs.Factorials.{factorial-fits}
use Rattle.pages.proofs.Signed.{carried, carried-is}
use Rattle.characters.specs.Private.Evaluation.{Evaluable, hook_sum}
use Rattle.characters.specs.Private.SmallTables.{table_limit, RowOf, cycles_left}
use Rattle.characters.proofs.HookSums.{Walk, Walked, NextHook, walk_start, walk-next, walk_end}
use Rattle.characters.proofs.SmallWords.{others, Struck, struck-cycle}

-- ---- what can be evaluated
module _ {limit s : ℕ} {cs : Parts} (e : Evaluable limit s cs) where
  pub shape-within : Within limit s
  shape-within = record { good = good-shape s e.good; small = omega (arith, e.degrees, e.small) }

  pub widened : limit ≤ largest_limit → Evaluable largest_limit s cs
  widened room = record { good = e.good; no_zero = e.no_zero; degrees = e.degrees; small = omega (arith, e.small) }

  pub character-bounded : nat_abs (shape_of s on cs) ≤ factorial (degree (shape_of s))
  character-bounded = rw e.degrees (word-bounded s cs e.no_zero e.degrees)

-- its character has room in 64 bits
pub character-carried : {s : ℕ} {cs : Parts} → Evaluable largest_limit s cs → carried (shape_of s on cs) ≡ shape_of s on cs
character-carried {s} {cs} e =
    carried-is (shape_of s on cs)
    (lt_of_le_of_lt (character-bounded e) (factorial-fits (degree (shape_of s)) (shape-within e).small))

-- ---- one cycle struck
positive : {p : ℕ} {ps : Parts} → NoZero (p ∷ ps) → 1 ≤ p
positive (some n) = omega arith

behind : {p : ℕ} {ps : Parts} → NoZero (p ∷ ps) → NoZero ps
behind (some n) = n

module _ {limit s h : ℕ} {cs : Parts} (e : Evaluable limit s (h ∷ cs)) where
  pub cycle-long : 1 ≤ h
  cycle-long = positive e.no_zero

  module _ (hook : Hook ℕ) (l : Left h s hook) where
    pub evaluable-left : Evaluable limit hook.leaves cs
    evaluable-left = record {
      good = l.good;
      no_zero = behind e.no_zero;
      degrees = omega (arith, e.degrees);
      small = omega (arith, e.small);
    }

    pub degree-falls : degree (shape_of hook.leaves) < degree (shape_of s)
    degree-falls = omega (arith, cycle-long)

  pub hook-rule-holds : hook_sum (λ t. shape_of t on cs) h s ≡ shape_of s on (h ∷ cs)
  unfolding hook_sum
  hook-rule-holds = sym (hook-rule-first h cs e.no_zero s)

pub walk : {s h : ℕ} {cs : Parts} → Evaluable largest_limit s (h ∷ cs) → Walk (λ t. shape_of t on cs) s h
walk e = record {
  long = cycle-long e;
  within = shape-within e;
  bounded = λ hook l. character-bounded (evaluable-left e hook l);
}

-- ---- the value
-- the empty shape on the empty class
pub value_none : {limit s : ℕ} → Evaluable limit s [] → shape_of s on [] ≡ pos 1
value_none {limit} {s} e =
    empty-on-empty (shape_of s) [] (rows-partition (digits width s)) refl e.degrees refl

-- the longest cycle of a class above degree 4 is struck
pub record FirstCycle (s w z : ℕ) : Type 0 where
  pub struck : Struck w z
  pub evaluable : Evaluable largest_limit s (z ∷ class_of (others w z))
  pub same : shape_of s on class_of w ≡ shape_of s on (z ∷ class_of (others w z))

pub first-cycle : (s w : ℕ) → w < 2 ^ width → Evaluable largest_limit s (class_of w) → table_limit < degree (class_of w)
    → FirstCycle s w (count_leading_zeros 32 w)
first-cycle s w l e more =
    let struck = struck-cycle w l more in
    record {
      struck = struck;
      evaluable = rw struck.reads at e;
      same = ap (λ (cs : Parts). shape_of s on cs) struck.reads;
    }

-- the walk over the hooks that are as long as the longest cycle
module _ {s w : ℕ} (below : w < 2 ^ width) (e : Evaluable largest_limit s (class_of w))
    (more : table_limit < degree (class_of w)) where
  abbrev longest : ℕ
  longest = count_leading_zeros 32 w

  abbrev value-left : ℕ → ℤ
  value-left t = shape_of t on class_of (others w longest)

  first : FirstCycle s w longest
  first = first-cycle s w below e more

  pub first-bits : longest < 32
  first-bits = first.struck.bits

  pub hooks-start : (hooks : List (Hook ℕ)) → (0 < longest → s < 2 ^ width → hooks ≡ hook_words longest s)
      → Walked value-left s longest hooks (pos 0)
  hooks-start hooks all =
      rw (all (cycle-long first.evaluable) (omega (arith, (shape-within e).good.below)))
      (walk_start value-left s longest (walk first.evaluable))

  pub hooks-next : {hooks left : List (Hook ℕ)} {hook : Hook ℕ} {so_far : ℤ} → hooks ≡ hook ∷ left
      → Walked value-left s longest hooks so_far → NextHook value-left s longest so_far hook left
  hooks-next {hooks} {left} {hook} {so_far} is w =
      walk-next value-left s longest (walk first.evaluable) so_far hook left (rw is at w)

  pub hooks-end : {hooks : List (Hook ℕ)} {so_far : ℤ} → hooks ≡ []
      → Walked value-left s longest hooks so_far → so_far ≡ shape_of s on class_of w
  hooks-end {hooks} {so_far} none w =
      walk_end value-left s longest so_far (rw none at w) ∙ hook-rule-holds first.evaluable ∙ sym first.same

  pub record Asked (hook : Hook ℕ) : Type 0 where
    pub falls : degree (shape_of hook.leaves) < degree (shape_of s)
    pub fits : others w longest < 2 ^ width
    pub evaluable : Evaluable largest_limit hook.leaves (class_of (others w longest))

  pub hook-asked : {hook : Hook ℕ} → Left longest s hook → Asked hook
  hook-asked {hook} l = record {
    falls = degree-falls first.evaluable hook l;
    fits = first.struck.below;
    evaluable = evaluable-left first.evaluable hook l;
  }

  pub row-kept : {row : List ℤ} → RowOf row (cycles_left (class_of w))
      → RowOf row (cycles_left (class_of (others w longest)))
  row-kept {row} of-row = rw first.struck.left at of-row
