-- The walk over the hooks of a length of a word s, for any values of the words that they leave. The sum so far and what
-- the hooks that are to come count come to the whole sum. The k hooks of length h at degree d leave words of degree
-- d - h, and k (d - h)! is at most d!: a budget that falls by (d - h)! with each keeps the sum so far within 64 bits.
--   counts hook                 what a hook counts, with its sign
--   whole, share                d! and (d - h)!
--   Walk                        what a walk goes by: no value is above d! in size at a word of degree d
--   Walked left so_far          a walk, the hooks `left` still to come
--   NextHook so_far hook left    the next hook of it, and those after it
use Rattle.std.specs.Prelude.{◌≡◌, ◌≤◌, ◌<◌, ◌∷◌, ◌+◌, ◌-◌, ◌*◌, ◌^◌, ◌+ℤ◌}
use Rattle.std.proofs.Common.{sym, ◌∙◌, arith}
use lib.IntN.{+ℤ_idl, +ℤ_idr, +ℤ_assoc}
use Rattle.theory.specs.Basics.{List, [], length, ℕ, ℤ, pos, nat_abs, sum, signed, Each}
use Rattle.theory.specs.Partition.{degree}
use Rattle.theory.specs.ShapeWord.{shape_of}
use Rattle.theory.specs.Hooks.{Hook, hook_words}
use Rattle.theory.specs.Hooks.Words.{Left}
use Rattle.theory.proofs.Hooks.Words.{hooks-leave}
use Rattle.theory.proofs.Hooks.Bounds.{step-factorial}
use Rattle.theory.specs.Bounds.{factorial}
use Rattle.theory.specs.Bounds.Laws.{largest_limit}
use Rattle.theory.proofs.Bounds.Laws.{abs-add, abs-signed}
use Rattle.theory.specs.Refusals.Laws.{Within}
use Rattle.words.proofs.Factorials.{factorial-fits}
use Rattle.pages.proofs.Signed.{carried, carried-is}
use Rattle.characters.specs.Private.Evaluation.{hook_sum}

module _ (value : ℕ → ℤ) (s h : ℕ) where
  abbrev counts : Hook ℕ → ℤ
  counts hook = signed hook.minus (value hook.leaves)

  abbrev whole : ℕ
  whole = factorial (degree (shape_of s))

  abbrev share : ℕ
  share = factorial (degree (shape_of s) - h)

  pub record Walk : Type 0 where
    pub long : 1 ≤ h
    pub within : Within largest_limit s
    pub bounded : (hook : Hook ℕ) → Left h s hook
        → nat_abs (value hook.leaves) ≤ factorial (degree (shape_of hook.leaves))

  pub record Walked (left : List (Hook ℕ)) (so_far : ℤ) : Type 0 where
    pub each : Each (Left h s) left
    pub comes : hook_sum value h s ≡ so_far +ℤ sum counts left
    pub budget : nat_abs so_far + length left * share ≤ whole

  pub record NextHook (so_far : ℤ) (hook : Hook ℕ) (left : List (Hook ℕ)) : Type 0 where
    pub good : Left h s hook
    pub room : nat_abs so_far + nat_abs (carried (value hook.leaves)) < 2 ^ 63
    pub walked : Walked left (carried (so_far +ℤ signed hook.minus (carried (value hook.leaves))))

  pub walk_end : (so_far : ℤ) → Walked [] so_far → so_far ≡ hook_sum value h s
  walk_end so_far w = sym (w.comes ∙ +ℤ_idr so_far)

  module _ (walk : Walk) where
    pub walk_start : Walked (hook_words h s) (pos 0)
    unfolding hook_sum
    walk_start = record {
      each = hooks-leave h s;
      comes = sym (+ℤ_idl _);
      budget = omega (arith, step-factorial h s walk.long);
    }

    pub walk-next : (so_far : ℤ) (hook : Hook ℕ) (left : List (Hook ℕ)) → Walked (hook ∷ left) so_far
        → NextHook so_far hook left
    walk-next so_far hook left w =
        let number : ℤ = value hook.leaves in
        let lower : degree (shape_of hook.leaves) ≡ degree (shape_of s) - h = omega (arith, w.each.0.lower) in
        let bound = rw lower at (walk.bounded hook w.each.0) in
        let grows = abs-add so_far (counts hook) in
        let size = abs-signed hook.minus number in
        let fits = factorial-fits (degree (shape_of s)) walk.within.small in
        let same = carried-is number (omega (arith, w.budget)) in
        record {
          good = w.each.0;
          room = rw same (omega (arith, w.budget));
          walked = rw (same, carried-is (so_far +ℤ counts hook) (omega (arith, w.budget)))
              (record {
                each = w.each.1;
                comes = w.comes ∙ sym (+ℤ_assoc so_far (counts hook) _);
                budget = omega (arith, w.budget);
              });
        }
