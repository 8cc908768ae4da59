-- A walk over the hooks of a page's word x that is struck: those passed stand on the strip or are settled, and those
-- that are to come make the rest of both.
--   made_line x class hook   the hook line of a hook
--   Coming ..               the hook lines that are still to come and what has been done make the whole
--   Stripping ..            the walk, with the hooks `left` still to come
use Rattle.std.specs.Prelude.{◌+◌, ◌+ℤ◌}
use mathlib.Core.Path.{◌≡◌, refl, sym, ◌∙◌, ap}
use Prim.Native.Nat.{◌≤◌}
use native.Mathlib.Omega.{arith}
use lib.IntN.{neg_ℤ-neg_ℤ, +ℤ_idl, +ℤ_idr}
use lib.ListN.{length-map}
use Rattle.theory.specs.Basics.{Bool, true, false, not, List, [], map, length, ℕ}
use Rattle.theory.specs.Basics.{ℤ, pos, nat_abs, keep, sum, signed, Each}
use Rattle.theory.proofs.Basics.Laws.{each_member, map_same}
use Rattle.theory.proofs.Partition.Laws.{without-degree}
use Rattle.theory.specs.Digits.{bit}
use Rattle.theory.specs.ClassWord.{class_of}
use Rattle.theory.specs.Hooks.{Hook, hook_words}
use Rattle.theory.specs.Hooks.Words.{Left}
use Rattle.theory.proofs.Hooks.Words.{hooks-leave}
use Rattle.theory.specs.Bounds.Laws.{largest_limit}
use Rattle.theory.proofs.Bounds.Laws.{abs-add, abs-signed}
use Rattle.words.specs.Answers.{Outcome}
use Rattle.words.proofs.Columns.{Putting, put-start, put_all}
use Rattle.pages.specs.Line.{Line, hook_lines}
use Rattle.pages.specs.Line.Hooks.{hook-lines-few}
use Rattle.pages.specs.Line.Weights.{weight_of}
use Rattle.pages.specs.Page.{line_of, word_of}
use Rattle.pages.specs.Page.{plain}
use Rattle.pages.proofs.Signed.{carried, carried-is, room}
use Rattle.sessions.specs.Step.{empty, settled_hooks, waiting_hooks}
use Rattle.sessions.proofs.Step.Strike.{cycle-positive}
use Rattle.sessions.specs.Private.Striking.{multiplied, Strikes, hook_count, stripped}

abbrev waits : Line → Bool
waits y = not (empty y)

-- ---- hook lines, one after the other
module _ (cycle : ℕ) (l : Line) (lent : List ℕ) where
  pub record Coming (strip : List ℕ) (count : ℕ) (settled : ℤ) (ys : List Line) : Type 0 where
    pub puts : Putting (map word_of (waiting_hooks cycle l)) lent strip count (map word_of (keep waits ys))
    pub counts : count + length (keep waits ys) ≡ length (waiting_hooks cycle l)
    pub settles : settled +ℤ sum weight_of (keep empty ys) ≡ sum weight_of (settled_hooks cycle l)

  written : length (map word_of (waiting_hooks cycle l)) ≡ length (waiting_hooks cycle l)
  written = length-map (waiting_hooks cycle l) word_of

  all-coming : length (waiting_hooks cycle l) ≤ length lent → Coming lent 0 (pos 0) (hook_lines cycle l)
  all-coming room = record { puts = put-start _ lent (rw written room); counts = omega arith; settles = +ℤ_idl _ }

  all_come : (strip : List ℕ) (count : ℕ) (settled : ℤ) → length (waiting_hooks cycle l) ≤ length lent
      → Coming strip count settled [] → Outcome (stripped cycle l lent) (hook_count count settled) strip
  unfolding stripped
  all_come strip count settled room c =
      let counted : count ≡ length (waiting_hooks cycle l) = omega (arith, c.counts) in
      let all : settled ≡ sum weight_of (settled_hooks cycle l) = sym (+ℤ_idr settled) ∙ c.settles in
      record {
        answers = rw (counted, all) refl;
        leaves = rw written at (put_all (map word_of (waiting_hooks cycle l)) lent (rw written room) c.puts refl);
      }

-- ---- the lines that are made
signed-multiplied : (a b : Bool) (z : ℤ) → signed b (signed a z) ≡ signed (multiplied a b) z
signed-multiplied true true z = neg_ℤ-neg_ℤ z
signed-multiplied true false z = refl
signed-multiplied false b z = refl

abbrev made_line : ℕ → ℕ → Hook ℕ → Line
made_line x class hook = plain (multiplied (bit 63 x) hook.minus) hook.leaves class

-- ---- a sum with one sign more
pub one_more : (z : ℤ) (minus : Bool) → nat_abs (z +ℤ signed minus (pos 1)) ≤ nat_abs z + 1
one_more z minus = omega (arith, abs-add z (signed minus (pos 1)), abs-signed minus (pos 1))

pub unit-carried : (minus : Bool) → carried (signed minus (pos 1)) ≡ signed minus (pos 1)
unit-carried minus = carried-is (signed minus (pos 1)) (omega (arith, abs-signed minus (pos 1)))

-- ---- the walk
module _ (cycle x class : ℕ) (lent : List ℕ) where
  abbrev shape : ℕ
  shape = (line_of x).shape

  pub record Stripping (left : List (Hook ℕ)) (strip : List ℕ) (count : ℕ) (settled : ℤ) : Type 0 where
    pub each : Each (Left cycle shape) left
    pub coming : Coming cycle (line_of x) lent strip count settled (map (made_line x class) left)
    pub few : nat_abs settled + length left ≤ largest_limit

  module _ (asked : Strikes largest_limit cycle (line_of x) class lent) where
    pub long : 1 ≤ cycle
    long = cycle-positive largest_limit cycle (line_of x) asked.soundness asked.has

    pub cycle-short : cycle ≤ largest_limit
    cycle-short = omega (
      arith,
      without-degree cycle (class_of (line_of x).class) asked.has,
      asked.soundness.degrees,
      asked.soundness.within,
    )

    made : hook_lines cycle (line_of x) ≡ map (made_line x class) (hook_words cycle shape)
    unfolding hook_lines
    made =
        map_same (λ hook. Unit {0}) _ (made_line x class) (hook_words cycle shape)
        (λ hook u. rw (← asked.class-left, signed-multiplied (bit 63 x) hook.minus (pos 1)))
        (each_member _ (hook_words cycle shape) (λ hook m. tt))

    pub strip-start : Stripping (hook_words cycle shape) lent 0 (pos 0)
    strip-start = record {
      each = hooks-leave cycle shape;
      coming = rw (← made) (all-coming cycle (line_of x) lent asked.room);
      few = omega (
        arith,
        hook-lines-few cycle (line_of x),
        asked.soundness.within,
        ap length made,
        length-map (hook_words cycle shape) (made_line x class),
      );
    }

    module _ (strip : List ℕ) (count : ℕ) (settled : ℤ) where
      pub strip-end : Stripping [] strip count settled
          → Outcome (stripped cycle (line_of x) lent) (hook_count count settled) strip
      strip-end w = all_come cycle (line_of x) lent strip count settled asked.room w.coming
