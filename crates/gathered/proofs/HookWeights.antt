-- The hook lines of a line, by those of the same line without its coefficient (document 02, P7, "Each hook brings the
-- chosen line's coefficient times its own sign"); and that no two of them are equal, nor one to the line itself.
--   waiting_of cycle l   the hooks of l that do not leave the empty shape
use Rattle.std.specs.Prelude.{◌∷◌, ◌*ℤ◌}
use mathlib.Core.Path.{◌≡◌, refl, sym, ◌∙◌, ap}
use mathlib.Core.Bool.{false≢true}
use mathlib.Core.List.{map-map}
use native.Mathlib.Omega.{arith}
use borrow.Author.Tests.{ne_eqb}
use lib.Signed.{non_neg}
use Rattle.theory.specs.Basics.{Bool, true, false, not, List, [], map, ℕ}
use Rattle.theory.specs.Basics.{pos, nat_abs, signed, ◌=?◌, keep, every, sum, Each}
use Rattle.theory.proofs.Basics.Laws.{each_same, each_member, map_same, sum_same, sum-map}
use Rattle.theory.proofs.Basics.Keep.{each-every, each-kept, keep-map}
use Rattle.theory.proofs.Basics.Integers.Products.{times-sums, times-signed, times-one}
use Rattle.theory.specs.Partition.{without}
use Rattle.theory.proofs.ShapeWord.Good.{good-shape}
use Rattle.theory.specs.ClassWord.{class_of, class_word}
use Rattle.theory.proofs.ClassWord.Laws.{good-class}
use Rattle.theory.specs.Digits.{bit}
use Rattle.theory.proofs.Bounds.Laws.{abs-signed}
use Rattle.theory.specs.Hooks.{Hook, hook_words}
use Rattle.theory.specs.Hooks.Words.{Left}
use Rattle.theory.proofs.Hooks.Words.{hooks-leave}
use Rattle.theory.proofs.Hooks.Apart.{Apart, hooks-apart}
use Rattle.pages.specs.Line.{Line, hook_line, hook_lines}
use Rattle.pages.specs.Line.Hooks.{Has, HookLine, hook-lines, hook-line-class}
use Rattle.pages.specs.Line.Weights.{weight_of}
use Rattle.pages.specs.Page.{line_of, word_of}
use Rattle.pages.specs.Page.Words.{line_read}
use Rattle.pages.specs.Mode.{unit, words_of, weights_of}
use Rattle.pages.specs.Gathering.{lasting, distinct}
use Rattle.pages.specs.Gathering.Different.{Unlike, one_more, different-none, different-keep}
use Rattle.pages.specs.Sound.Laws.{SoundLine}
use Rattle.sessions.specs.Step.{empty, settled_hooks, waiting_hooks}
use Rattle.gathered.specs.Private.Striking.{cleared, turned}

-- ---- by their hooks
module _ (cycle : ℕ) (l : Line) where
  abbrev waiting_of : List (Hook ℕ)
  waiting_of = keep (λ hook. not (hook.leaves =? 0)) (hook_words cycle l.shape)

  abbrev settled_of : List (Hook ℕ)
  settled_of = keep (λ hook. hook.leaves =? 0) (hook_words cycle l.shape)

  waiting-is : waiting_hooks cycle l ≡ map (hook_line cycle l) waiting_of
  unfolding hook_lines
  waiting-is = keep-map (λ h. not (empty h)) (hook_line cycle l) (hook_words cycle l.shape)

  settled_is : settled_hooks cycle l ≡ map (hook_line cycle l) settled_of
  unfolding hook_lines
  settled_is = keep-map empty (hook_line cycle l) (hook_words cycle l.shape)

-- ---- what is settled is settled as often as the coefficient says
pub settled-times : (cycle : ℕ) (l : Line)
    → sum weight_of (settled_hooks cycle l) ≡ l.weight *ℤ sum weight_of (settled_hooks cycle (unit l))
settled-times cycle l =
    let hooks : List (Hook ℕ) = settled_of cycle l in
    let own : sum weight_of (settled_hooks cycle (unit l)) ≡ sum (λ hook. signed hook.minus (pos 1)) hooks =
    ap (sum weight_of) (settled_is cycle (unit l)) ∙ sum-map weight_of (hook_line cycle (unit l)) hooks in
    ap (sum weight_of) (settled_is cycle l)
    ∙ sum-map weight_of (hook_line cycle l) hooks
    ∙ sum_same (λ hook. Unit {0}) _ (λ hook. l.weight *ℤ signed hook.minus (pos 1)) hooks
    (λ hook t. sym (times-signed hook.minus l.weight (pos 1) ∙ times-one (signed hook.minus l.weight)))
    (each_member _ hooks (λ hook m. tt))
    ∙ sym (times-sums l.weight (λ hook. signed hook.minus (pos 1)) hooks)
    ∙ ap (λ z. l.weight *ℤ z) (sym own)

-- ---- what waits
same-signs : (a b : Bool) → signed a (pos 1) ≡ signed b (pos 1) → a ≡ b
same-signs true true e = refl
same-signs true false e = absurd (false≢true (ap non_neg e))
same-signs false true e = absurd (false≢true (sym (ap non_neg e)))
same-signs false false e = refl

cleared-is : (x : ℕ) → cleared x ≡ word_of (unit (line_of x))
cleared-is x = omega arith

module _ {n : ℕ} (cycle : ℕ) (l : Line) (s : SoundLine n l) (has : Has cycle l) where
  abbrev class-left : ℕ
  class-left = class_word (without cycle (class_of l.class))

  -- a hook line without the coefficient is read from its word
  hook-read : (hook : Hook ℕ) → Left cycle l.shape hook
      → line_of (word_of (hook_line cycle (unit l) hook)) ≡ hook_line cycle (unit l) hook
  hook-read hook left =
      let made : HookLine cycle l (hook_line cycle l hook) = record {
        good-shape = left.good;
        lower = left.lower;
        class-word = refl;
        same_size = abs-signed hook.minus l.weight;
      } in
      let class = (good-class class-left (hook-line-class cycle l s.class has
      (hook_line cycle l hook) made).0).below in
      line_read (hook_line cycle (unit l) hook) (record {
        unit = abs-signed hook.minus (pos 1);
        shape-fits = omega (arith, (good-shape hook.leaves left.good).below);
        class-fits = omega arith;
      })

  lefts : Each (Left cycle l.shape) (waiting_of cycle l)
  lefts = each-kept _ (Left cycle l.shape) (hook_words cycle l.shape) (hooks-leave cycle l.shape)

  pub waiting-words : map cleared (map word_of (waiting_hooks cycle (unit l))) ≡ words_of (waiting_hooks cycle l)
  waiting-words =
      let hooks : List (Hook ℕ) = waiting_of cycle l in
      ap (λ (ls : List Line). map cleared (map word_of ls)) (waiting-is cycle (unit l))
      ∙ ap (map cleared) (map-map word_of (hook_line cycle (unit l)) hooks)
      ∙ map-map cleared (λ hook. word_of (hook_line cycle (unit l) hook)) hooks
      ∙ map_same (Left cycle l.shape) _ (λ hook. word_of (unit (hook_line cycle l hook))) hooks
      (λ hook left.
      cleared-is (word_of (hook_line cycle (unit l) hook)) ∙ ap (λ (y : Line). word_of (unit y))
      (hook-read hook left)) lefts
      ∙ sym (ap words_of (waiting-is cycle l) ∙ ap (map word_of) (map-map unit (hook_line cycle l) hooks)
      ∙ map-map word_of (λ hook. unit (hook_line cycle l hook)) hooks)

  pub waiting-weights : map (turned l.weight) (map word_of (waiting_hooks cycle (unit l)))
      ≡ weights_of (waiting_hooks cycle l)
  waiting-weights =
      let hooks : List (Hook ℕ) = waiting_of cycle l in
      ap (λ (ls : List Line). map (turned l.weight) (map word_of ls)) (waiting-is cycle (unit l))
      ∙ ap (map (turned l.weight)) (map-map word_of (hook_line cycle (unit l)) hooks)
      ∙ map-map (turned l.weight) (λ hook. word_of (hook_line cycle (unit l) hook)) hooks
      ∙ map_same (Left cycle l.shape) _ (λ hook. signed hook.minus l.weight) hooks
      (λ hook left. ap (λ (b : Bool). signed b l.weight)
      (same-signs (bit 63 (word_of (hook_line cycle (unit l) hook))) hook.minus
      (ap (λ (y : Line). y.weight) (hook-read hook left)))) lefts
      ∙ sym (ap weights_of (waiting-is cycle l) ∙ map-map (λ (y : Line). y.weight) (hook_line cycle l) hooks)

  -- ---- no two are equal
  different-lines : (hooks : List (Hook ℕ)) → Apart (map (λ hook. hook.leaves) hooks)
      → distinct (map (hook_line cycle l) hooks) ≡ true
  different-lines [] apart = different-none
  different-lines (hook ∷ hooks) apart =
      one_more (hook_line cycle l hook) (map (hook_line cycle l) hooks) (others hooks apart.0)
      (different-lines hooks apart.1)
    where
      others : (more : List (Hook ℕ)) → Each (λ w. hook.leaves ≡ w → ⊥) (map (λ h. h.leaves) more)
          → Each (Unlike (hook_line cycle l hook)) (map (hook_line cycle l) more)
      others [] each = tt
      others (h ∷ more) each = (rw (ne_eqb hook.leaves h.leaves each.0) refl, others more each.1)

  pub different-waiting : distinct (waiting_hooks cycle l) ≡ true
  unfolding hook_lines
  different-waiting =
      different-keep (λ h. not (empty h)) (hook_lines cycle l)
      (different-lines (hook_words cycle l.shape) (hooks-apart cycle l.shape))

  each-hook : Each (HookLine cycle l) (waiting_hooks cycle l)
  each-hook = each-kept _ (HookLine cycle l) (hook_lines cycle l) (hook-lines cycle l)

  -- each has the coefficient's size
  pub waiting-sizes : Each (λ h. nat_abs h.weight ≡ nat_abs l.weight) (waiting_hooks cycle l)
  waiting-sizes = each_same (HookLine cycle l) _ (waiting_hooks cycle l) (λ h p. p.same_size) each-hook

  pub lasting-waiting : lasting l ≡ true → every lasting (waiting_hooks cycle l) ≡ true
  lasting-waiting last = each-every lasting (waiting_hooks cycle l)
      (each_same (HookLine cycle l) _ (waiting_hooks cycle l)
      (λ h p. ap (λ (k : ℕ). not (k =? 0)) p.same_size ∙ last) each-hook)
