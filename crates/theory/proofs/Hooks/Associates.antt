-- Associates (document 000, formula 6): the character of the conjugate shape is the class sign times that of the shape,
-- and the class sign is the character of (1^n), the conjugate of one row.
use Rattle.std.specs.Prelude.{◌≡◌, ◌<◌, ◌∷◌, ◌+◌, ◌-ℤ◌, ◌*ℤ◌}
use Rattle.std.proofs.Math.Path.{refl, fun_ext}
use Rattle.std.proofs.Common.{sym, ◌∙◌, ap, ap₂, arith, eq-eqb, ne_eqb}
use Rattle.std.proofs.lemmas.Bool.{false≢true}
use Rattle.std.proofs.Math.IntN.{+ℤ_idr, +ℤ_comm, +ℤ-neg_ℤ_cancel}
use Rattle.theory.specs.Basics.{true, List, [], replicate, ℕ, zero, suc, odd, sum, signed}
use Rattle.theory.specs.Basics.{ℤ, pos}
use Rattle.theory.proofs.Basics.Integers.Products.{times-sums, times-signed, signed-times, times-one}
use Rattle.theory.specs.Partition.{Parts, is_partition, degree, transposed}
use Rattle.theory.specs.Partition.Laws.{NoZero, none, some}
use Rattle.theory.proofs.Partition.Laws.{fall, times-own}
use Rattle.theory.specs.Digits.{Digits, digits, width}
use Rattle.theory.specs.ShapeWord.{shape_digits, rows, shape_of, conjugate_word}
use Rattle.theory.proofs.ShapeWord.Laws.{rows-shape, rows-partition}
use Rattle.theory.proofs.ShapeWord.InFront.{rows-shifted}
use Rattle.theory.proofs.ShapeWord.Conjugate.{flipped, rows-flipped, row-transposed, shape-conjugate}
use Rattle.theory.specs.ClassWord.{class_of}
use Rattle.theory.proofs.ClassWord.Laws.{parts-no-zero}
use Rattle.theory.specs.ClassData.{class_sign}
use Rattle.theory.proofs.ClassData.Laws.{sign-cons}
use Rattle.theory.specs.Character.{trimmed, character, ◌on◌}
use Rattle.theory.specs.Hooks.{Hook, hooks}
use Rattle.theory.proofs.Hooks.Rule.{hook-rule}
use Rattle.theory.proofs.Hooks.Flipped.{together, together-same, hooks-flipped}

-- ---- the first cycle is struck
struck-first : (k : ℕ) (c : Parts) → NoZero c → (ds : Digits)
    → rows ds on (suc k ∷ c) ≡ together (λ es. rows es on c) (hooks (suc k) ds)
struck-first k c n ds =
    rw (eq-eqb (suc k) (suc k) refl)
    at (hook-rule (suc k) (suc k ∷ c) (some n) (λ z. omega (arith, times-own (suc k) c)) ds)
    ∙ together-same _ _ (hooks (suc k) ds) (λ es. ap (λ rs. rs on c) (rows-shifted es))

together-times : (a : ℤ) (f : Digits → ℤ) (hs : List (Hook Digits))
    → together (λ es. a *ℤ f es) hs ≡ a *ℤ together f hs
together-times a f hs = sym (times-sums a (λ hook. signed hook.minus (f hook.leaves)) hs
    ∙ ap (λ g. sum g hs) (fun_ext (λ hook. times-signed hook.minus a _ ∙ signed-times hook.minus a _)))

-- ---- no cycle is left
none_left : (s : Parts) → is_partition s ≡ true → transposed s on [] ≡ class_sign [] *ℤ (s on [])
unfolding character class_sign
none_left [] p = refl
none_left (zero ∷ s) p = absurd (false≢true p)
none_left (suc r ∷ s) p = refl

-- ---- associates
flipped-associate : {c : Parts} → NoZero c → (ds : Digits) → rows (flipped ds) on c ≡ class_sign c *ℤ (rows ds on c)
flipped-associate none ds = rw (rows-flipped ds) (none_left (rows ds) (rows-partition ds))
flipped-associate (some {p = k} {ps = c} n) ds =
    struck-first k c n (flipped ds) ∙ hooks-flipped k (λ es. rows es on c) ds
    ∙ ap (signed (odd k)) (together-same _ _ (hooks (suc k) ds) (flipped-associate n)
    ∙ together-times (class_sign c) (λ es. rows es on c) (hooks (suc k) ds))
    ∙ sym (ap₂ ◌*ℤ◌ (sign-cons k c) (struck-first k c n ds) ∙ signed-times (odd k) _ _)

pub associates : (s c : Parts) → is_partition s ≡ true → NoZero c → transposed s on c ≡ class_sign c *ℤ (s on c)
associates s c p n = rw (rows-flipped (shape_digits s), rows-shape s p) at (flipped-associate n (shape_digits s))

-- on words: a shape word v and a class word w
pub associate-words : (v w : ℕ)
    → shape_of (conjugate_word v) on class_of w ≡ class_sign (class_of w) *ℤ (shape_of v on class_of w)
associate-words v w = rw (shape-conjugate v)
    (associates (shape_of v) (class_of w) (rows-partition (digits width v)) (parts-no-zero 0 (digits width w)))

-- ---- the sign as a character
one-row : {c : Parts} → NoZero c → character c (trimmed (pos (degree c) ∷ [])) ≡ pos 1
unfolding character
one-row none = refl
one-row (some {p = k} {ps = c} n) =
    let d : ℕ = degree c in
    let left : pos (suc k + d) -ℤ pos (suc k) ≡ pos d =
    ap (λ z. z -ℤ pos (suc k)) (+ℤ_comm (pos (suc k)) (pos d)) ∙ +ℤ-neg_ℤ_cancel (pos d) (pos (suc k)) in
    rw (ne_eqb (suc k + d) 0 (λ e. omega arith), left, +ℤ_idr) (one-row n)

-- formula 4: one row has the character 1 on every class
pub formula-4 : (c : Parts) → NoZero c → 0 < degree c → (degree c ∷ []) on c ≡ pos 1
formula-4 c n more = rw (ne_eqb (degree c) 0 (λ e. omega arith)) at (one-row n)

-- formula 5: one column has the class sign
pub sign-character : (c : Parts) → NoZero c → replicate (degree c) 1 on c ≡ class_sign c
sign-character c none = unfold character class_sign in refl
sign-character c (some {p = k} {ps = ps} n) =
    let d : ℕ = degree c in
    rw (row-transposed d, formula-4 c (some n) (omega arith), times-one)
    at (associates (d ∷ []) c (fall d [] (omega arith) (omega arith)) (some n))

pub formula-6 : (s c : Parts) → is_partition s ≡ true → NoZero c
    → transposed s on c ≡ (replicate (degree c) 1 on c) *ℤ (s on c)
formula-6 s c p n = rw (sign-character c n) (associates s c p n)
