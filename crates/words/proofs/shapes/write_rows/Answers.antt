-- A zero is the next row, as long as there are ones left, and a one makes those that follow shorter.
use Rattle.std.specs.Prelude.{◌≡◌, ◌∷◌, ◌-◌, ◌/◌, ◌%◌, ◌^◌, ◌<◌, ◌≤◌}
use Rattle.std.proofs.Common.{refl, sym, ap, ◌∙◌, arith}
use Rattle.std.specs.Int.Count.{count_trailing_zeros}
use lib.Count
use Rattle.theory.specs.Basics.{true, false, [], ℕ, zero, suc, length}
use Rattle.theory.specs.Digits.{digits, ones}
use Rattle.theory.proofs.Digits.Laws.{digits-rest}
use Rattle.theory.proofs.Digits.LastOne.{ones-append}
use Rattle.theory.proofs.Digits.Low.{digits_last, low-zero, low-one, lowest-digit, trailing-multiple}
use Rattle.theory.specs.ShapeWord.{rows}
use Rattle.theory.proofs.ShapeWord.Laws.{rows-zero}
use Rattle.theory.proofs.ShapeWord.Reading.{ones-digits}
use Rattle.theory.proofs.ShapeWord.Counts.{rows-of-zero}
use Rattle.words.proofs.Columns.{put-start, put_next, put_all}
use Rattle.words.proofs.shapes.write_rows.Goals as goal

-- more digits than there are trailing zeros have a one
some-one : (m n x : ℕ) → count_trailing_zeros m x < n → n ≤ m → 0 < ones (digits n x)
some-one m zero x h l = absurd (omega arith)
some-one zero (suc n) x h l = absurd (omega arith)
some-one (suc m) (suc n) x h l = elim (lowest-digit m x) [
  | low-zero e d t ↦
      rw (digits_last n x, ones-append) (omega (arith, some-one m n (x / 2) (omega arith) (omega arith)))
  | low-one e d t ↦ rw (digits_last n x, ones-append, e) (omega arith)
]

zero-first : (n x : ℕ) → x / 2 ^ n % 2 ≡ 0 → digits (suc n) x ≡ false ∷ digits n x
unfolding digits
zero-first n x z = rw z refl

one-first : (n x : ℕ) → x / 2 ^ n % 2 ≡ 1 → digits (suc n) x ≡ true ∷ digits n x
unfolding digits
one-first n x e = rw e refl

-- the first of the digits left is a zero, and so a row, or a one
module _ (x left : ℕ) (more : count_trailing_zeros 32 x < left) (within : left ≤ 31) where
  whole : left ≡ suc (left - 1)
  whole = omega arith

  zero-digit : x / 2 ^ (left - 1) % 2 ≡ 0 → digits left x ≡ false ∷ digits (left - 1) x
  zero-digit z = ap (λ n. digits n x) whole ∙ zero-first (left - 1) x z

  one-digit : (x / 2 ^ (left - 1) % 2 ≡ 0 → ⊥) → digits left x ≡ true ∷ digits (left - 1) x
  one-digit n = ap (λ n. digits n x) whole ∙ one-first (left - 1) x (omega arith)

  zero-ones : x / 2 ^ (left - 1) % 2 ≡ 0 → ones (digits left x) ≡ ones (digits (left - 1) x)
  zero-ones z = ap ones (zero-digit z)

  zero-row : x / 2 ^ (left - 1) % 2 ≡ 0 → rows (digits left x) ≡ ones (digits left x) ∷ rows (digits (left - 1) x)
  zero-row z =
      let some : 0 < ones (digits (left - 1) x) = omega (arith, some-one 32 left x more (omega arith), zero-ones z) in
      rw (zero-digit z) (rows-zero (digits (left - 1) x) some)

  one-ones : (x / 2 ^ (left - 1) % 2 ≡ 0 → ⊥) → ones (digits left x) ≡ suc (ones (digits (left - 1) x))
  one-ones n = ap ones (one-digit n)

  one-row : (x / 2 ^ (left - 1) % 2 ≡ 0 → ⊥) → rows (digits left x) ≡ rows (digits (left - 1) x)
  one-row n = ap rows (one-digit n)

no-rows : (x left : ℕ) → left ≤ count_trailing_zeros 32 x → rows (digits left x) ≡ []
no-rows x left l =
    ap rows (sym (digits-rest left x) ∙ ap (digits left) (trailing-multiple 32 left x l)) ∙ rows-of-zero left

pub loop-left-init : goal.loop-left-init
loop-left-init c =
    let w = c.args.word in
    let p = c.requires in
    (sym (ones-digits 31 w p.0), Count.ones-le 31 w p.0, put-start _ _ p.1)

pub bounds-column-i : goal.bounds-column-i
bounds-column-i c =
    let row = zero-row c.args.word c.loop-left.left c.loop-left-test.true c.loop-left.auto.left c.if-word-left-eq0.true in
    omega (arith, ap length row, c.loop-left.invariant.2.room)

pub loop-left-preserved-then-word-left-eq0 : goal.loop-left-preserved-then-word-left-eq0
loop-left-preserved-then-word-left-eq0 c =
    let w : ℕ = c.args.word in
    let l = c.loop-left in
    let v = l.invariant in
    let z = c.if-word-left-eq0.true in
    let row = rw (← v.0) at (zero-row w l.left c.loop-left-test.true l.auto.left z) in
    (v.0 ∙ zero-ones w l.left c.loop-left-test.true l.auto.left z, v.1, put_next _ _ v.2 row)

pub overflow_sub-length : goal.overflow_sub-length
overflow_sub-length c =
    omega (arith, one-ones c.args.word c.loop-left.left c.loop-left-test.true c.loop-left.auto.left c.if-word-left-eq0.false)

pub loop-left-preserved : goal.loop-left-preserved
loop-left-preserved c =
    let w : ℕ = c.args.word in
    let l = c.loop-left in
    let v = l.invariant in
    let n = c.if-word-left-eq0.false in
    let o = one-ones w l.left c.loop-left-test.true l.auto.left n in
    (omega arith, omega arith, rw (one-row w l.left c.loop-left-test.true l.auto.left n) at v.2)

pub returns : goal.returns
returns c = put_all _ _ c.requires.1 c.loop-left.invariant.2 (no-rows c.args.word c.loop-left.left c.loop-left-test.false)
