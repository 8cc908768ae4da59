-- The conjugate interchanges rows and columns; taken twice it is the shape again (document 01, "Conjugate").
--   flipped ds     the digits in reverse order and complemented; conjugate ds is flipped (up_to_last_one ds)
--   all_rows ds     as rows ds, and a zero without a one after it is a row too, of length 0
--   columns i n ps   the n columns from column i; transposed ps is columns 1 (first ps) ps
use Rattle.std.specs.Prelude.{◌≡◌, refl, ◌≤◌, ◌<◌, ◌∷◌, ◌++◌, ◌+◌, ◌^◌}
use Rattle.std.proofs.Common.{sym, ◌∙◌, ap, ap₂, ⊎_elim, arith, pow_pos, le-leb}
use Rattle.std.proofs.Math.Bool.{not-not}
use mathlib.Core.List.{reverse-cons, reverse-append, map-append}
use Rattle.std.proofs.lemmas.List.{length-map, length-reverse}
use Rattle.std.proofs.lemmas.Bool.{lt-leb}
use Rattle.theory.specs.Basics.{Bool, true, false, not, [], map, reverse, ℕ, zero, suc}
use Rattle.theory.specs.Basics.{length, replicate, ◌≤?◌, count, up_from}
use Rattle.theory.proofs.Basics.Laws.{count-append, up-from-one}
use Rattle.theory.specs.Partition.{Parts, first, is_partition, degree, transposed}
use Rattle.theory.proofs.Partition.Laws.{front}
use Rattle.theory.specs.Digits.{Digits, digits, word, ones, zeros, up_to_last_one, width}
use Rattle.theory.proofs.Digits.Laws.{digits-word, digits-zero, word-digits, word_below, length_digits}
use Rattle.theory.proofs.Digits.LastOne.{LastOne, none, some, last, last_one, last-zero, last-filled}
use Rattle.theory.proofs.Digits.LastOne.{ends-one, ones-last, length_last, word-last, ones-append}
use Rattle.theory.specs.ShapeWord.{rows, pairs, conjugate, shape_of, conjugate_word, shape_width, good_shape}
use Rattle.theory.proofs.ShapeWord.Good.{good-shape, shape-good}
use Rattle.theory.proofs.ShapeWord.Laws.{rows_none, rows-zero, rows_last, rows-filled, first_rows}
use Rattle.theory.proofs.ShapeWord.Laws.{rows-partition, degree-pairs, row-cases}
use Rattle.theory.proofs.ShapeWord.InFront.{good-kept, one-good-word}

-- ---- flipped digits
abbrev pub flipped : Digits → Digits
flipped ds = map not (reverse ds)

pub flipped-front : (d : Bool) (ds : Digits) → flipped (d ∷ ds) ≡ flipped ds ++ (not d ∷ [])
flipped-front d ds = ap (map not) (reverse-cons d ds) ∙ map-append not (reverse ds) (d ∷ [])

pub flipped-end : (ds : Digits) (d : Bool) → flipped (ds ++ (d ∷ [])) ≡ not d ∷ flipped ds
flipped-end ds d = ap (map not) (reverse-append ds (d ∷ []))

pub flipped-twice : (ds : Digits) → flipped (flipped ds) ≡ ds
flipped-twice [] = refl
flipped-twice (d ∷ ds) = ap flipped (flipped-front d ds) ∙ flipped-end (flipped ds) (not d)
    ∙ ap₂ (λ (e : Bool) (es : Digits). e ∷ es) (not-not d) (flipped-twice ds)

pub length-flipped : (ds : Digits) → length (flipped ds) ≡ length ds
length-flipped ds = length-map (reverse ds) not ∙ length-reverse ds

-- ---- a digit at the end
abbrev all_rows : Digits → Parts
all_rows [] = []
all_rows (true ∷ ds) = all_rows ds
all_rows (false ∷ ds) = ones ds ∷ all_rows ds

-- with a one at the end every zero is a row
rows_all : (ds : Digits) → rows (ds ++ (true ∷ [])) ≡ all_rows (ds ++ (true ∷ []))
rows_all [] = refl
rows_all (true ∷ ds) = rows_all ds
rows_all (false ∷ ds) =
    let es = ds ++ (true ∷ []) in
    rows-zero es (omega (arith, ones-append ds (true ∷ []))) ∙ ap (λ (rs : Parts). ones es ∷ rs) (rows_all ds)

all_one : (ds : Digits) → all_rows (ds ++ (true ∷ [])) ≡ map suc (all_rows ds)
all_one [] = refl
all_one (true ∷ ds) = all_one ds
all_one (false ∷ ds) =
    let e : ones (ds ++ (true ∷ [])) ≡ suc (ones ds) = omega (arith, ones-append ds (true ∷ [])) in
    rw (e, all_one ds)

all-zero : (ds : Digits) → all_rows (ds ++ (false ∷ [])) ≡ all_rows ds ++ (0 ∷ [])
all-zero [] = refl
all-zero (true ∷ ds) = all-zero ds
all-zero (false ∷ ds) =
    let e : ones (ds ++ (false ∷ [])) ≡ ones ds = omega (arith, ones-append ds (false ∷ [])) in
    rw (e, all-zero ds)

-- ---- columns
abbrev columns : ℕ → ℕ → Parts → Parts
columns i n ps = map (λ j. count (j ≤?◌) ps) (up_from i n)

columns-last : (n : ℕ) (ps : Parts) → columns 1 (suc n) ps ≡ columns 1 n ps ++ (count (suc n ≤?◌) ps ∷ [])
columns-last n ps =
    let c : ℕ → ℕ = λ j. count (j ≤?◌) ps in
    ap (map c) (up-from-one n) ∙ map-append c (up_from 1 n) (suc n ∷ [])

-- a row in front lengthens the columns that it reaches
columns-row : (i n r : ℕ) (ps : Parts) → i + n ≤ suc r → columns i n (r ∷ ps) ≡ map suc (columns i n ps)
columns-row i zero r ps l = refl
columns-row i (suc n) r ps l = rw (le-leb i r (omega arith), columns-row (suc i) n r ps (omega arith))

-- no column beyond the first row
no-column : (j : ℕ) (ps : Parts) → is_partition ps ≡ true → first ps < j → count (j ≤?◌) ps ≡ 0
no-column j [] e l = refl
no-column j (p ∷ ps) e l = let f = front p ps e in rw (lt-leb j p l) (no-column j ps f.rest (omega arith))

-- one row has columns of length 1
pub row-transposed : (n : ℕ) → transposed (n ∷ []) ≡ replicate n 1
row-transposed n = go 1 n (omega arith)
  where
    go : (i m : ℕ) → i + m ≤ suc n → columns i m (n ∷ []) ≡ replicate m 1
    go i zero l = refl
    go i (suc m) l = rw (le-leb i n (omega arith)) (ap (λ (ps : Parts). 1 ∷ ps) (go (suc i) m (omega arith)))

-- ---- rows of the conjugate
first-row : (ds : Digits) → first (rows (false ∷ ds)) ≡ ones ds
first-row ds = row-cases (λ rs. first rs ≡ ones ds) ds (λ e. sym e) (λ h. refl)

columns-flipped : (ds : Digits) → all_rows (flipped ds) ≡ columns 1 (ones ds) (rows ds)
columns-flipped [] = refl
columns-flipped (true ∷ ds) =
    let e = no-column (suc (ones ds)) (rows ds) (rows-partition ds) (omega (arith, first_rows ds)) in
    rw (flipped-front true ds, all-zero (flipped ds), columns-flipped ds)
    (sym (rw e at (columns-last (ones ds) (rows ds))))
columns-flipped (false ∷ ds) = rw (flipped-front false ds, all_one (flipped ds), columns-flipped ds)
    (row-cases (λ rs. map suc (columns 1 (ones ds) (rows ds)) ≡ columns 1 (ones ds) rs) ds
    (λ e. rw e refl)
    (λ h. sym (columns-row 1 (ones ds) (ones ds) (rows ds) (omega arith))))

rows_end : (ds : Digits) → rows (ds ++ (false ∷ [])) ≡ rows ds
rows_end ds = sym (rows_last (last (ds ++ (false ∷ [])))) ∙ ap rows (last-zero ds) ∙ rows_last (last ds)

-- whatever zeros are behind the last one, flipped digits have the columns as rows
pub rows-flipped : (ds : Digits) → rows (flipped ds) ≡ transposed (rows ds)
rows-flipped [] = refl
rows-flipped (true ∷ ds) = rw (flipped-front true ds, rows_end (flipped ds)) (rows-flipped ds)
rows-flipped (false ∷ ds) =
    let f = flipped-front false ds in
    rw (f, rows_all (flipped ds), ← f, columns-flipped (false ∷ ds), first-row ds)

pub rows-conjugate : (ds : Digits) → rows (conjugate ds) ≡ transposed (rows ds)
rows-conjugate ds = rows-flipped (up_to_last_one ds) ∙ ap transposed (rows_last (last ds))

-- ---- its degree
pub zeros-flipped : (ds : Digits) → zeros (flipped ds) ≡ ones ds
zeros-flipped [] = refl
zeros-flipped (d ∷ ds) = rw (flipped-front d ds, count-append not (flipped ds) (not d ∷ []), zeros-flipped ds) (go d)
  where
    go : (d : Bool) → ones ds + zeros (not d ∷ []) ≡ ones (d ∷ ds)
    go true = omega arith
    go false = omega arith

pairs-one : (ds : Digits) → pairs (ds ++ (true ∷ [])) ≡ zeros ds + pairs ds
pairs-one [] = refl
pairs-one (true ∷ ds) = pairs-one ds
pairs-one (false ∷ ds) = omega (arith, pairs-one ds, ones-append ds (true ∷ []))

pub degree-conjugate : (ds : Digits) → degree (rows (conjugate ds)) ≡ degree (rows ds)
degree-conjugate ds = go (last ds)
  where
    go : {ds us : Digits} → LastOne ds us → degree (rows (flipped us)) ≡ degree (rows ds)
    go (none {ds = ds} e) = rw (rows_none ds e)
    go (some {d = true} {us = us} h u) = rw (flipped-front true us, rows_end (flipped us)) (go u)
    go (some {d = false} {ds = ds} {us = us} h u) =
        rw (flipped-front false us, ← degree-pairs (flipped us ++ (true ∷ [])), pairs-one (flipped us), rows-zero ds h)
        (omega (arith, zeros-flipped us, ones-last u, degree-pairs (flipped us), go u))

-- ---- twice, and as words
pub conjugate-twice : (ds : Digits) → conjugate (conjugate (false ∷ ds)) ≡ up_to_last_one (false ∷ ds)
conjugate-twice ds = go (last (false ∷ ds))
  where
    go : {us : Digits} → LastOne (false ∷ ds) us → flipped (up_to_last_one (flipped us)) ≡ us
    go (none e) = refl
    go (some {us = us} h u) =
        rw (flipped-front false us, last_one (flipped us), ← flipped-front false us) (flipped-twice (false ∷ us))

-- the last one gives a zero in front
pub word-conjugate : (n : ℕ) (ds : Digits) → word (suc n) (conjugate ds) < 2 ^ n
unfolding word
word-conjugate n ds = ⊎_elim
    (λ e. rw e (pow_pos n))
    (λ v. rw (v.1, flipped-end v.0 true) (word_below n (flipped v.0)))
    (ends-one (last ds))

conjugate-room : (n x : ℕ) → length (up_to_last_one (conjugate (digits n x))) ≤ n
conjugate-room n x =
    let us = up_to_last_one (digits n x) in
    omega (
      arith,
      length_last (last (flipped us)),
      length-flipped us,
      length_last (last (digits n x)),
      length_digits n x,
    )

pub rows-conjugated : (n x : ℕ) → rows (digits n (word n (conjugate (digits n x)))) ≡ transposed (rows (digits n x))
rows-conjugated n x =
    let ds = digits n x in
    ap rows (digits-word n (conjugate ds)) ∙ rows-filled n (conjugate ds) (conjugate-room n x) ∙ rows-conjugate ds

pub conjugated-twice : (n x : ℕ) → x < 2 ^ n
    → word (suc n) (conjugate (digits (suc n) (word (suc n) (conjugate (digits (suc n) x))))) ≡ x
unfolding word
conjugated-twice n x h =
    let ds = digits (suc n) x in
    ap (λ (es : Digits). word (suc n) (conjugate es)) (digits-word (suc n) (conjugate ds))
    ∙ ap (λ (us : Digits). word (suc n) (flipped us)) (last-filled (suc n) (conjugate ds) (conjugate-room (suc n) x))
    ∙ rw (digits-zero n x h, conjugate-twice (digits n x), word-last (suc n) (false ∷ digits n x)) (word-digits n x h)

-- ---- at the width
pub shape-conjugate : (w : ℕ) → shape_of (conjugate_word w) ≡ transposed (shape_of w)
shape-conjugate w = rows-conjugated width w

pub degree-conjugate-word : (w : ℕ) → degree (shape_of (conjugate_word w)) ≡ degree (shape_of w)
degree-conjugate-word w =
    let ds = digits width w in
    ap degree (shape-conjugate w ∙ sym (rows-conjugate ds)) ∙ degree-conjugate ds

pub conjugate-good : (w : ℕ) → good_shape (conjugate_word w) ≡ true
conjugate-good w = shape-good (record { below = word-conjugate shape_width (digits width w) })

-- words of one shape have one conjugate
pub one-conjugate : (v w : ℕ) → shape_of v ≡ shape_of w → conjugate_word v ≡ conjugate_word w
one-conjugate v w e =
    sym (good-kept (conjugate_word v) (conjugate-good v))
    ∙ one-good-word (conjugate_word v) (conjugate_word w)
    (shape-conjugate v ∙ ap transposed e ∙ sym (shape-conjugate w))
    ∙ good-kept (conjugate_word w) (conjugate-good w)

pub conjugate-word-twice : (w : ℕ) → good_shape w ≡ true → conjugate_word (conjugate_word w) ≡ w
conjugate-word-twice w g = conjugated-twice shape_width w (good-shape w g).below
