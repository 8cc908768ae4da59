-- Lines that are different stay so (document 02, P7, "equal lines are joined at the earliest"): where one is brought to
-- them, where some are taken out, and where one is chosen and struck out.
--   unlike l m   l and m are not equal; Unlike l m, the same as a type
use Rattle.std.specs.Prelude.{◌≡◌, refl, ◌<◌, ◌∷◌, ◌++◌, ◌+ℤ◌}
use Rattle.std.proofs.Common.{sym, ◌∙◌, ap, arith, eq-eqb}
use Rattle.std.proofs.lemmas.Bool.{not-true}
use Rattle.theory.specs.Basics.{Bool, true, false, not, cond, List, [], length, take, drop, ℕ, zero, suc}
use Rattle.theory.specs.Basics.{pos, keep, every, Each}
use Rattle.theory.proofs.Basics.AtPlace.{each_at}
use Rattle.theory.proofs.Basics.Laws.{both}
use Rattle.theory.proofs.Basics.Keep.{each-others, every-each, each-every, each-kept, every-kept, same_test}
use Rattle.pages.specs.Line.{Line}
use Rattle.pages.specs.Page.{line_of, line_at}
use Rattle.pages.specs.Gathering.{alike, weighing, brought, all_brought, lasting, gather, distinct}
use Rattle.pages.specs.Gathering.{gathered, coefficient}
use Rattle.pages.specs.Gathering.Laws.{alike-weighing, each-brought}

-- ---- equal lines
pub alike_self : (l : Line) → alike l l ≡ true
alike_self l = rw (eq-eqb l.shape l.shape refl, eq-eqb l.class l.class refl)

-- equal lines are equal to the same lines
pub alike-alike : (l m : Line) → alike l m ≡ true → (k : Line) → alike l k ≡ alike m k
alike-alike l m e k = ap (λ x. alike x k) (alike-weighing l m e)

pub alike-back : (l m : Line) → alike l m ≡ alike m l
alike-back l m = same_test (alike l m) (alike m l) (turn l m) (turn m l)
  where
    turn : (k n : Line) → alike k n ≡ true → alike n k ≡ true
    turn k n e = sym (alike-alike k n e k) ∙ alike_self k

-- ---- different lines
abbrev pub unlike : Line → Line → Bool
unlike l m = not (alike l m)

abbrev pub Unlike : Line → Line → Type 0
Unlike l m = unlike l m ≡ true

pub different-none : distinct [] ≡ true
unfolding distinct
different-none = refl

module _ (l : Line) (lines : List Line) where
  pub first-unlike : distinct (l ∷ lines) ≡ true → Each (Unlike l) lines
  unfolding distinct
  first-unlike d = every-each (unlike l) lines (both _ (distinct lines) d).0

  pub rest-different : distinct (l ∷ lines) ≡ true → distinct lines ≡ true
  unfolding distinct
  rest-different d = (both (every (unlike l) lines) (distinct lines) d).1

  pub one_more : Each (Unlike l) lines → distinct lines ≡ true → distinct (l ∷ lines) ≡ true
  unfolding distinct
  one_more e d = rw (each-every (unlike l) lines e) d

pub different-brought : (lines : List Line) (h : Line) → distinct lines ≡ true → distinct (brought lines h) ≡ true
unfolding brought
different-brought [] h d = one_more h [] tt d
different-brought (l ∷ lines) h d = go (alike l h) refl (different-brought lines h (rest-different l lines d))
  where
    added : Line
    added = weighing (l.weight +ℤ h.weight) l

    go : (b : Bool) → alike l h ≡ b → distinct (brought lines h) ≡ true
        → distinct (cond b (added ∷ lines) (l ∷ brought lines h)) ≡ true
    go true e rest = one_more added lines (first-unlike l lines d) (rest-different l lines d)
    go false e rest = one_more l (brought lines h)
        (each-brought (Unlike l) (λ m z u. u) lines h (first-unlike l lines d) (ap not e)) rest

pub different-all-brought : (lines hs : List Line) → distinct lines ≡ true → distinct (all_brought lines hs) ≡ true
unfolding all_brought
different-all-brought lines [] d = d
different-all-brought lines (h ∷ hs) d = different-all-brought (brought lines h) hs (different-brought lines h d)

pub different-keep : (test : Line → Bool) (lines : List Line) → distinct lines ≡ true
    → distinct (keep test lines) ≡ true
different-keep test [] d = d
different-keep test (l ∷ lines) d = go (test l) (different-keep test lines (rest-different l lines d))
  where
    kept : List Line
    kept = keep test lines

    go : (b : Bool) → distinct kept ≡ true → distinct (cond b (l ∷ kept) kept) ≡ true
    go true rest = one_more l kept
        (each-kept test (Unlike l) lines (first-unlike l lines d)) rest
    go false rest = rest

-- lines at different places are unlike
pub unlike-at : (lines : List Line) (i j : ℕ) → distinct lines ≡ true → i < length lines → j < length lines
    → (i ≡ j → ⊥) → Unlike (line_at lines i) (line_at lines j)
unlike-at [] i j d h k n = absurd (omega arith)
unlike-at (l ∷ lines) zero zero d h k n = absurd (n refl)
unlike-at (l ∷ lines) zero (suc j) d h k n =
    each_at (Unlike l) lines (line_of 0) j (first-unlike l lines d) (omega arith)
unlike-at (l ∷ lines) (suc i) zero d h k n =
    rw (alike-back (line_at lines i) l)
    (each_at (Unlike l) lines (line_of 0) i (first-unlike l lines d) (omega arith))
unlike-at (l ∷ lines) (suc i) (suc j) d h k n =
    unlike-at lines i j (rest-different l lines d) (omega arith) (omega arith) (λ e. n (ap suc e))

-- ---- coefficients
-- equal lines have one coefficient
pub coefficient-alike : (k l : Line) → alike k l ≡ true → (lines : List Line)
    → coefficient k lines ≡ coefficient l lines
coefficient-alike k l e lines = ap (λ m. coefficient m lines) (alike-weighing k l e)

-- what is unlike all of some lines has no coefficient in them
pub coefficient-none : (k : Line) (lines : List Line) → Each (Unlike k) lines → coefficient k lines ≡ pos 0
coefficient-none k [] e = refl
coefficient-none k (l ∷ lines) e = rw (not-true (alike k l) e.0) (coefficient-none k lines e.1)

-- joining keeps lines different, and what stays weighs something
pub gathered-gather : (lines hs : List Line) → distinct lines ≡ true → gathered (gather lines hs) ≡ true
gathered-gather lines hs d =
    let all : List Line = all_brought lines hs in
    rw (different-keep lasting all (different-all-brought lines hs d), every-kept lasting all)

pub gathered_none : gathered [] ≡ true
gathered_none = rw different-none

-- ---- a line is struck out
pub different-others : (lines : List Line) (i : ℕ) → distinct lines ≡ true
    → distinct (take i lines ++ drop (suc i) lines) ≡ true
different-others [] zero d = d
different-others [] (suc i) d = d
different-others (l ∷ lines) zero d = rest-different l lines d
different-others (l ∷ lines) (suc i) d = one_more l (take i lines ++ drop (suc i) lines)
    (each-others (Unlike l) lines i (first-unlike l lines d)) (different-others lines i (rest-different l lines d))
