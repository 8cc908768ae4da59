-- The two modes agree (document 02, P7): lists of lines that have, line by line, the same sums of signs are worth the
-- same. For lines without any coefficient gather to nothing; and lists with the same sums have no coefficient left if
-- one is taken from the other.
--   SameSums plain joint   each line has one coefficient in both
--   opposite l             the line l with the opposite weight
use Rattle.std.specs.Prelude.{◌≡◌, refl, ◌<◌, ◌∷◌, ◌++◌, ◌+ℤ◌, ◌-ℤ◌}
use Rattle.std.proofs.Common.{sym, ◌∙◌, ap, ap₂, arith}
use Rattle.std.proofs.lemmas.Bool.{false≢true, not-true}
use Rattle.std.proofs.Math.IntN.{+ℤ_idl, +ℤ_idr, +ℤ_comm, +ℤ_invr, +ℤ-neg_ℤ_cancel, neg_ℤ-+ℤ}
use Rattle.theory.specs.Basics.{true, not, List, [], map, length, ℕ, zero, suc, ℤ, pos, neg_ℤ}
use Rattle.theory.specs.Basics.{nat_abs, ◌=?◌, every, sum}
use Rattle.theory.proofs.Basics.AtPlace.{each_at}
use Rattle.theory.proofs.Basics.Laws.{both, sum-append}
use Rattle.theory.proofs.Basics.Integers.{from-difference}
use Rattle.pages.specs.Line.{Line, signed_character}
use Rattle.pages.specs.Page.{line_of, line_at}
use Rattle.pages.specs.Gathering.{alike, weighing, lasting, gather, distinct, gathered, coefficient}
use Rattle.pages.specs.Gathering.Laws.{Weighs, weighs-nothing, sum-gathered, signed-weighs, coefficient-sum}
use Rattle.pages.specs.Gathering.Laws.{weight_for, weight-weighs, coefficient-gathered}
use Rattle.pages.specs.Gathering.Different.{alike_self, alike-back, Unlike, first-unlike, rest-different}
use Rattle.pages.specs.Gathering.Different.{gathered-gather, different-none, coefficient-none}

abbrev pub SameSums : List Line → List Line → Type 0
SameSums plain joint = (k : Line) → coefficient k plain ≡ coefficient k joint

-- gathering from nothing gives the same sums
pub same-sums-gathered : (hs : List Line) → SameSums hs (gather [] hs)
same-sums-gathered hs k = sym (coefficient-gathered k [] hs ∙ +ℤ_idl (coefficient k hs))

-- ---- lines without any coefficient
-- among different lines each has its weight for its coefficient
pub own-coefficient : (l : Line) (lines : List Line) → distinct (l ∷ lines) ≡ true
    → coefficient l (l ∷ lines) ≡ l.weight
own-coefficient l lines d =
    rw (alike_self l)
    (ap (λ z. l.weight +ℤ z) (coefficient-none l lines (first-unlike l lines d)) ∙ +ℤ_idr l.weight)

pub coefficient-at : (lines : List Line) (i : ℕ) → distinct lines ≡ true → i < length lines
    → coefficient (line_at lines i) lines ≡ (line_at lines i).weight
coefficient-at [] i d h = absurd (omega arith)
coefficient-at (l ∷ lines) zero d h = own-coefficient l lines d
coefficient-at (l ∷ lines) (suc i) d h =
    let there : i < length lines = omega arith in
    let u = each_at (Unlike l) lines (line_of 0) i (first-unlike l lines d) there in
    rw (alike-back (line_at lines i) l, not-true (alike l (line_at lines i)) u)
    (coefficient-at lines i (rest-different l lines d) there)

gathered-nothing : (lines : List Line) → gathered lines ≡ true → ((k : Line) → coefficient k lines ≡ pos 0)
    → lines ≡ []
gathered-nothing [] g e = refl
gathered-nothing (l ∷ lines) g e =
    let b = both (distinct (l ∷ lines)) (every lasting (l ∷ lines)) g in
    let none : l.weight ≡ pos 0 = sym (own-coefficient l lines b.0) ∙ e l in
    let lasts = (both (lasting l) (every lasting lines) b.1).0 in
    absurd (false≢true (sym (ap (λ z. not (nat_abs z =? 0)) none) ∙ lasts))

module _ (f : Line → ℤ) (weighs : Weighs f) where
  sum-nothing : (lines : List Line) → ((k : Line) → coefficient k lines ≡ pos 0) → sum f lines ≡ pos 0
  sum-nothing lines e =
      sym (sum-gathered f weighs [] lines ∙ +ℤ_idl (sum f lines))
      ∙ ap (sum f) (gathered-nothing (gather [] lines) (gathered-gather [] lines different-none)
      (λ k. sym (same-sums-gathered lines k) ∙ e k))

-- ---- one list taken from the other
abbrev opposite : Line → Line
opposite l = weighing (neg_ℤ l.weight) l

module _ (f : Line → ℤ) (weighs : Weighs f) where
  weighs-opposite : (l : Line) → f (opposite l) ≡ neg_ℤ (f l)
  weighs-opposite l =
      let none : f (opposite l) +ℤ f l ≡ pos 0 =
      +ℤ_comm (f (opposite l)) (f l) ∙ sym (weighs l.weight (neg_ℤ l.weight) l)
      ∙ ap (λ z. f (weighing z l)) (+ℤ_invr l.weight) ∙ weighs-nothing f weighs l in
      sym (+ℤ-neg_ℤ_cancel (f (opposite l)) (f l)) ∙ ap (λ z. z -ℤ f l) none ∙ +ℤ_idl (neg_ℤ (f l))

  sum-opposite : (lines : List Line) → sum f (map opposite lines) ≡ neg_ℤ (sum f lines)
  sum-opposite [] = refl
  sum-opposite (l ∷ lines) = ap₂ ◌+ℤ◌ (weighs-opposite l) (sum-opposite lines) ∙ sym (neg_ℤ-+ℤ (f l) (sum f lines))

  sum-taken : (ps gs : List Line) → sum f (ps ++ map opposite gs) ≡ sum f ps -ℤ sum f gs
  sum-taken ps gs = sum-append f ps (map opposite gs) ∙ ap (λ z. sum f ps +ℤ z) (sum-opposite gs)

-- lists with the same sums have no coefficient left if one is taken from the other
none_left : (ps gs : List Line) → SameSums ps gs → (k : Line) → coefficient k (ps ++ map opposite gs) ≡ pos 0
none_left ps gs same k =
    let taken : List Line = ps ++ map opposite gs in
    let equal = sym (coefficient-sum k ps) ∙ same k ∙ coefficient-sum k gs in
    coefficient-sum k taken ∙ sum-taken (weight_for k) (weight-weighs k) ps gs
    ∙ ap (λ z. z -ℤ sum (weight_for k) gs) equal ∙ +ℤ_invr (sum (weight_for k) gs)

-- ---- the same sums, the same worth
pub same_sum : (f : Line → ℤ) → Weighs f → (ps gs : List Line) → SameSums ps gs → sum f ps ≡ sum f gs
same_sum f weighs ps gs same =
    from-difference (sum f ps) (sum f gs) (pos 0)
    (sym (sum-taken f weighs ps gs) ∙ sum-nothing f weighs (ps ++ map opposite gs) (none_left ps gs same))
    ∙ +ℤ_idr (sum f gs)

pub same-worth : (ps gs : List Line) → SameSums ps gs → sum signed_character ps ≡ sum signed_character gs
same-worth = same_sum signed_character signed-weighs
