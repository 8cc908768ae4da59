-- Pieces that a byte sets apart, and a list that is read back from its text.
use Rattle.std.specs.Prelude.{◌≡◌, refl, ◌<◌, ◌∷◌, ◌++◌, ◌^◌}
use Rattle.std.proofs.Common.{◌∙◌, ap, append_assoc, append-nil, arith, eq-eqb, lt-ltb}
use Rattle.theory.specs.Basics.{List, [], map, ℕ, ◌<?◌, keep, Each}
use Rattle.theory.proofs.Basics.Laws.{each_append}
use Rattle.text.specs.Text.{Text, decimal, commas, list_text}
use Rattle.textreading.specs.Reading.{number_in, pieces, list_in}
use Rattle.textreading.specs.Reading.Bytes.{Without, without, decimal-within}
use Rattle.textreading.specs.Reading.Numbers.{Silent, number-silent, number-back}

-- ---- pieces
pub piece-first : (b : ℕ) (t u : Text) → Without b t → pieces b (t ++ b ∷ u) ≡ t ∷ pieces b u
piece-first b [] u w = rw (eq-eqb b b refl)
piece-first b (x ∷ t) u w = rw (w.0, piece-first b t u w.1)

pub piece-last : (b : ℕ) (t : Text) → Without b t → pieces b t ≡ t ∷ []
piece-last b [] w = refl
piece-last b (x ∷ t) w = rw (w.0, piece-last b t w.1)

-- ---- a list of numbers, none 0
--   Mute t   neither a digit nor a comma stands in t
abbrev pub Listed : ℕ → Type 0
Listed n = (0 < n) × (n < 10 ^ 20)

pub record Mute (t : Text) : Type 0 where
  pub silent : Silent t
  pub plain : Without 44 t

plain-number : (n : ℕ) → Without 44 (decimal n)
plain-number n = without 48 57 44 (decimal n) (λ x l h e. omega arith) (decimal-within n)

silent-zero : (t : Text) → Silent t → number_in t ≡ 0
unfolding number_in
silent-zero t s = number-silent 0 t s

-- texts behind each other, neither with a digit nor with a comma
mute-append : {t u : Text} → Mute t → Mute u → Mute (t ++ u)
mute-append {t} {u} m n = record {
  silent = each_append _ t u m.silent n.silent;
  plain = each_append _ t u m.plain n.plain;
}

mute-none : Mute []
mute-none = record { silent = tt; plain = tt }

abbrev numbers : Text → List ℕ
numbers t = map number_in (pieces 44 t)

module _ (a : Text) (m : Mute a) (n : ℕ) (h : n < 10 ^ 20) where
  alone : (e : Text) → Mute e → numbers (a ++ decimal n ++ e) ≡ n ∷ []
  alone e k =
      let plain = each_append _ (a ++ decimal n) e (each_append _ a (decimal n) m.plain (plain-number n)) k.plain
      in
      rw (piece-last 44 (a ++ decimal n ++ e) plain) (ap (λ n. n ∷ []) (number-back a e m.silent k.silent n h))

  then : (t : Text) → numbers (a ++ decimal n ++ 44 ∷ t) ≡ n ∷ numbers t
  then t =
      let first = rw append-nil at (number-back a [] m.silent tt n h) in
      rw (piece-first 44 (a ++ decimal n) t (each_append _ a (decimal n) m.plain (plain-number n)), first)

seam : (a d t e : Text) → a ++ (d ++ 44 ∷ t) ++ e ≡ a ++ d ++ 44 ∷ (t ++ e)
seam a d t e = simp append_assoc

-- the text of a list behind a, and e behind it
pub list_back : (a e : Text) → Mute a → Mute e → (ns : List ℕ) → Each Listed ns → list_in (a ++ list_text ns ++ e) ≡ ns
unfolding list_in commas
list_back a e m k [] l =
    let mute = mute-append (mute-append m mute-none) k in
    rw (piece-last 44 (a ++ [] ++ e) mute.plain, silent-zero (a ++ [] ++ e) mute.silent)
list_back a e m k (n ∷ []) l =
    rw (append-nil (decimal n))
    (ap (keep (0 <?◌)) (alone a m n l.0.1 e k) ∙ rw (lt-ltb 0 n l.0.0))
list_back a e m k (n ∷ p ∷ ns) l =
    let rest = list_back [] e mute-none k (p ∷ ns) l.1 in
    rw (seam a (decimal n) _ e)
    (ap (keep (0 <?◌)) (then a m n l.0.1 _)
    ∙ rw (lt-ltb 0 n l.0.0) (ap (λ (ps : List ℕ). n ∷ ps) rest))
