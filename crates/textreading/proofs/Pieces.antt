-- A loop that reads the numbers that commas set apart, byte by byte: what it keeps, with what is left of the text read on
-- from the number in hand, are the numbers of the text.
--   numbers_from n t   the numbers that commas set apart in t, where n has been read of the first
--   read_on n ts       the numbers in the texts ts, where n has been read of the first
--   column_of ns       the bytes of the numbers ns, zeros left out
--   Reached ..        the first i bytes are read: the number in hand, and the column with those in front of it
use Rattle.std.specs.Prelude.{◌∷◌, ◌++◌, ◌+◌}
use mathlib.Core.Path.{◌≡◌, refl, sym, ◌∙◌, ap}
use mathlib.Core.List.{append_assoc}
use Prim.Native.Nat.{◌≤◌, ◌<◌, min}
use native.Mathlib.Decide.{dec_le}
use native.Mathlib.Nat.{min-eq_left, lt_of_not-le}
use native.Mathlib.Numerals.{add-one}
use native.Mathlib.Omega.{arith}
use borrow.Author.Tests.{lt-ltb, eq-eqb, ne_eqb}
use lib.ListN.{drop_of_length-le}
use lib.Seq.{drop-cons}
use Rattle.theory.specs.Basics.{Bool, true, false, cond, List, [], map, ℕ, zero, suc, length, get_or, drop}
use Rattle.theory.specs.Basics.{◌=?◌, ◌<?◌}
use Rattle.text.specs.Text.{Text}
use Rattle.text.specs.Wrote.{most, Wrote}
use Rattle.text.specs.Wrote.Laws.{wrote_none, wrote_then}
use Rattle.textreading.specs.Reading.{step, number_from, number_in, in_front, pieces, kept, small, list_in}
use Rattle.textreading.specs.Reading.Numbers.{step-most}

abbrev numbers_from : ℕ → Text → List ℕ
numbers_from n [] = n ∷ []
numbers_from n (b ∷ t) = cond (b =? 44) (n ∷ numbers_from 0 t) (numbers_from (step n b) t)

-- ---- the numbers in the pieces
abbrev read_on : ℕ → List Text → List ℕ
read_on n [] = n ∷ []
read_on n (t ∷ ts) = number_from n t ∷ map number_in ts

read-front : (n b : ℕ) (ts : List Text) → read_on n (in_front b ts) ≡ read_on (step n b) ts
read-front n b [] = refl
read-front n b (t ∷ ts) = refl

read-pieces : (b : ℕ) (t : Text) → read_on 0 (pieces b t) ≡ map number_in (pieces b t)
unfolding number_in
read-pieces b [] = refl
read-pieces b (x ∷ t) = go (x =? b) (pieces b t)
  where
    go : (c : Bool) (ts : List Text)
        → read_on 0 (cond c ([] ∷ ts) (in_front x ts)) ≡ map number_in (cond c ([] ∷ ts) (in_front x ts))
    go true ts = refl
    go false [] = refl
    go false (t ∷ ts) = refl

numbers_on : (n : ℕ) (t : Text) → numbers_from n t ≡ read_on n (pieces 44 t)
numbers_on n [] = refl
numbers_on n (b ∷ t) = go (b =? 44) (λ m. numbers_on m t)
  where
    go : (c : Bool) → ((m : ℕ) → numbers_from m t ≡ read_on m (pieces 44 t))
        → cond c (n ∷ numbers_from 0 t) (numbers_from (step n b) t)
        ≡ read_on n (cond c ([] ∷ pieces 44 t) (in_front b (pieces 44 t)))
    go true rest = ap (λ (ns : List ℕ). n ∷ ns) (rest 0 ∙ read-pieces 44 t)
    go false rest = rest (step n b) ∙ sym (read-front n b (pieces 44 t))

-- ---- the column
abbrev column_of : List ℕ → List ℕ
column_of ns = map small (kept ns)

column-first : (n : ℕ) (ns : List ℕ) → column_of (n ∷ ns) ≡ column_of (n ∷ []) ++ column_of ns
column-first n ns = go (0 <? n)
  where
    go : (b : Bool) → map small (cond b (n ∷ kept ns) (kept ns)) ≡ map small (cond b (n ∷ []) []) ++ column_of ns
    go true = refl
    go false = refl

-- a number that was cut off at the greatest is above 255 all the same
column-most : (n : ℕ) → column_of (min n most ∷ []) ≡ column_of (n ∷ [])
column-most zero = refl
column-most (suc n) = elim (dec_le (suc n) most) [
  | yes l ↦ rw (min-eq_left l)
  | no g ↦
      let cut : min (suc n) most ≡ most = omega (arith, lt_of_not-le g) in
      let large : small (suc n) ≡ 255 = omega (arith, lt_of_not-le g) in
      rw (cut, lt-ltb 0 (suc n) (omega arith)) (ap (λ (m : ℕ). m ∷ []) (sym large))
]

-- ---- the loop
module _ (text column : List ℕ) where
  pub record Reached (i number count : ℕ) (after : List ℕ) : Type 0 where
    pub exact : ℕ
    pub same : number ≡ min exact most
    pub done : List ℕ
    pub whole : map small (list_in text) ≡ done ++ column_of (numbers_from exact (drop i text))
    pub wrote : Wrote done 0 column count after

  pub reached-none : Reached 0 0 0 column
  unfolding list_in
  reached-none = record {
    exact = 0;
    same = refl;
    done = [];
    whole = ap column_of (sym (numbers_on 0 text ∙ read-pieces 44 text));
    wrote = wrote_none 0 column (omega arith);
  }

  module _ {i number count : ℕ} {after : List ℕ} (r : Reached i number count after) where
    -- the number in hand is kept
    module _ {last : ℕ} {left : List ℕ} (m : length column ≤ most)
        (w : Wrote (column_of (number ∷ [])) count after last left) where
      more : Wrote (r.done ++ column_of (r.exact ∷ [])) 0 column last left
      more = wrote_then r.wrote m (rw (r.same, column-most r.exact) at w)

      pub reached-comma : i < length text → get_or text i 0 ≡ 44 → Reached (i + 1) 0 last left
      reached-comma h e = record {
        exact = 0;
        same = refl;
        done = r.done ++ column_of (r.exact ∷ []);
        whole =
            r.whole
            ∙ rw (drop-cons text i 0 h, eq-eqb _ _ e, add-one, column-first r.exact, append_assoc) refl;
        wrote = more;
      }

      pub reached-all : length text ≤ i → Wrote (map small (list_in text)) 0 column last left
      reached-all h = rw (r.whole, drop_of_length-le text h) more

    pub reached-step : {next : ℕ} → i < length text → (get_or text i 0 ≡ 44 → ⊥)
        → next ≡ min (step number (get_or text i 0)) most → Reached (i + 1) next count after
    reached-step h n e = record {
      exact = step r.exact (get_or text i 0);
      same = e ∙ rw r.same (step-most r.exact (get_or text i 0));
      done = r.done;
      whole = r.whole ∙ rw (drop-cons text i 0 h, ne_eqb _ _ n, add-one) refl;
      wrote = r.wrote;
    }
