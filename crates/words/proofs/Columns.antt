-- A loop that writes a list to the front of a lent column.
--   Putting xs lent column i left   the first of xs stand in the lent column; those left go to the place i on
use Rattle.std.specs.Prelude.{◌∷◌, ◌++◌, ◌+◌}
use mathlib.Core.Path.{◌≡◌, refl, sym, ◌∙◌, ap}
use Prim.Native.Nat.{◌≤◌}
use native.Mathlib.Nat.{zero-add}
use native.Mathlib.Numerals.{add-one}
use native.Mathlib.Omega.{arith}
use mathlib.Core.List.{append-nil}
use lib.ListN.{set, length-set, drop_of_length-le}
use lib.Seq.{sets, sets-eq}
use Rattle.theory.specs.Basics.{List, [], ℕ, length}
use Rattle.words.specs.Answers.{at_front}

module _ {A : Type 0} (xs lent : List A) where
  pub record Putting (column : List A) (i : ℕ) (left : List A) : Type 0 where
    pub promised : sets column i left ≡ sets lent 0 xs
    pub room : i + length left ≤ length column
    pub same : length column ≡ length lent

  pub put-start : length xs ≤ length lent → Putting lent 0 xs
  put-start l = record { promised = refl; room = omega arith; same = refl }

  pub put_next : {column left rest : List A} {i : ℕ} {x : A} → Putting column i left → left ≡ x ∷ rest
      → Putting (set column i x) (i + 1) rest
  put_next {column} {i = i} p e = record {
    promised = rw add-one (sym (ap (sets column i) e) ∙ p.promised);
    room = simp length-set (omega (arith, p.room, ap length e));
    same = simp length-set p.same;
  }

  pub put_all : {column left : List A} {i : ℕ} → length xs ≤ length lent → Putting column i left → left ≡ []
      → column ≡ at_front xs lent
  put_all {column} {i = i} l p e =
      sym (ap (sets column i) e) ∙ p.promised ∙ sets-eq xs lent 0 (rw zero-add l) ∙ rw zero-add

  -- to a column that is just as long
  pub put_whole : {column left : List A} {i : ℕ} → length xs ≡ length lent → Putting column i left → left ≡ []
      → column ≡ xs
  put_whole l p e =
      let none : length lent ≤ length xs = omega arith in
      put_all (omega arith) p e ∙ ap (λ rest. xs ++ rest) (drop_of_length-le lent none) ∙ append-nil xs
