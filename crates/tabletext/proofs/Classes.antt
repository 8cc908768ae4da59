-- From what the calculator answers of the class of a rank to the class itself: its parts, its size, its column.
--   class n r   the class of rank r in the listing of degree n
use Rattle.std.specs.Prelude.{◌^◌}
use mathlib.Core.Path.{◌≡◌, refl, ◌∙◌, ap}
use Prim.Native.Nat.{◌≤◌, ◌<◌}
use native.Mathlib.Nat.{div-le_self}
use native.Mathlib.Omega.{arith}
use lib.ListN.{length-replicate}
use mir.Facts.{to_z-of_z}
use mir.Syntax.{w64}
use mir.Val.{to_z, of_z}
use borrow.Author.Rules.{sfits_of}
use borrow.Author.Tests.{le-ltb, lt-leb}
use Rattle.theory.specs.Basics.{List, [], ℕ, ℤ, pos, length, get_or, replicate}
use Rattle.theory.specs.Partition.{Parts, degree}
use Rattle.theory.proofs.Partition.Laws.{length-degree}
use Rattle.theory.specs.ClassWord.{class_word, class_of}
use Rattle.theory.specs.ClassWord.Laws.{Held}
use Rattle.theory.proofs.ClassWord.Laws.{class-good, class-of-word, word_good}
use Rattle.theory.specs.ClassData.{class_divisor, class_size}
use Rattle.theory.specs.Bounds.{factorial}
use Rattle.theory.specs.Bounds.Laws.{largest_limit}
use Rattle.theory.specs.Listing.{listing}
use Rattle.theory.specs.Column.{column}
use Rattle.theory.specs.Listing.Order.{UpTo}
use Rattle.theory.proofs.Listing.Order.{partition-at}
use Rattle.theory.proofs.Column.Laws.{column-length}
use Rattle.theory.specs.Refusals.{first_of, class_checks}
use Rattle.std.specs.declared.result.Result.{Result}
use Rattle.std.specs.declared.result.Result.TheVariants.{Ok}
use Rattle.words.specs.declared.refusal.Refusal.{Refusal}
use Rattle.words.specs.Answers.{Outcome, CountAnswer, word_told, number_told}
use Rattle.words.proofs.Told.{word-told-once, number-told-once}
use Rattle.words.specs.Calls.{class_parts_into, size_of_class}
use Rattle.words.proofs.Factorials.{factorial-fits}
use Rattle.words.proofs.Callers.{FrontGiven, front-given}
use Rattle.listing.specs.Calls.{class_at}
use Rattle.classcolumns.specs.Calls.{column_into}

module _ (limit : ℕ) (fits : limit ≤ largest_limit) (n r : ℕ) (small : n ≤ limit) (within : r < length (listing n)) where
  abbrev class : Parts
  class = get_or (listing n) r []

  known : UpTo n n class
  known = partition-at n r within

  held : Held class
  held = record { partition = known.partition; room = omega (arith, known.whole) }

  passes : first_of (class_checks limit (class_word class)) ≡ 0
  passes =
      let within = le-ltb limit (degree class) (omega (arith, known.whole)) in
      rw (class-good (word_good held), class-of-word held, within)

  pub size_fits : class_size class < 2 ^ 63
  unfolding class_size
  size_fits =
      let f = factorial-fits (degree class) (omega (arith, known.whole)) in
      omega (arith, div-le_self (factorial (degree class)) (class_divisor class))

  -- as a call hands it on to another
  pub size_handed : to_z w64 (of_z w64 (pos (class_size class))) ≡ pos (class_size class)
  size_handed = to_z-of_z {w = w64} (sfits_of size_fits)

  pub word-of-rank : (a : Result ℕ Refusal) → word_told a ≡ class_at limit n r → a ≡ Ok (class_word class)
  unfolding class_at
  word-of-rank a e =
      word-told-once {s = Ok (class_word class)}
      (e ∙ rw (le-ltb limit n small, lt-leb (length (listing n)) r within) refl)

  module _ (w : ℕ) (e : w ≡ class_word class) where
    pub parts-of-rank : (k : CountAnswer) (parts : List ℕ)
        → Outcome (class_parts_into limit w (replicate limit 0)) k parts → FrontGiven class k parts
    unfolding class_parts_into
    parts-of-rank k parts o =
        let room : length class ≤ limit = omega (arith, known.whole, length-degree class known.partition) in
        let checks = class_checks limit (class_word class) in
        let front = front-given checks 14 (class_of (class_word class)) (replicate limit 0) refl
        (λ z. rw (class-of-word held, length-replicate) room) k parts (rw e at o) passes in
        rw (class-of-word held) at front

    pub size-of-rank : (a : Result ℤ Refusal) → number_told a ≡ size_of_class limit w
        → a ≡ Ok (pos (class_size class))
    unfolding size_of_class
    size-of-rank a f =
        number-told-once {s = Ok (pos (class_size class))} (f ∙ rw (e, passes, class-of-word held) refl)

    pub column-of-rank : (most : ℕ) → length (listing n) ≤ most → (k : CountAnswer) (values : List ℤ)
        → Outcome (column_into limit w (replicate most (pos 0))) k values → FrontGiven (column class) k values
    unfolding column_into
    column-of-rank most few k values o =
        let room : length (column class) ≤ most =
        omega (arith, column-length class, ap (λ (m : ℕ). length (listing m)) known.whole) in
        let front = front-given (class_checks limit (class_word class)) 14 (column (class_of (class_word class)))
        (replicate most (pos 0)) refl (λ z. rw (class-of-word held, length-replicate) room) k values (rw e at o)
        passes in
        rw (class-of-word held) at front
