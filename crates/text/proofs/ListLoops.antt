-- A loop that writes the elements of a list as text, set apart by commas: after i turns the first i stand there.
--   Reached i end out   what it has written after i turns, and where that ends
use Rattle.std.specs.Prelude.{◌++◌, ◌+◌}
use mathlib.Core.Path.{◌≡◌, refl}
use Prim.Native.Nat.{◌≤◌, ◌<◌}
use native.Mathlib.Numerals.{add-one}
use native.Mathlib.Omega.{arith}
use lib.ListN.{length-map}
use lib.Seq.{take_all}
use Rattle.theory.specs.Basics.{List, [], map, ℕ, zero, suc, length, get_or, take}
use Rattle.theory.proofs.Basics.AtPlace.{map_at}
use Rattle.text.specs.Text.{Text, ascii, commas}
use Rattle.text.specs.Text.Lists.{separator, commas-next}
use Rattle.text.specs.Wrote.{most, Wrote}
use Rattle.text.specs.Wrote.Laws.{wrote_none, wrote_then, wrote-length}

pub comma : (i : ℕ) → (i ≡ 0 → ⊥) → separator i ≡ ascii ","
comma zero some = absurd (some refl)
comma (suc i) some = refl

module _ {A : Type 0} (text : A → Text) (xs : List A) (at : ℕ) (before : List ℕ) where
  abbrev pub Reached : ℕ → ℕ → List ℕ → Type 0
  Reached i end out = Wrote (commas (take i (map text xs))) at before end out

  pub reached-none : at ≤ most → Reached 0 at before
  unfolding commas
  reached-none h = wrote_none at before h

  pub reached-all : {i end : ℕ} {out : List ℕ} → Reached i end out → length xs ≤ i
      → Wrote (commas (map text xs)) at before end out
  reached-all {i} w h = rw (take_all i (map text xs) (omega (arith, length-map xs text))) at w

  module _ {i end : ℕ} {out : List ℕ} (w : Reached i end out) (d : A) (h : i < length xs) (m : length before ≤ most)
    where
      next : commas (take (suc i) (map text xs)) ≡ commas (take i (map text xs)) ++ (separator i ++ text (get_or xs i d))
      next = rw (map_at text xs d [] i h) at (commas-next (map text xs) i (omega (arith, length-map xs text)))

      pub reached-next : {place : ℕ} {behind : List ℕ} → Wrote (separator i) end out place behind
          → {last : ℕ} {left : List ℕ} → Wrote (text (get_or xs i d)) place behind last left → Reached (i + 1) last left
      reached-next s e = rw (add-one, next) (wrote_then w m (wrote_then s (omega (arith, wrote-length w)) e))
