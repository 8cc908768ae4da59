-- The beta-numbers of digits are those of their rows and of zero rows behind them: a class counts its character there.
--   digit_ls ds      to each zero, how many digits are behind it; digit_betas ds, the same as whole numbers
use Rattle.std.specs.Prelude.{◌≡◌, refl, ◌∷◌, ◌++◌, ◌+◌}
use Rattle.std.proofs.Common.{sym, ◌∙◌, ap, arith, length-append}
use Rattle.std.proofs.Math.Dec.{eqb-suc-zero}
use Rattle.std.proofs.lemmas.List.{length-map}
use Rattle.theory.specs.Basics.{true, false, cond, List, [], map, length, replicate}
use Rattle.theory.specs.Basics.{ℕ, zero, suc, ℤ, pos, ◌=?◌}
use Rattle.theory.specs.Partition.{Parts}
use Rattle.theory.specs.Partition.Laws.{NoZero}
use Rattle.theory.specs.Digits.{Digits, ones, zeros}
use Rattle.theory.proofs.Digits.LastOne.{ones-zeros}
use Rattle.theory.specs.ShapeWord.{rows, shifted}
use Rattle.theory.proofs.ShapeWord.Laws.{rows_none}
use Rattle.theory.specs.Character.{◌on◌}
use Rattle.theory.proofs.Character.Alternating.{raised_by}
use Rattle.theory.proofs.Character.Counted.{counted, counted-stable}
use Rattle.theory.proofs.Character.Betas.{betas, length-betas, zeros-behind}
use Rattle.theory.proofs.Character.Order.{character-counted}
use Rattle.theory.proofs.Rules.InOrder.{PositiveFirst}

abbrev pub digit_ls : Digits → List ℕ
digit_ls [] = []
digit_ls (true ∷ ds) = digit_ls ds
digit_ls (false ∷ ds) = length ds ∷ digit_ls ds

abbrev pub digit_betas : Digits → List ℤ
digit_betas ds = map pos (digit_ls ds)

pub length-digit_ls : (ds : Digits) → length (digit_ls ds) ≡ zeros ds
length-digit_ls [] = refl
length-digit_ls (true ∷ ds) = length-digit_ls ds
length-digit_ls (false ∷ ds) = ap suc (length-digit_ls ds)

pub length-digit_betas : (ds : Digits) → length (digit_betas ds) ≡ zeros ds
length-digit_betas ds = length-map (digit_ls ds) pos ∙ length-digit_ls ds

pub digit_betas-append : (b a : Digits) → digit_betas (b ++ a) ≡ raised_by (length a) (digit_betas b) ++ digit_betas a
digit_betas-append [] a = refl
digit_betas-append (true ∷ b) a = digit_betas-append b a
digit_betas-append (false ∷ b) a = rw (length-append b a, digit_betas-append b a)

pub digit_betas-shifted : (ds : Digits) → digit_betas (shifted ds) ≡ digit_betas ds
digit_betas-shifted [] = refl
digit_betas-shifted (true ∷ ds) = cc (digit_betas-shifted ds)
digit_betas-shifted (false ∷ ds) = refl

-- ---- the rows of digits
rows-positive : (ds : Digits) → PositiveFirst (map pos (rows ds))
rows-positive [] = tt
rows-positive (true ∷ ds) = rows-positive ds
rows-positive (false ∷ ds) = go (ones ds)
  where
    go : (n : ℕ) → PositiveFirst (map pos (cond (n =? 0) [] (n ∷ rows ds)))
    go zero = tt
    go (suc n) = rw (eqb-suc-zero n) (n, refl)

row-betas : (ds : Digits) (l : List ℤ) → digit_betas ds ≡ betas l → digit_betas (false ∷ ds) ≡ betas (pos (ones ds) ∷ l)
row-betas ds l e =
    let h : length l ≡ zeros ds = sym (length-betas l) ∙ ap length (sym e) ∙ length-digit_betas ds in
    let k : length ds ≡ ones ds + length l = omega (arith, ones-zeros ds) in
    rw (k, e)

-- the rows, and zero rows behind them, have the beta-numbers of the digits
rows-betas : (ds : Digits) → (z : ℕ) × (digit_betas ds ≡ betas (map pos (rows ds) ++ replicate z (pos 0)))
rows-betas [] = (0, refl)
rows-betas (true ∷ ds) = rows-betas ds
rows-betas (false ∷ ds) = go (ones ds) refl (rows-betas ds)
  where
    go : (n : ℕ) → ones ds ≡ n → ((z : ℕ) × (digit_betas ds ≡ betas (map pos (rows ds) ++ replicate z (pos 0))))
        → (z : ℕ) × (digit_betas (false ∷ ds) ≡ betas (map pos (cond (n =? 0) [] (n ∷ rows ds)) ++ replicate z (pos 0)))
    go zero e (z, f) = (
      suc z,
      rw (e, rows_none ds e) at (row-betas ds (map pos (rows ds) ++ replicate z (pos 0)) f),
    )
    go (suc n) e (z, f) = (
      z,
      rw (eqb-suc-zero n) (rw e at (row-betas ds (map pos (rows ds) ++ replicate z (pos 0)) f)),
    )

pub rows-counted : (c : Parts) → NoZero c → (ds : Digits) → rows ds on c ≡ counted c (digit_betas ds)
rows-counted c k ds =
    let (z, e) = rows-betas ds in
    character-counted c k (map pos (rows ds)) (rows-positive ds)
    ∙ sym (ap (counted c) e ∙ zeros-behind (counted c) (counted-stable c k) (map pos (rows ds)) z)
