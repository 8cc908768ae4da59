-- What the private functions on a page are asked.
--   others p i k         of the first k words of the page p, those that are not at place i
--   taken_out p i k       others p i k, then 0 in the word that is freed, and what follows
--   Exchanges p i k xs   line i is one of k lines, other words are 0, and without it there is room for the words xs
--   exchanged p i k xs   others p i k and xs, and zeros after them
use Rattle.std.specs.Prelude.{◌≡◌, ◌<◌, ◌≤◌, ◌∷◌, ◌++◌, ◌+◌, ◌-◌}
use Rattle.theory.specs.Basics.{List, length, take, drop, replicate, ℕ, suc, Each}

abbrev pub others : List ℕ → ℕ → ℕ → List ℕ
others page line lines = take line (take lines page) ++ drop (suc line) (take lines page)

unfoldable pub taken_out : List ℕ → ℕ → ℕ → List ℕ
taken_out page line lines = others page line lines ++ 0 ∷ drop lines page

pub record Exchanges (page : List ℕ) (line lines : ℕ) (strip : List ℕ) : Type 0 where
  pub there : line < lines
  pub fit : lines ≤ length page
  pub zeros : Each (λ x. x ≡ 0) (drop lines page)
  pub room : lines - 1 + length strip ≤ length page

abbrev pub exchanged : List ℕ → ℕ → ℕ → List ℕ → List ℕ
exchanged page line lines strip = kept ++ replicate (length page - length kept) 0
  where
    kept : List ℕ
    kept = others page line lines ++ strip
