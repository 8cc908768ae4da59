-- A page of lines with zeros after them: how long it is, and what waits on it.
use Rattle.std.specs.Prelude.{◌≡◌, refl, ◌≤◌, ◌-◌}
use Rattle.std.proofs.Common.{◌∙◌, ap, arith, length-append, take_at, drop_at}
use Rattle.std.proofs.lemmas.List.{length-replicate, length-map}
use Rattle.theory.specs.Basics.{List, map, length, take, drop, replicate, ℕ, zero, suc, Each}
use Rattle.pages.specs.Line.{Line}
use Rattle.pages.specs.Page.{line_of, word_of, padded}
use Rattle.pages.specs.Page.Words.{Plain, lines-read}

each-zero : (n : ℕ) → Each (λ (x : ℕ). x ≡ 0) (replicate n 0)
each-zero zero = tt
each-zero (suc n) = (refl, each-zero n)

module _ (lines : List Line) (page : List ℕ) where
  pub length-padded : length lines ≤ length page → length (padded lines page) ≡ length page
  length-padded room = simp (length-append, length-replicate, length-map) (omega arith)

  pub lines-padded : Each Plain lines → map line_of (take (length lines) (padded lines page)) ≡ lines
  lines-padded plain =
      ap (map line_of) (take_at (map word_of lines) _ (length lines) (length-map lines word_of)) ∙ lines-read lines plain

  pub zeros-padded : Each (λ x. x ≡ 0) (drop (length lines) (padded lines page))
  zeros-padded =
      let after : ℕ = length page - length lines in
      rw (drop_at (map word_of lines) (replicate after 0) (length lines) (length-map lines word_of)) (each-zero after)
