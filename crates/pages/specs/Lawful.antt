-- What the theorems about sessions ask of a mode: that lines can be written down and read again, and that joining keeps
-- what lines are worth and what is sound about them. Both modes have it (Lawful/Plain, Lawful/Gathered).
--   Lawful m    the laws of the mode m; Written l, that the line l can be written down
use Rattle.std.specs.Prelude.{◌≡◌, ◌≤◌, ◌<◌, ◌∷◌, ◌++◌, ◌+◌, ◌^◌, ◌+ℤ◌}
use Rattle.theory.specs.Basics.{true, List, [], length, take, drop, ℕ, suc, nat_abs, sum}
use Rattle.theory.specs.Basics.{Each}
use Rattle.theory.specs.Limits.{page_limit}
use Rattle.theory.specs.Refusals.{first_of}
use Rattle.theory.specs.Refusals.Laws.{Numbered}
use Rattle.pages.specs.Line.{Line, signed_character}
use Rattle.pages.specs.Mode.{Mode}
use Rattle.pages.specs.Sound.Laws.{SoundLine, values, spans}
pub mod Checks
pub mod Put
pub mod Plain
pub mod Gathered

pub record Lawful (m : Mode) : Type 1 where
  -- ---- what is lent
  pub numbered : (x : m.Lent) → Numbered (m.lent_checks x)
  pub short : (x : m.Lent) → first_of (m.lent_checks x) ≡ 0 → length (m.page x) ≤ page_limit
  pub waits-length : (n : ℕ) (x : m.Lent) → first_of (m.lent_checks x) ≡ 0 → n ≤ length (m.page x)
      → length (m.waits n x) ≡ n
  -- ---- lines that are written down
  pub Written : Line → Type 0
  pub written-waits : (n : ℕ) (x : m.Lent) → Each Written (m.waits n x)
  pub written-unit : (l : Line) → nat_abs l.weight ≡ 1 → l.shape < 2 ^ 31 → l.class < 2 ^ 32 → Written l
  pub written-like : (l y : Line) → Written l → nat_abs y.weight ≡ nat_abs l.weight → y.shape < 2 ^ 31
      → y.class < 2 ^ 32 → Written y
  pub waits-put : (lines : List Line) (x : m.Lent) → Each Written lines
      → m.waits (length lines) (m.put lines x) ≡ lines
  pub idle-put : (lines : List Line) (x : m.Lent) → m.idle (length lines) (m.put lines x) ≡ true
  pub length-put : (lines : List Line) (x : m.Lent) → length lines ≤ length (m.page x)
      → length (m.page (m.put lines x)) ≡ length (m.page x)
  pub lent-put : (lines : List Line) (x : m.Lent) → first_of (m.lent_checks x) ≡ 0 → length lines ≤ length (m.page x)
      → first_of (m.lent_checks (m.put lines x)) ≡ 0
  pub put-alike : (lines : List Line) (x y : m.Lent) → first_of (m.lent_checks x) ≡ 0 → first_of (m.lent_checks y) ≡ 0
      → length (m.page x) ≡ length (m.page y) → m.put lines x ≡ m.put lines y
  -- ---- lines that are joined
  pub written-join : (xs ys : List Line) → Each Written xs → Each Written ys → Each Written (m.join xs ys)
  pub sound-join : (n : ℕ) (xs ys : List Line) → Each (SoundLine n) xs → Each (SoundLine n) ys
      → Each (SoundLine n) (m.join xs ys)
  pub worth-join : (xs ys : List Line)
      → sum signed_character (m.join xs ys) ≡ sum signed_character xs +ℤ sum signed_character ys
  pub values_join : (xs ys : List Line) → values (m.join xs ys) ≤ values xs + values ys
  pub spans-join : (xs ys : List Line) → spans (m.join xs ys) ≤ spans xs + spans ys
  -- ---- lines that stand together
  pub stands-none : m.stands [] ≡ true
  pub stands_one : (l : Line) → nat_abs l.weight ≡ 1 → m.stands (l ∷ []) ≡ true
  pub stands-without : (i : ℕ) (lines : List Line) → m.stands lines ≡ true
      → m.stands (take i lines ++ drop (suc i) lines) ≡ true
  pub stands-join : (xs ys : List Line) → m.stands xs ≡ true → m.stands (m.join xs ys) ≡ true
  -- ---- a line by itself
  pub own-unit : (l : Line) → Written l → nat_abs (m.own l).weight ≡ 1
  pub own-words : (l : Line) → ((m.own l).shape ≡ l.shape) × ((m.own l).class ≡ l.class)
