-- How hook lines are joined to the lines of a page, as the code does it: hook lines are words xs with clear sign digits
-- and weights ws beside them, as lines on a page are.
--   place page x           the place of the first word that is x, and the number of words where none is
--   Small k column         no number's size reaches k times 2^58
--   saved_at column p w     how many lines a hook line of weight w at the place p spares; saved_by, all hook lines
--   raised column ps ws    each of the weights ws added at its place of ps
--   kept page column       the lines whose coefficient is not 0
--   stayed ..              the lines with the weights added, without the struck one and those that became 0
--   putting ls page column the number of the lines ls, and what they leave of page and column written down there
--   picked n ps xs         those of xs whose place is n
--   spares lines h         how many lines the hook line h spares, by the lines themselves
--   lines_before, rest_of    the lines of the page, and those without the struck one; next_of, with the hook lines joined
--                          to them
--   Joinable ..            what is asked of hook lines that are joined to the lines of a page; Joins .., the same with
--                          their places and the room
--   joined_onto ..          what is told and left of page and column where they are joined, if there is room
use Rattle.std.specs.Prelude.{◌≡◌, ◌≤◌, ◌<◌, ◌∷◌, ◌++◌, ◌+◌, ◌*◌, ◌^◌, ◌+ℤ◌, Option, None, Some}
use Rattle.theory.specs.Basics.{true, cond, List, [], map, length, get_or, set, take, drop, ℕ}
use Rattle.theory.specs.Basics.{suc}
use Rattle.theory.specs.Basics.{ℤ, pos, nat_abs, ◌=?◌, ◌<?◌, keep, every, Each}
use Rattle.theory.specs.Limits.{degree_limit, page_limit}
use Rattle.pages.specs.Line.{Line}
use Rattle.pages.specs.Page.{line_at}
use Rattle.pages.specs.Mode.{alongside, gathered_mode}
use Rattle.pages.specs.Gathering.{alike, lasting, gather, distinct}
use Rattle.pages.specs.Gathering.Different.{Unlike}

unfoldable pub place : List ℕ → ℕ → ℕ
place [] x = 0
place (y ∷ page) x = cond (y =? x) 0 (suc (place page x))

abbrev pub Small : ℕ → List ℤ → Type 0
Small k column = (i : ℕ) → nat_abs (get_or column i (pos 0)) < k * 2 ^ 58

unfoldable pub saved_at : List ℤ → ℕ → ℤ → ℕ
saved_at column p w = cond (p <? length column) (cond (nat_abs (get_or column p (pos 0) +ℤ w) =? 0) 2 1) 0

unfoldable pub saved_by : List ℤ → List ℕ → List ℤ → ℕ
saved_by column [] ws = 0
saved_by column (p ∷ ps) [] = 0
saved_by column (p ∷ ps) (w ∷ ws) = saved_at column p w + saved_by column ps ws

unfoldable pub raised : List ℤ → List ℕ → List ℤ → List ℤ
raised column [] ws = column
raised column (p ∷ ps) [] = column
raised column (p ∷ ps) (w ∷ ws) = raised (set column p (get_or column p (pos 0) +ℤ w)) ps ws

abbrev pub kept : List ℕ → List ℤ → List Line
kept page column = keep lasting (alongside page column)

abbrev pub stayed : List ℕ → List ℤ → ℕ → List ℕ → List ℤ → List Line
stayed page column line ps ws = kept page (set (raised column ps ws) line (pos 0))

abbrev pub putting : List Line → List ℕ → List ℤ → ℕ × (List ℕ × List ℤ)
putting lines page column = (length lines, gathered_mode.put lines (page, column))

unfoldable pub picked : {A : Type 0} → ℕ → List ℕ → List A → List A
picked n [] xs = []
picked n (p ∷ ps) [] = []
picked n (p ∷ ps) (x ∷ xs) = cond (p =? n) (x ∷ picked n ps xs) (picked n ps xs)

-- ---- by the lines themselves
unfoldable pub spares : List Line → Line → ℕ
spares [] h = 0
spares (l ∷ lines) h = cond (alike l h) (cond (nat_abs (l.weight +ℤ h.weight) =? 0) 2 1) (spares lines h)

module _ (page : List ℕ) (column : List ℤ) (line lines : ℕ) where
  abbrev pub lines_before : List Line
  lines_before = gathered_mode.waits lines (page, column)

  abbrev pub rest_of : List Line
  rest_of = take line lines_before ++ drop (suc line) lines_before

  abbrev pub next_of : List ℕ → List ℤ → List Line
  next_of words weights = gather rest_of (alongside words weights)

  pub record Joinable (words : List ℕ) (weights : List ℤ) : Type 0 where
    pub there : line < lines
    pub fit : lines ≤ length page
    pub short : length page ≤ page_limit
    pub as_long : length page ≡ length column
    pub idle : gathered_mode.idle lines (page, column) ≡ true
    pub weighed : length words ≡ length weights
    pub few : length words ≤ degree_limit
    pub small : Small 1 (take lines column)
    pub small-weights : Small 1 weights
    pub different-lines : distinct lines_before ≡ true
    pub lasting-lines : every lasting lines_before ≡ true
    pub different-hooks : distinct (alongside words weights) ≡ true
    pub lasting-hooks : every lasting (alongside words weights) ≡ true
    pub unlike-struck : Each (Unlike (line_at lines_before line)) (alongside words weights)

  pub record Joins (places words : List ℕ) (weights : List ℤ) : Type 0 where
    pub able : Joinable words weights
    pub placed : places ≡ map (place (take lines page)) words
    pub room : length (next_of words weights) ≤ length page

  unfoldable pub joined_onto : List ℕ → List ℤ → Option ℕ × (List ℕ × List ℤ)
  joined_onto words weights =
      cond (length page <? length next) (None, (page, column))
      (Some (length next), gathered_mode.put next (page, column))
    where
      next : List Line
      next = next_of words weights
