-- The two modes of a session (document 01, "Slip and page"; document 02, P7, "Gather like lines"). A mode says what is
-- lent to a session, how lines are written down there, and how hook lines come to the others; all else is said of both
-- modes at once, over the weight of a line: the plain mode's is its sign, the gathered mode's its coefficient.
--   Mode                 a mode, by what it says:
--     number             its number on a slip
--     Lent               what is lent: a page, or a page and a column of coefficients
--     page x             the page of what is lent
--     lent_checks x       the checks of what is lent, by itself
--     waits n x          the first n lines, as they are read
--     idle n x           all is 0 from the line numbered n on
--     put lines x        the lines written down, and zeros after them
--     stands lines       what is asked of all lines together
--     own l              the line l as a strip and a ratio have it
--     join lines hs      the lines, and hs, the hook lines that wait, come to them
--   plain_mode            a page of words, each with its sign; hook lines come at the end
--   weighted x z         the line of the word x, with the coefficient z; its shape word is no good one where the sign
--                        digit is set
--   gathered_mode         words with clear sign digits and a coefficient beside each; hook lines are gathered, no two
--                        lines are equal and no coefficient is 0; strip and ratio leave the coefficient out
--   alongside page ..    the lines of a page and of the column beside it
--   unit l               the line l with the weight 1
--   words_of, weights_of   the words of lines, their sign digits clear, and the coefficients beside them
--   waiting_in m slip x   the lines that wait; waiting slip page, in the plain mode
use Rattle.std.specs.Prelude.{◌&&◌, ◌∷◌, ◌++◌, ◌-◌, ◌/◌, ◌%◌, ◌^◌}
use Rattle.theory.specs.Basics.{Bool, true, List, [], map, length, take, drop, replicate, ℕ}
use Rattle.theory.specs.Basics.{ℤ, pos, nat_abs, ◌=?◌, every}
use Rattle.theory.specs.Refusals.{Check, no-6, no-21}
use Rattle.pages.specs.Line.{Line}
use Rattle.pages.specs.Gathering.{weighing, gather, gathered}
use Rattle.pages.specs.Page.{line_of, word_of, padded, Slip}

pub record Mode : Type 1 where
  pub number : ℕ
  pub Lent : Type 0
  pub page : Lent → List ℕ
  pub lent_checks : Lent → List Check
  pub waits : ℕ → Lent → List Line
  pub idle : ℕ → Lent → Bool
  pub put : List Line → Lent → Lent
  pub stands : List Line → Bool
  pub own : Line → Line
  pub join : List Line → List Line → List Line

abbrev pub waiting_in : (m : Mode) → Slip → m.Lent → List Line
waiting_in m slip x = m.waits slip.lines x

-- ---- the plain mode
abbrev pub plain_mode : Mode
plain_mode = record {
  number = 0;
  Lent = List ℕ;
  page = λ page. page;
  lent_checks = λ page. no-6 page ∷ [];
  waits = λ n page. map line_of (take n page);
  idle = λ n page. every (◌=? 0) (drop n page);
  put = padded;
  stands = λ lines. true;
  own = λ l. l;
  join = ◌++◌;
}

abbrev pub waiting : Slip → List ℕ → List Line
waiting slip page = waiting_in plain_mode slip page

-- ---- the gathered mode
abbrev pub weighted : ℕ → ℤ → Line
weighted x z = record { weight = z; shape = x / 2 ^ 32; class = x % 2 ^ 32 }

abbrev pub alongside : List ℕ → List ℤ → List Line
alongside [] column = []
alongside (x ∷ page) [] = []
alongside (x ∷ page) (z ∷ column) = weighted x z ∷ alongside page column

abbrev pub unit : Line → Line
unit l = weighing (pos 1) l

abbrev pub words_of : List Line → List ℕ
words_of lines = map word_of (map unit lines)

abbrev pub weights_of : List Line → List ℤ
weights_of lines = map (λ l. l.weight) lines

abbrev pub gathered_mode : Mode
gathered_mode = record {
  number = 1;
  Lent = List ℕ × List ℤ;
  page = λ x. x.0;
  lent_checks = λ x. no-6 x.0 ∷ no-21 x.0 x.1 ∷ [];
  waits = λ n x. alongside (take n x.0) (take n x.1);
  idle = λ n x. every (◌=? 0) (drop n x.0) && every (λ z. nat_abs z =? 0) (drop n x.1);
  put = λ lines x.
      (padded (map unit lines) x.0, weights_of lines ++ replicate (length x.1 - length lines) (pos 0));
  stands = gathered;
  own = unit;
  join = gather;
}
