-- Slip and page (document 01, "Slip and page", first paragraph): a page's word is read as a line and written from one.
--   line_of, word_of      a line of a word, and its word; plain, a line of a sign (linewords/specs/Word)
--   line_at lines i      the line numbered i, from 0, and line_of 0 past the end
--   padded lines page   the words of the lines, and zeros after them, as long as the page
--   slip_of ..           a slip by its six fields; blank, all zeros
--   worth slip lines    what every step keeps: settled plus the signed characters of the waiting lines
use Rattle.std.specs.Prelude.{◌++◌, ◌-◌, ◌+ℤ◌}
use Rattle.theory.specs.Basics.{List, map, length, get_or, replicate, ℕ, ℤ, pos, sum}
pub use Rattle.linewords.specs.Word.{line_of, word_of, plain}
pub use Rattle.pages.specs.declared.Slip.{Slip}
use Rattle.pages.specs.Line.{Line, signed_character}
pub mod Words
pub mod Padded

abbrev pub line_at : List Line → ℕ → Line
line_at lines i = get_or lines i (line_of 0)

abbrev pub padded : List Line → List ℕ → List ℕ
padded lines page = map word_of lines ++ replicate (length page - length lines) 0

abbrev pub slip_of : ℕ → ℕ → ℤ → ℕ → ℤ → ℕ → Slip
slip_of shape class settled lines steps mode =
    record { shape = shape; class = class; settled = settled; lines = lines; steps = steps; mode = mode }

abbrev pub blank : Slip
blank = slip_of 0 0 (pos 0) 0 (pos 0) 0

unfoldable pub worth : Slip → List Line → ℤ
worth slip lines = slip.settled +ℤ sum signed_character lines
