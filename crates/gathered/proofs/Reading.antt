-- A line of a page and a column beside it, as the code reads it: a word and its coefficient.
--   word_at, coefficient_at    what stands at a place of the page, and of the column
--   Passed limit slip ..     what it tells that 6, 21 and 7 do not refuse slip, page and column
use Rattle.std.specs.Prelude.{◌^◌}
use mathlib.Core.Path.{◌≡◌, sym, ◌∙◌, ap}
use Prim.Native.Nat.{◌≤◌, ◌<◌}
use native.Mathlib.Omega.{arith}
use lib.Seq.{length-take-le, get_or-take}
use Rattle.theory.specs.Basics.{List, length, get_or, take, ℕ, ℤ, pos, Each}
use Rattle.theory.proofs.Basics.AtPlace.{each_at}
use Rattle.theory.proofs.Basics.Laws.{each_same}
use Rattle.theory.specs.Bounds.Laws.{largest_limit}
use Rattle.theory.specs.Limits.{page_limit}
use Rattle.theory.specs.Refusals.{first_of}
use Rattle.pages.specs.Line.{Line}
use Rattle.pages.specs.declared.Slip.{Slip}
use Rattle.pages.specs.Page.{line_of, line_at}
use Rattle.pages.specs.Mode.{weighted, unit, gathered_mode, waiting_in}
use Rattle.pages.specs.Sound.{line_value, page_checks_in}
use Rattle.pages.specs.Sound.Laws.{SoundLine, line-wider, asked, SoundIn}
use Rattle.pages.specs.Sound.Bounds.{asked-within}
use Rattle.pages.specs.Lawful.Checks.{passed-page}
use Rattle.pages.specs.Lawful.Gathered.{as_long, length-alongside, alongside-at, gathered-lawful}
use Rattle.characters.proofs.WatchLaws.{waiting-fits}
use Rattle.gathered.proofs.Alone.{own_line}
use Rattle.gathered.proofs.LineSizes.{value-within}

abbrev pub word_at : List ℕ → ℕ → ℕ
word_at page i = get_or page i 0

abbrev pub coefficient_at : List ℤ → ℕ → ℤ
coefficient_at column i = get_or column i (pos 0)

module _ (limit : ℕ) (slip : Slip) (page : List ℕ) (column : List ℤ) where
  abbrev lines : List Line
  lines = waiting_in gathered_mode slip (page, column)

  pub record Passed : Type 0 where
    pub short : length page ≤ page_limit
    pub same : length page ≡ length column
    pub soundness : SoundIn gathered_mode limit slip (page, column)

  pub lent-passed : first_of (gathered_mode.lent_checks (page, column)) ≡ 0
      → SoundIn gathered_mode limit slip (page, column) → Passed
  lent-passed lent soundness =
      let (short, same) = as_long page column lent in
      record { short = short; same = same; soundness = soundness }

  pub passed : first_of (page_checks_in gathered_mode limit slip (page, column)) ≡ 0 → Passed
  passed none =
      let (lent, soundness) = passed-page gathered-lawful limit slip (page, column) none in
      lent-passed lent soundness

  module _ (p : Passed) where
    pub front-words : length (take slip.lines page) ≡ slip.lines
    front-words = length-take-le slip.lines page p.soundness.fit

    pub front-column : length (take slip.lines column) ≡ slip.lines
    front-column = length-take-le slip.lines column (omega (arith, p.same, p.soundness.fit))

    lines-count : length lines ≡ slip.lines
    lines-count =
        length-alongside (take slip.lines page) (take slip.lines column) (front-words ∙ sym front-column)
        ∙ front-words

    pub lines-within : Each (SoundLine limit) lines
    lines-within =
        each_same (SoundLine (asked slip)) (SoundLine limit) lines
        (λ l. line-wider (asked-within limit slip lines p.soundness.lines)) p.soundness.lines.each

    module _ (line : ℕ) (there : line < slip.lines) where
      pub line_read : line_at lines line ≡ weighted (word_at page line) (coefficient_at column line)
      line_read =
          alongside-at (take slip.lines page) (take slip.lines column) line (front-words ∙ sym front-column)
          (omega (arith, front-words))
          ∙ rw (get_or-take slip.lines page line 0 there, get_or-take slip.lines column line (pos 0) there)

      pub line-sound : SoundLine limit (weighted (word_at page line) (coefficient_at column line))
      line-sound =
          rw line_read at (each_at (SoundLine limit) lines (line_of 0) line lines-within (omega (arith, lines-count)))

      -- by itself, without its coefficient
      pub own_read : line_of (word_at page line) ≡ unit (line_at lines line)
      own_read = own_line (word_at page line) (coefficient_at column line) line-sound ∙ ap unit (sym line_read)

      pub line-room : limit ≤ largest_limit
          → line_value (weighted (word_at page line) (coefficient_at column line)) < 2 ^ 63
      line-room small =
          let same = ap line_value line_read in
          omega (
            arith,
            same,
            each_at _ lines (line_of 0) line (value-within lines) (omega (arith, lines-count)),
            waiting-fits limit small slip lines p.soundness.lines,
          )
