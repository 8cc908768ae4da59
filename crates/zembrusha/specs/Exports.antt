-- The answers of the calls as the exports hand them over.
--   of_word answer, of_count answer   the word or the count as a number, the refusal number beside it
--   of_good answer                   the good word, the ones dropped and the refusal number
--   of_list answer                   of a list, the index beside it; listed outcome, with the lent list as it is
--   given slip                      the slip that the calculator is handed; slip_over slip, one that it hands back
--   handed_over k slip               with the refusal number k; loaded_over k line slip, of a load, with the text's line
--   handed_run outcome               a handed slip and what is lent: the slip handed over, the other as it is; loaded_run
--                                   so too
--   number value                    the whole number that a watch gives, 0 where it gives none; fraction, the ratio
--   counted outcome                 an answer and a lent run: the answer handed over, the run as it is
--   NumberOf Promised r             r is the number of an answer that is promised
use Rattle.std.specs.Prelude.{◌≡◌, Float}
use Rattle.std.specs.Float.{binary64}
use Rattle.std.specs.Float.Ieee.{of_bits}
use Rattle.theory.specs.Basics.{List, ℕ, ℤ, pos}
use Rattle.words.specs.Answers.{CountAnswer}
use Rattle.words.specs.Answers.{GoodAnswer}
use Rattle.words.specs.Answers.{NumberAnswer}
use Rattle.words.specs.Answers.{WordAnswer}
use Rattle.oldlists.specs.Lists.{ListAnswer}
use Rattle.pages.specs.declared.Slip as calculator
use Rattle.sessions.specs.Opening as calculator-handed
use Rattle.sessiontext.specs.Calls as calculator-loaded
use Rattle.characters.specs.Watch.{Value, whole, quotient, none}
use Rattle.zembrusha.specs.declared.Number.{Number}
use Rattle.zembrusha.specs.declared.Good.{Good}
use Rattle.zembrusha.specs.declared.Listed.{Listed}
use Rattle.zembrusha.specs.declared.Slip.{Slip}
use Rattle.zembrusha.specs.declared.Handed.{Handed}
use Rattle.zembrusha.specs.declared.Loaded.{Loaded}

abbrev pub of_word : WordAnswer → Number
of_word a = record { refused = a.refused; number = a.word }

abbrev pub of_count : CountAnswer → Number
of_count a = record { refused = a.refused; number = a.count }

abbrev pub counted : {A : Type 0} → CountAnswer × List A → Number × List A
counted x = (of_count x.0, x.1)

abbrev pub of_good : GoodAnswer → Good
of_good a = record { refused = a.refused; word = a.word; dropped = a.dropped }

abbrev pub of_list : ListAnswer → Listed
of_list a = record { refused = a.refused; index = a.index }

abbrev pub listed : ListAnswer × List ℕ → Listed × List ℕ
listed x = (of_list x.0, x.1)

pub record NumberOf (Promised : NumberAnswer → Type 0) (r : ℤ) : Type 0 where
  pub answer : NumberAnswer
  pub promised : Promised answer
  pub number : r ≡ answer.number

abbrev pub given : Slip → calculator.Slip
given s = record {
  shape = s.shape;
  class = s.class_word;
  settled = s.settled;
  lines = s.lines;
  steps = s.steps;
  mode = s.mode;
}

abbrev pub slip_over : calculator.Slip → Slip
slip_over s = record {
  shape = s.shape;
  class_word = s.class;
  settled = s.settled;
  lines = s.lines;
  steps = s.steps;
  mode = s.mode;
}

abbrev pub handed_over : ℕ → calculator.Slip → Handed
handed_over k s = record { refused = k; slip = slip_over s }

abbrev pub loaded_over : ℕ → ℕ → calculator.Slip → Loaded
loaded_over k line s = record { refused = k; line = line; slip = slip_over s }

abbrev pub handed_run : {L : Type 0} → calculator-handed.Handed × L → Handed × L
handed_run x = (handed_over x.0.refused x.0.slip, x.1)

abbrev pub loaded_run : {L : Type 0} → calculator-loaded.Loaded × L → Loaded × L
loaded_run x = (loaded_over x.0.refused x.0.line x.0.slip, x.1)

abbrev pub number : Value → ℤ
number (whole z) = z
number (quotient q) = pos 0
number none = pos 0

abbrev pub fraction : Value → Float
fraction (whole z) = of_bits binary64 0
fraction (quotient q) = q
fraction none = of_bits binary64 0
