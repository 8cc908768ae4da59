-- E1 to E13, all by computation: one theorem.
use Rattle.std.specs.Prelude.{refl}
use Rattle.theory.specs.Character.{character}
use Rattle.theory.specs.Digits.{digits, word}
use Rattle.theory.specs.Hooks.{hooks, hook_words}
use Rattle.theory.specs.Bounds.{factorial, S}
use Rattle.words.specs.Calls.{good_shape_word}
use Rattle.pages.specs.Line.{hook_lines}
use Rattle.pages.specs.Sound.{sound_line, sound_lines, sound_in}
use Rattle.sessions.specs.Opening.{opening_in}
use Rattle.sessions.specs.Step.{next_lines_in, next_slip_in, preview_in, commit_in}
use Rattle.examples.specs.Examples.{Examples}

pub examples : Examples
unfolding character digits word good_shape_word hooks hook_words hook_lines factorial S sound_line sound_lines sound_in
    opening_in next_lines_in next_slip_in preview_in commit_in
examples = record {
  E1 = refl;
  E2 = refl;
  E3 = refl;
  E4 = refl;
  E4-row = refl;
  E4-empty = refl;
  E4-dropped = refl;
  E5 = refl;
  E6 = refl;
  E6-parts = refl;
  E7 = refl;
  E8 = refl;
  E9 = refl;
  E10 = refl;
  E11 = refl;
  E11-seen = refl;
  E11-3 = refl;
  E11-3-2 = refl;
  E11-3-seen = refl;
  E12-seen = refl;
  E12-2 = refl;
  E12-2-3 = refl;
  E13-seen = refl;
  E13 = refl;
}
