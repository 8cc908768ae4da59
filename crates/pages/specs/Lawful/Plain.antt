-- The laws of the plain mode.
use Rattle.std.specs.Prelude.{refl, ◌∷◌, ◌++◌, ◌-◌}
use Rattle.std.proofs.Common.{◌∙◌, ap, arith, ltb-false, le-ltb, length-take-le}
use Rattle.std.proofs.lemmas.List.{length-map}
use Rattle.theory.specs.Basics.{[], map, length, take, drop, replicate, ℕ}
use Rattle.theory.proofs.Basics.Laws.{each_append, sum-append}
use Rattle.theory.proofs.Basics.Keep.{total-append}
use Rattle.theory.specs.Limits.{page_limit}
use Rattle.theory.specs.Refusals.{no-6}
use Rattle.theory.proofs.Refusals.Laws.{none-applies}
use Rattle.pages.specs.Line.{signed_character}
use Rattle.pages.specs.Page.{line_of, word_of, padded}
use Rattle.pages.specs.Page.Words.{Plain, plain_lines}
use Rattle.pages.specs.Page.Padded.{length-padded, lines-padded, zeros-padded}
use Rattle.pages.specs.Mode.{plain_mode}
use Rattle.pages.specs.Sound.{line_value, line_span}
use Rattle.pages.specs.Sound.Laws.{SoundLine, zero-all}
use Rattle.pages.specs.Lawful.{Lawful}

unfoldable pub plain-lawful : Lawful plain_mode
plain-lawful = record {
  numbered = λ page. refl;
  short = λ page none. ltb-false page_limit (length page) (none-applies (no-6 page ∷ []) refl none).0;
  waits-length = λ n page none fit. length-map (take n page) line_of ∙ length-take-le n page fit;
  Written = Plain;
  written-waits = λ n page. plain_lines (take n page);
  written-unit = λ l unit shape class. record { unit = unit; shape-fits = shape; class-fits = class };
  written-like = λ l y w size shape class. record { unit = size ∙ w.unit; shape-fits = shape; class-fits = class };
  waits-put = λ lines page w. lines-padded lines page w;
  idle-put = λ lines page. zero-all (drop (length lines) (padded lines page)) (zeros-padded lines page);
  length-put = λ lines page room. length-padded lines page room;
  lent-put = λ lines page none room.
      let short = ltb-false page_limit (length page) (none-applies (no-6 page ∷ []) refl none).0 in
      rw (length-padded lines page room, le-ltb page_limit (length page) short) refl;
  put-alike = λ lines x y a b e. ap (λ (n : ℕ). map word_of lines ++ replicate (n - length lines) 0) e;
  written-join = λ xs ys. each_append Plain xs ys;
  sound-join = λ n xs ys. each_append (SoundLine n) xs ys;
  worth-join = λ xs ys. sum-append signed_character xs ys;
  values_join = λ xs ys. omega (arith, total-append line_value xs ys);
  spans-join = λ xs ys. omega (arith, total-append line_span xs ys);
  stands-none = refl;
  stands_one = λ l unit. refl;
  stands-without = λ i lines stands. refl;
  stands-join = λ xs ys stands. refl;
  own-unit = λ l w. w.unit;
  own-words = λ l. (refl, refl);
}
