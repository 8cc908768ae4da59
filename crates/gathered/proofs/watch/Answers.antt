-- `gathered::watch` meets its contract: a check refuses, or each kind shows what its equation says.
use mathlib.Core.Path.{◌≡◌, refl, sym, ◌∙◌, ap}
use Prim.Native.Nat.{◌*◌, ◌≤◌, ◌<◌, ◌^◌}
use lib.IntN.{pos}
use Rattle.theory.specs.Basics.{List, length, ℕ, ℤ}
use native.Mathlib.Omega.{arith}
use mir.Facts.{to_z-of_z}
use mir.Syntax.{w64}
use mir.Val.{Fits, SFits}
use borrow.Author.Rules.{rules}
use Rattle.theory.specs.Limits.{degree_limit}
use Rattle.theory.specs.Refusals.{first_of}
use Rattle.theory.specs.Bounds.Laws.{largest_limit}
use Rattle.words.proofs.Told.{refuses}
use Rattle.pages.specs.declared.Slip.{Slip}
use Rattle.pages.specs.Line.{signed_character}
use Rattle.pages.specs.Mode.{weighted, gathered_mode}
use Rattle.pages.specs.Sound.{line_value}
use Rattle.pages.specs.Sound.Laws.{SoundLine}
use Rattle.pages.specs.Lawful.Gathered.{gathered-lawful}
use Rattle.pages.proofs.Signed.{carried}
use Rattle.characters.specs.Watch.{whole, quotient, ratio, shown_in, watch_checks_in}
use Rattle.characters.proofs.WatchLaws.{watch-refused, Watching, watching, shows-by, waiting-fits, waiting-carried}
use Rattle.characters.proofs.WatchLaws.{last-kind}
use Rattle.pages.specs.Gathering.Sound.{sound-weighing}
use Rattle.gathered.proofs.Reading.{word_at, coefficient_at, Passed, lent-passed, front-words, front-column}
use Rattle.gathered.proofs.Reading.{lines-within, line_read, line-sound, own_read, line-room}
use Rattle.gathered.proofs.Weights.{handed-sound, handed-carried}
use Rattle.gathered.proofs.watch.Goals as goal

small : degree_limit ≤ largest_limit
small = omega arith

-- what no check refuses
module _ (slip : Slip) (words : List ℕ) (column : List ℤ) (kind line : ℕ)
    (none : 0 ≡ first_of (watch_checks_in gathered_mode degree_limit slip (words, column) kind line)) where
  passed : Watching gathered-lawful degree_limit slip (words, column) kind line
  passed = watching gathered-lawful degree_limit slip (words, column) kind line 0 none refl

  lent : Passed degree_limit slip words column
  lent = lent-passed _ _ _ _ passed.lent passed.soundness

  -- the line that is named, its coefficient as it is handed on
  module _ (of-line : kind ≤ 2) where
    there : line < slip.lines
    there = passed.there of-line

    inside : (line < length words) × (line < length column)
    inside = (omega (arith, there, lent.soundness.fit), omega (arith, there, lent.soundness.fit, lent.same))

    index : Fits w64 (line * 8)
    index = omega (arith, inside.0, lent.short)

    is-sound : SoundLine degree_limit (weighted (word_at words line) (coefficient_at column line))
    is-sound = line-sound degree_limit slip words column lent line there

    room : line_value (weighted (word_at words line) (coefficient_at column line)) < 2 ^ 63
    room = line-room degree_limit slip words column lent line there small

pub returns-in-Err : goal.returns-in-Err
returns-in-Err c =
    let a = c.args in
    rw c.number.ensures
    (watch-refused gathered-lawful degree_limit a.slip (a.page.now, a.coefficients.now) a.kind a.line _ c.in-Err.ensures
    (refuses _))

pub offset_bounds-page-line : goal.offset_bounds-page-line
offset_bounds-page-line c =
    let a = c.args in
    index a.slip a.page.now a.coefficients.now a.kind a.line c.in_default.ensures (omega arith)

pub bounds-page-line : goal.bounds-page-line
bounds-page-line c =
    let a = c.args in
    (inside a.slip a.page.now a.coefficients.now a.kind a.line c.in_default.ensures (omega arith)).0

pub offset_bounds-coefficients-line : goal.offset_bounds-coefficients-line
offset_bounds-coefficients-line c =
    let a = c.args in
    index a.slip a.page.now a.coefficients.now a.kind a.line c.in_default.ensures (omega arith)

pub bounds-coefficients-line : goal.bounds-coefficients-line
bounds-coefficients-line c =
    let a = c.args in
    (inside a.slip a.page.now a.coefficients.now a.kind a.line c.in_default.ensures (omega arith)).1

pub signed_character-requires : goal.signed_character-requires
signed_character-requires c =
    let a = c.args in
    handed-sound _ _ (is-sound a.slip a.page.now a.coefficients.now a.kind a.line c.in_default.ensures (omega arith)) (room a.slip a.page.now a.coefficients.now a.kind a.line c.in_default.ensures (omega arith))

pub offset_bounds-page-line-in-2 : goal.offset_bounds-page-line-in-2
offset_bounds-page-line-in-2 c =
    let a = c.args in
    index a.slip a.page.now a.coefficients.now a.kind a.line c.in_default.ensures (omega arith)

pub bounds-page-line-in-2 : goal.bounds-page-line-in-2
bounds-page-line-in-2 c =
    let a = c.args in
    (inside a.slip a.page.now a.coefficients.now a.kind a.line c.in_default.ensures (omega arith)).0

pub ratio-requires : goal.ratio-requires
ratio-requires c =
    let a = c.args in
    sound-weighing _ _ (pos 1) (is-sound a.slip a.page.now a.coefficients.now a.kind a.line c.in_default.ensures (omega arith))

pub slice_bounds-sum-end : goal.slice_bounds-sum-end
slice_bounds-sum-end c =
    let a = c.args in
    sym (front-words _ _ _ _ (lent a.slip a.page.now a.coefficients.now a.kind a.line c.in_default.ensures))

pub slice_bounds-sum-end-in-4 : goal.slice_bounds-sum-end-in-4
slice_bounds-sum-end-in-4 c =
    let a = c.args in
    sym (front-column _ _ _ _ (lent a.slip a.page.now a.coefficients.now a.kind a.line c.in_default.ensures))

pub sum-requires : goal.sum-requires
sum-requires c =
    let a = c.args in
    let p = lent a.slip a.page.now a.coefficients.now a.kind a.line c.in_default.ensures in (
      front-words _ _ _ _ p ∙ sym (front-column _ _ _ _ p),
      lines-within _ _ _ _ p,
      waiting-fits _ small _ _ p.soundness.lines,
    )

pub returns-in-1 : goal.returns-in-1
unfolding shown_in
returns-in-1 c =
    let a = c.args in
    let of-line : a.kind ≤ 2 = omega arith in
    let is = handed-carried _ _ (is-sound a.slip a.page.now a.coefficients.now a.kind a.line c.in_default.ensures of-line) (room a.slip a.page.now a.coefficients.now a.kind a.line c.in_default.ensures of-line) _ c.signed_character.ensures in
    let read = line_read _ _ _ _ (lent a.slip a.page.now a.coefficients.now a.kind a.line c.in_default.ensures) _ (there a.slip a.page.now a.coefficients.now a.kind a.line c.in_default.ensures of-line) in
    shows-by gathered-lawful _ _ _ _ _ (passed a.slip a.page.now a.coefficients.now a.kind a.line c.in_default.ensures) 1 c.in-1.is _ (ap whole (is ∙ ap signed_character (sym read)))

pub returns-in-2 : goal.returns-in-2
unfolding shown_in
returns-in-2 c =
    let a = c.args in
    let own = own_read _ _ _ _ (lent a.slip a.page.now a.coefficients.now a.kind a.line c.in_default.ensures) _ (there a.slip a.page.now a.coefficients.now a.kind a.line c.in_default.ensures (omega arith)) in
    c.ratio.ensures ∙ shows-by gathered-lawful _ _ _ _ _ (passed a.slip a.page.now a.coefficients.now a.kind a.line c.in_default.ensures) 2 c.in-2.is _ (ap quotient (ap ratio own))

pub returns-in-3 : goal.returns-in-3
unfolding shown_in
returns-in-3 c =
    let a = c.args in
    let settled : SFits w64 a.slip.settled = search rules in
    shows-by gathered-lawful _ _ _ _ _ (passed a.slip a.page.now a.coefficients.now a.kind a.line c.in_default.ensures) 3 c.in-3.is _ (ap whole (to_z-of_z settled))

pub returns-in-4 : goal.returns-in-4
unfolding shown_in
returns-in-4 c =
    let a = c.args in
    let w = passed a.slip a.page.now a.coefficients.now a.kind a.line c.in_default.ensures in
    let is = ap carried c.sum.ensures ∙ waiting-carried _ small _ _ w.soundness.lines in
    shows-by gathered-lawful _ _ _ _ _ w 4 c.in-4.is _ (ap whole is)

pub returns-in_default-kind : goal.returns-in_default-kind
unfolding shown_in
returns-in_default-kind c =
    let a = c.args in
    let w = passed a.slip a.page.now a.coefficients.now a.kind a.line c.in_default.ensures in
    let steps : SFits w64 a.slip.steps = search rules in
    let rest = c.in_default-kind.in_default-kind-own.rest in
    let fifth = last-kind _ w.some w.within rest.0.0.0.1 rest.0.0.1 rest.0.1 rest.1 in
    shows-by gathered-lawful _ _ _ _ _ w 5 fifth _ (ap whole (to_z-of_z steps))
