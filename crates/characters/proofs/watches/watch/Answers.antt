-- `characters::watches::watch`: a check refuses, or each kind shows what its equation says.
use Rattle.std.proofs.Common.{◌≡◌, refl, length, ◌∙◌, ◌≤◌, ◌<◌, sym, ap, ℕ, List}
use native.Mathlib.Omega.{arith}
use lib.Seq.{length-take-le}
use mir.Facts.{to_z-of_z}
use mir.Syntax.{w64}
use mir.Val.{SFits}
use borrow.Author.Rules.{rules}
use Rattle.theory.specs.Basics.{get_or}
use Rattle.theory.specs.Limits.{degree_limit}
use Rattle.theory.specs.Bounds.Laws.{largest_limit}
use Rattle.theory.specs.Refusals.{first_of}
use Rattle.pages.specs.declared.Slip.{Slip}
use Rattle.pages.specs.Line.{signed_character}
use Rattle.pages.specs.Page.{line_of, line_at}
use Rattle.pages.specs.Mode.{waiting}
use Rattle.pages.specs.Sound.Laws.{SoundLine, line-wider}
use Rattle.pages.specs.Lawful.Plain.{plain-lawful}
use Rattle.pages.proofs.Signed.{carried}
use Rattle.pages.proofs.SoundPages.{line_word, sound-line-at}
use Rattle.words.proofs.Told.{refuses}
use Rattle.characters.specs.Watch.{whole, quotient, ratio, shown_in, watch_checks}
use Rattle.characters.proofs.WatchLaws.{watch-refused, Watching, watching, shows-by, waiting-sound, waiting-fits}
use Rattle.characters.proofs.WatchLaws.{waiting-carried, last-kind, alone-fits, alone-carried}
use Rattle.characters.proofs.watches.watch.Goals as goal

small : degree_limit ≤ largest_limit
small = omega arith

-- what no check refuses, and the line that is named, as it stands on the page and as it waits
module _ (slip : Slip) (page : List ℕ) (kind line : ℕ) (none : 0 ≡ first_of (watch_checks degree_limit slip page kind line))
  where
    passed : Watching plain-lawful degree_limit slip page kind line
    passed = watching plain-lawful degree_limit slip page kind line 0 none refl

    module _ (of-line : kind ≤ 2) where
      on-page : line < length page
      on-page = omega (arith, passed.there of-line, passed.soundness.fit)

      line-sound : SoundLine degree_limit (line_of (get_or page line 0))
      line-sound = sound-line-at degree_limit slip page passed.soundness line (passed.there of-line)

      chosen : line_of (get_or page line 0) ≡ line_at (waiting slip page) line
      chosen = sym (line_word slip page line (passed.there of-line))

pub returns-in-Err : goal.returns-in-Err
returns-in-Err c =
    let a = c.args in
    rw c.number.ensures
    (watch-refused plain-lawful degree_limit a.slip a.page.now a.kind a.line _ c.in-Err.ensures (refuses _))

pub offset_bounds-page-line : goal.offset_bounds-page-line
offset_bounds-page-line c =
    let a = c.args in
    omega (arith, c.well_formed.1.0.1, on-page a.slip a.page.now a.kind a.line c.in_default.ensures (omega arith))

pub bounds-page-line : goal.bounds-page-line
bounds-page-line c =
    let a = c.args in
    on-page a.slip a.page.now a.kind a.line c.in_default.ensures (omega arith)

pub add_line-requires : goal.add_line-requires
add_line-requires c =
    let a = c.args in
    let s = line-sound a.slip a.page.now a.kind a.line c.in_default.ensures (omega arith) in
    (line-wider (omega arith) s, alone-fits _ small _ s)

pub offset_bounds-page-line-in-2 : goal.offset_bounds-page-line-in-2
offset_bounds-page-line-in-2 c =
    let a = c.args in
    omega (arith, c.well_formed.1.0.1, on-page a.slip a.page.now a.kind a.line c.in_default.ensures (omega arith))

pub bounds-page-line-in-2 : goal.bounds-page-line-in-2
bounds-page-line-in-2 c =
    let a = c.args in
    on-page a.slip a.page.now a.kind a.line c.in_default.ensures (omega arith)

pub ratio-requires : goal.ratio-requires
ratio-requires c =
    let a = c.args in
    line-sound a.slip a.page.now a.kind a.line c.in_default.ensures (omega arith)

pub slice_bounds-sum-end : goal.slice_bounds-sum-end
slice_bounds-sum-end c =
    let a = c.args in
    sym (length-take-le _ _ (passed a.slip a.page.now a.kind a.line c.in_default.ensures).soundness.fit)

pub sum-requires : goal.sum-requires
sum-requires c =
    let a = c.args in
    let s = (passed a.slip a.page.now a.kind a.line c.in_default.ensures).soundness in
    (waiting-sound _ small a.slip _ s.lines, waiting-fits _ small a.slip _ s.lines)

pub returns-in-1 : goal.returns-in-1
unfolding shown_in
returns-in-1 c =
    let a = c.args in
    let s = line-sound a.slip a.page.now a.kind a.line c.in_default.ensures (omega arith) in
    let line = ap signed_character (chosen a.slip a.page.now a.kind a.line c.in_default.ensures (omega arith)) in
    let is = ap carried c.add_line.ensures ∙ alone-carried _ small _ s ∙ line in
    let w = passed a.slip a.page.now a.kind a.line c.in_default.ensures in
    shows-by plain-lawful _ _ _ _ _ w 1 c.in-1.is _ (ap whole is)

pub returns-in-2 : goal.returns-in-2
unfolding shown_in
returns-in-2 c =
    let a = c.args in
    let w = passed a.slip a.page.now a.kind a.line c.in_default.ensures in
    shows-by plain-lawful _ _ _ _ _ w 2 c.in-2.is _
    (ap quotient
    (c.ratio.ensures ∙ ap ratio (chosen a.slip a.page.now a.kind a.line c.in_default.ensures (omega arith))))

pub returns-in-3 : goal.returns-in-3
unfolding shown_in
returns-in-3 c =
    let a = c.args in
    let settled : SFits w64 a.slip.settled = search rules in
    let w = passed a.slip a.page.now a.kind a.line c.in_default.ensures in
    shows-by plain-lawful _ _ _ _ _ w 3 c.in-3.is _ (ap whole (to_z-of_z settled))

pub returns-in-4 : goal.returns-in-4
unfolding shown_in
returns-in-4 c =
    let a = c.args in
    let w = passed a.slip a.page.now a.kind a.line c.in_default.ensures in
    let is = ap carried c.sum.ensures ∙ waiting-carried _ small a.slip _ w.soundness.lines in
    shows-by plain-lawful _ _ _ _ _ w 4 c.in-4.is _ (ap whole is)

pub returns-in_default-kind : goal.returns-in_default-kind
unfolding shown_in
returns-in_default-kind c =
    let a = c.args in
    let w = passed a.slip a.page.now a.kind a.line c.in_default.ensures in
    let steps : SFits w64 a.slip.steps = search rules in
    let rest = c.in_default-kind.in_default-kind-own.rest in
    let fifth = last-kind _ w.some w.within rest.0.0.0.1 rest.0.0.1 rest.0.1 rest.1 in
    shows-by plain-lawful _ _ _ _ _ w 5 fifth _ (ap whole (to_z-of_z steps))
