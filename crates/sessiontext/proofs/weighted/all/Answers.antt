-- After i turns the first i lines stand there.
use Rattle.std.proofs.Common.{◌≡◌, ◌<◌, ℕ, List, arith, length}
use native.Mathlib.Numerals.{add-one}
use mir.Facts.{to_z-of_z}
use mir.Syntax.{w64}
use mir.Val.{to_z, of_z}
use lib.Seq.{take_all}
use Rattle.theory.specs.Basics.{ℤ, get_or, pos, Each}
use Rattle.theory.proofs.Basics.AtPlace.{each_at}
use Rattle.theory.proofs.Basics.Laws.{joined-next}
use Rattle.theory.specs.Limits.{degree_limit}
use Rattle.text.specs.Wrote.Laws.{wrote_then}
use Rattle.pages.specs.Page.{line_of, line_at}
use Rattle.pages.specs.Mode.{weighted, alongside}
use Rattle.pages.specs.Lawful.Gathered.{length-alongside, alongside-at}
use Rattle.sessiontext.specs.SessionText.{gathered_form, line_text_by}
use Rattle.sessiontext.specs.SessionText.Faithful.Gathered.{gathered-faithful}
use Rattle.sessiontext.specs.SessionText.Storable.{StorableLineBy}
use Rattle.sessiontext.proofs.Words.{held_fits}
use Rattle.sessiontext.proofs.weighted.all.Goals as goal

-- a line with its coefficient, as it is handed on
module _ (lines : List ℕ) (coefficients : List ℤ) (i : ℕ) (same : length lines ≡ length coefficients) (h : i < length lines)
    (each : Each (StorableLineBy gathered-faithful degree_limit) (alongside lines coefficients)) where
  many : length (alongside lines coefficients) ≡ length lines
  many = length-alongside lines coefficients same

  its-line : line_at (alongside lines coefficients) i ≡ weighted (get_or lines i 0) (get_or coefficients i (pos 0))
  its-line = alongside-at lines coefficients i same h

  storable : StorableLineBy gathered-faithful degree_limit (weighted (get_or lines i 0) (get_or coefficients i (pos 0)))
  storable =
      rw its-line at
      (each_at (StorableLineBy gathered-faithful degree_limit) (alongside lines coefficients) (line_of 0) i each
      (omega (arith, many, h)))

  handed : to_z w64 (of_z w64 (get_or coefficients i (pos 0))) ≡ get_or coefficients i (pos 0)
  unfolding gathered-faithful
  handed = to_z-of_z {w = w64} (held_fits _ storable.kept)

pub bounds-coefficients-i : goal.bounds-coefficients-i
bounds-coefficients-i c = omega (arith, c.loop-i-test.true, c.requires.0)

pub line-end-requires : goal.line-end-requires
line-end-requires c =
    let a = c.args in
    rw (handed a.lines.now a.coefficients.now c.loop-i.i c.requires.0 c.loop-i-test.true c.requires.1)
    (storable a.lines.now a.coefficients.now c.loop-i.i c.requires.0 c.loop-i-test.true c.requires.1)

pub loop-i-preserved : goal.loop-i-preserved
loop-i-preserved c =
    let a = c.args in
    let i = c.loop-i.i in
    let h = c.loop-i-test.true in
    let next = joined-next (line_text_by gathered_form) (alongside a.lines.now a.coefficients.now) (line_of 0) i
    (omega (arith, many a.lines.now a.coefficients.now i c.requires.0 h c.requires.1, h)) in
    rw (add-one, next, its-line a.lines.now a.coefficients.now i c.requires.0 h c.requires.1)
    (wrote_then c.loop-i.invariant (omega arith)
    (rw (handed a.lines.now a.coefficients.now i c.requires.0 h c.requires.1) at c.line-end.ensures))

pub returns : goal.returns
returns c =
    let a = c.args in
    rw (take_all c.loop-i.i (alongside a.lines.now a.coefficients.now)
    (omega (arith, length-alongside a.lines.now a.coefficients.now c.requires.0, c.loop-i-test.false))) at c.loop-i.invariant
