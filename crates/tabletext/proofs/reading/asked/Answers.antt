-- The input is compared with the line of the number that its digits give, and it can be no other number's line.
use Rattle.std.proofs.Common.{◌≡◌, ◌≤◌, refl, sym, ◌∙◌, arith, ℕ, List, take, length, length-take-le}
use mathlib.Core.Bool.{false≢true}
use Rattle.text.specs.Wrote.{Wrote}
use Rattle.text.specs.Wrote.Laws.{wrote-end, wrote-take, wrote-length}
use Rattle.tabletext.specs.Table.Asked.{asking, asking-short}
use Rattle.tabletext.specs.Private.Reading.Laws.{read_asked, read-nothing}
use Rattle.tabletext.proofs.reading.asked.Goals as goal

-- the line of a number of one or two digits, written in ten bytes
module _ (n : ℕ) (small : n ≤ 99) {before after : List ℕ} {end : ℕ} (room : length before ≡ 10)
    (w : Wrote (asking n) 0 before end after) where
  short : length (asking n) ≤ 10
  short = asking-short n (omega arith)

  line : take end after ≡ asking n
  line = wrote-take w (omega arith) (omega (arith, short))

  within : end ≤ length after
  within = omega (arith, wrote-end w (omega arith) (omega (arith, short)), wrote-length w, short)

pub returns-then-n-gt99 : goal.returns-then-n-gt99
returns-then-n-gt99 c =
    rw (read-nothing _ _ c.number_in-n.ensures (λ h. absurd (omega (arith, c.if-n-gt99.true)))) refl

pub slice_bounds-line-end-3 : goal.slice_bounds-line-end-3
slice_bounds-line-end-3 c = within c.number_in-n.result (omega (arith, c.if-n-gt99.false)) refl c.line-end.ensures

pub slice_bounds-same-end : goal.slice_bounds-same-end
slice_bounds-same-end c =
    sym (length-take-le _ _ (within c.number_in-n.result (omega (arith, c.if-n-gt99.false)) refl c.line-end.ensures))

pub returns-then-same : goal.returns-then-same
returns-then-same c =
    let l = line c.number_in-n.result (omega (arith, c.if-n-gt99.false)) refl c.line-end.ensures in
    rw (read_asked _ _ c.number_in-n.ensures (omega (arith, c.if-n-gt99.false))
    (c.same.ensures.0 c.if-same.true ∙ l)) refl

pub returns-else-same : goal.returns-else-same
returns-else-same c =
    let l = line c.number_in-n.result (omega (arith, c.if-n-gt99.false)) refl c.line-end.ensures in
    rw (read-nothing _ _ c.number_in-n.ensures
    (λ h e. false≢true (sym c.if-same.false ∙ c.same.ensures.1 (e ∙ sym l)))) refl
