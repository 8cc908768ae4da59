-- What has been summed and what is left come to the whole.
use Rattle.std.proofs.Common.{◌<◌, ◌^◌, arith}
use Rattle.std.proofs.lemmas.List.{length-map, get_or-map}
use Rattle.theory.specs.Basics.{List, map, length, get_or, ℕ, ℤ, Each}
use Rattle.theory.specs.Bounds.Laws.{largest_limit}
use Rattle.pages.specs.Page.{line_of}
use Rattle.pages.specs.Sound.Laws.{SoundLine, values}
use Rattle.characters.proofs.Sums.{Summing, NextLine, sum-start, sum-next, sum-end}
use Rattle.characters.proofs.lines.sum.Goals as goal

pub loop-line-init : goal.loop-line-init
loop-line-init c = sum-start _ _ c.requires.0 c.requires.1

next : (words : List ℕ) {i : ℕ} {z : ℤ} → Each (SoundLine largest_limit) (map line_of words)
    → values (map line_of words) < 2 ^ 63 → Summing largest_limit (map line_of words) i z → i < length words
    → NextLine largest_limit (map line_of words) i z (line_of (get_or words i 0))
next words {i} {z} each small so_far inside =
    sum-next _ _ each small i z so_far (omega (arith, length-map words line_of)) _
    (get_or-map line_of words i 0 (line_of 0) inside)

pub add_line-sum-requires : goal.add_line-sum-requires
add_line-sum-requires c =
    let step = next c.args.lines.now c.requires.0 c.requires.1 c.loop-line.invariant c.loop-line-test.true in
    (step.soundness, step.room)

pub loop-line-preserved : goal.loop-line-preserved
loop-line-preserved c =
    rw c.add_line-sum.ensures
    (next c.args.lines.now c.requires.0 c.requires.1 c.loop-line.invariant c.loop-line-test.true).again

pub returns : goal.returns
returns c =
    sum-end _ _ c.requires.0 c.requires.1 _ _ c.loop-line.invariant
    (omega (arith, length-map c.args.lines.now line_of, c.loop-line-test.false))
