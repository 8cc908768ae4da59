-- `gathered::lines::sum` meets its contract. What has been summed and what is left come to the whole.
use Rattle.std.proofs.Common.{◌≡◌, ◌∙◌, ◌<◌, ◌^◌, ap₂, sym, ℕ, ℤ, List, pos, length, get_or, arith}
use Rattle.std.proofs.lemmas.Slice.Zip.{zip_turn, zip_end}
use Rattle.std.proofs.lemmas.List.{length_push}
use Rattle.theory.specs.Limits.{degree_limit}
use Rattle.theory.specs.Basics.{Each}
use Rattle.theory.proofs.Bounds.Laws.{abs-add}
use Rattle.pages.specs.Mode.{weighted, alongside}
use Rattle.pages.specs.Sound.Laws.{SoundLine, values}
use Rattle.pages.specs.Sound.Bounds.{line-bounded}
use Rattle.pages.specs.Lawful.Gathered.{length-alongside, alongside-at}
use Rattle.pages.proofs.Signed.{room}
use Rattle.characters.proofs.Sums.{Summing, NextLine, sum-start, sum-next, sum-end}
use Rattle.gathered.proofs.Weights.{handed-sound, handed-carried}
use Rattle.gathered.proofs.lines.sum.Goals as goal

-- the line of this turn
next : (xs : List ℕ) (zs : List ℤ) (n x : ℕ) (z sum : ℤ) → (length xs ≡ length zs)
    × Each (SoundLine degree_limit) (alongside xs zs) × (values (alongside xs zs) < 2 ^ 63)
    → (n < length xs) × (n < length zs) × ((d : ℕ) → x ≡ get_or xs n d) × ((d : ℤ) → z ≡ get_or zs n d)
    → Summing degree_limit (alongside xs zs) n sum → NextLine degree_limit (alongside xs zs) n sum (weighted x z)
next xs zs n x z sum (same, each, small) turn s =
    sum-next _ _ each small _ _ s (omega (arith, length-alongside xs zs same, turn.0)) _
    (alongside-at xs zs n same turn.0 ∙ sym (ap₂ weighted (turn.2 0) (turn.3 (pos 0))))

pub loop-line-init : goal.loop-line-init
loop-line-init c = sum-start _ _ c.requires.1 c.requires.2

pub signed_character-sum-requires : goal.signed_character-sum-requires
signed_character-sum-requires c =
    let turn = zip_turn c.args.lines.now c.args.coefficients.now c.loop-line.yielded c.into_iter-line-iterator.result c.loop-line.line-iterator c.next.new.self c.next.result (cc) (cc) c.loop-line.yielded_by _ c.in-Some.is c.next.ensures.steps in
    let n = next _ _ _ _ _ _ c.requires turn c.loop-line.invariant in
    handed-sound _ _ n.soundness (omega (arith, n.room))

pub overflow_add-sum : goal.overflow_add-sum
overflow_add-sum c =
    let turn = zip_turn c.args.lines.now c.args.coefficients.now c.loop-line.yielded c.into_iter-line-iterator.result c.loop-line.line-iterator c.next.new.self c.next.result (cc) (cc) c.loop-line.yielded_by _ c.in-Some.is c.next.ensures.steps in
    let n = next _ _ _ _ _ _ c.requires turn c.loop-line.invariant in
    let whole = handed-carried _ _ n.soundness (omega (arith, n.room)) _ c.signed_character-sum.ensures in
    rw whole (room _ (omega (arith, abs-add, line-bounded n.soundness, n.room)))

pub loop-line-preserved : goal.loop-line-preserved
loop-line-preserved c =
    let turn = zip_turn c.args.lines.now c.args.coefficients.now c.loop-line.yielded c.into_iter-line-iterator.result c.loop-line.line-iterator c.next.new.self c.next.result (cc) (cc) c.loop-line.yielded_by _ c.in-Some.is c.next.ensures.steps in
    let n = next _ _ _ _ _ _ c.requires turn c.loop-line.invariant in
    rw (length_push, handed-carried _ _ n.soundness (omega (arith, n.room)) _ c.signed_character-sum.ensures) n.again

pub returns : goal.returns
returns c =
    let end = zip_end c.args.lines.now c.args.coefficients.now c.loop-line.yielded c.into_iter-line-iterator.result c.loop-line.line-iterator c.next.new.self c.next.result (cc) (cc) c.loop-line.yielded_by c.in-None.is c.next.ensures.steps in
    let many = length-alongside c.args.lines.now c.args.coefficients.now c.requires.0 in
    sum-end _ _ c.requires.1 c.requires.2 _ _ c.loop-line.invariant (omega (arith, many, end, c.requires.0))
