-- `gathered::joining::find` meets its contract: the position, and the number of words where there is none.
use Rattle.std.proofs.Common.{◌≡◌, ◌∙◌, ap, ℕ, length, rules, tests}
use Rattle.std.specs.Prelude.{◌==◌, position, Option}
use Rattle.std.specs.Option.{unwrap_or}
use Rattle.std.proofs.lemmas.Iterator.{YieldsList-from_slice}
use Rattle.std.proofs.lemmas.Iterator.Search.{position_from_yields_List}
use Rattle.gathered.proofs.Loops.{position-place}
use Rattle.gathered.proofs.joining.find.Goals as goal

pub returns : goal.returns
returns c =
    let found : c.position.result ≡ position (λ (y : ℕ). y == c.args.word) c.args.page.now =
    position_from_yields_List (λ (y : ℕ). y == c.args.word) _ _ c.position.result c.position.ensures.ran
    (YieldsList-from_slice _ c.iter.ensures.rest) (λ x b q k. search (rules, tests)) in
    c.unwrap_or.ensures ∙ ap (λ (o : Option ℕ). unwrap_or o (length c.args.page.now)) found
    ∙ position-place c.args.page.now c.args.word
