-- `gathered::lines::signed_character` meets its contract: the line's words are not refused, and the product has room.
use Rattle.std.proofs.Common.{◌≡◌, refl, ◌≤◌, ◌∙◌, sym, ap, arith}
use Rattle.std.specs.declared.result.Result.{Result}
use Rattle.std.specs.declared.result.Result.TheVariants.{Ok, Err}
use Rattle.std.specs.Result.{IsOk}
use Rattle.theory.specs.Basics.{ℤ}
use Rattle.theory.specs.Bounds.Laws.{largest_limit}
use Rattle.theory.specs.Limits.{degree_limit}
use Rattle.words.specs.declared.refusal.Refusal.{Refusal}
use Rattle.words.specs.Answers.{number_told}
use Rattle.words.proofs.Told.{refuses}
use Rattle.gathered.proofs.Weights.{unrefused, product-room, product_is}
use Rattle.gathered.proofs.lines.signed_character.Goals as goal

small : degree_limit ≤ largest_limit
small = omega arith

ok : (r : Result ℤ Refusal) → (number_told r).refused ≡ 0 → IsOk r
ok (Ok z) is = refl
ok (Err e) is = absurd (refuses e is)

pub unwrap-number-requires : goal.unwrap-number-requires
unwrap-number-requires c =
    let a = c.args in
    ok _ (unrefused a.line a.coefficient c.requires.0 c.requires.1 small _ _ c.shape.ensures c.class.ensures _ c.character.ensures)

pub times-requires : goal.times-requires
times-requires c =
    let a = c.args in
    product-room a.line a.coefficient c.requires.0 c.requires.1 small _ _ c.shape.ensures c.class.ensures (number_told (Ok c.unwrap-number.result)) (ap number_told (sym c.unwrap-number.ensures) ∙ c.character.ensures)

pub returns : goal.returns
returns c =
    let a = c.args in
    product_is a.line a.coefficient c.requires.0 c.requires.1 small _ _ c.shape.ensures c.class.ensures (number_told (Ok c.unwrap-number.result)) (ap number_told (sym c.unwrap-number.ensures) ∙ c.character.ensures) _ c.times.ensures
