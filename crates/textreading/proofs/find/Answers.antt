-- A byte is found behind those before it, or none is.
use Rattle.std.proofs.Common.{◌≡◌, ◌∙◌, ◌+◌, ◌-◌, ap, arith, rules, length, take, length-drop}
use Rattle.std.proofs.Math.Seq.{take_all}
use Rattle.std.proofs.lemmas.Iterator.{YieldsList-from_slice}
use Rattle.std.proofs.lemmas.Iterator.Search.{position_from_yields_List}
use Rattle.theory.specs.Basics.{drop, ◌=?◌}
use Rattle.textreading.proofs.Found.{found-some, found-none}
use Rattle.textreading.proofs.find.Goals as goal

pub returns-in-Some : goal.returns-in-Some
returns-in-Some c =
    let t = drop c.args.at c.args.text.now in
    let all : take (length c.args.text.now - c.args.at) t ≡ t =
    take_all _ t (omega (arith, length-drop c.args.at c.args.text.now)) in
    let told = position_from_yields_List (λ x. x =? c.args.byte) _ _ c.position.result c.position.ensures.ran
    (YieldsList-from_slice t (c.iter.ensures.rest ∙ all)) (λ x b q k. search rules) in
    ap (λ n. c.args.at + n) (found-some c.args.byte t told c.in-Some.passed c.in-Some.is)

pub returns-in-None : goal.returns-in-None
returns-in-None c =
    let t = drop c.args.at c.args.text.now in
    let all : take (length c.args.text.now - c.args.at) t ≡ t =
    take_all _ t (omega (arith, length-drop c.args.at c.args.text.now)) in
    let told = position_from_yields_List (λ x. x =? c.args.byte) _ _ c.position.result c.position.ensures.ran
    (YieldsList-from_slice t (c.iter.ensures.rest ∙ all)) (λ x b q k. search rules) in
    omega (arith, found-none c.args.byte t told c.in-None.is, length-drop c.args.at c.args.text.now)
