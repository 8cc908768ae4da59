-- What the input asks for decides which text is written.
use Rattle.std.proofs.Common.{sym, arith}
use Rattle.theory.specs.Limits.{degree_limit}
use Rattle.tabletext.specs.Table.Asked.{asks_nothing, asks-too-much, asks-for}
use Rattle.tabletext.specs.Private.Reading.Laws.{no_number, one_number}
use Rattle.tabletext.proofs.Answered.{answered}
use Rattle.tabletext.proofs.answer.Goals as goal

pub returns-in_default : goal.returns-in_default
returns-in_default c =
    let n = no_number _ (sym c.in_default.ensures) in
    answered _ c.args.out.now (omega arith) (asks_nothing degree_limit _ n) c.line.ensures

pub returns-then-degree-gt-LIMIT : goal.returns-then-degree-gt-LIMIT
returns-then-degree-gt-LIMIT c =
    let n = one_number _ c.in-Some.degree (sym c.in-Some.ensures) in
    answered _ c.args.out.now (omega arith) (asks-too-much degree_limit _ c.in-Some.degree n c.if-degree-gt-LIMIT.true)
    c.line-then-degree-gt-LIMIT.ensures

pub returns : goal.returns
returns c =
    let n = one_number _ c.in-Some.degree (sym c.in-Some.ensures) in
    answered _ c.args.out.now (omega arith) (asks-for degree_limit _ c.in-Some.degree n c.if-degree-gt-LIMIT.false)
    c.table.ensures
