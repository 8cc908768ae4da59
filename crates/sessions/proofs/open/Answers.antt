-- `sessions::open` meets its contract: each return is the first check that applies, or the opened page.
use Rattle.std.proofs.Common.{◌≡◌, ◌∙◌, sym, ℕ, ◌%◌, ◌^◌, arith}
use Rattle.std.proofs.lemmas.Result.{err_from_is_err_and}
use Rattle.std.specs.declared.result.Result.TheVariants.{Err}
use Rattle.words.specs.declared.refusal.Refusal.{Refusal}
use Rattle.clearing.proofs.ZerosBehind.{cleared-whole}
use Rattle.words.proofs.Told.{refuses}
use Rattle.pairs.proofs.WordPairs.{pair-refused, pair-passed}
use Rattle.pages.specs.Mode.{plain_mode}
use Rattle.sessions.specs.Opening.Laws.{words-refuse}
use Rattle.sessions.proofs.Openings.{page-refuses, empty-opens, room-refuses, line-opens}
use Rattle.sessions.proofs.open.Goals as goal

pub returns-in_err-pair : goal.returns-in_err-pair
returns-in_err-pair c =
    let p = err_from_is_err_and c.from_residual.result c.from_residual.ensures.1 in
    let e : Refusal = c.in_err-pair.field-0.0 in
    rw (p.1, p.2)
    (words-refuse plain_mode _ _ _ _ _ (pair-refused _ _ _ (Err e) c.in_err-pair.ensures) (refuses e))

pub returns-then-page-gt-PAGE_LIMIT : goal.returns-then-page-gt-PAGE_LIMIT
returns-then-page-gt-PAGE_LIMIT c =
    let p = pair-passed _ _ _ c.in_ok-pair.ensures in
    rw c.from.ensures (page-refuses _ _ _ _ p.none c.if-page-gt-PAGE_LIMIT.true)

pub returns-then-pair-eq0 : goal.returns-then-pair-eq0
returns-then-pair-eq0 c =
    let p = pair-passed _ _ _ c.in_ok-pair.ensures in
    rw (c.clear.ensures, cleared-whole {A = ℕ} 0 _)
    (empty-opens _ _ _ _ p.none c.if-page-gt-PAGE_LIMIT.false _ p.shape (sym p.degree ∙ c.if-pair-eq0.true))

pub returns-then-page-eq0 : goal.returns-then-page-eq0
returns-then-page-eq0 c =
    let p = pair-passed _ _ _ c.in_ok-pair.ensures in
    rw c.from-then-page-eq0.ensures
    (room-refuses _ _ _ _ p.none c.if-page-gt-PAGE_LIMIT.false (λ none. c.if-pair-eq0.false (p.degree ∙ none))
    c.if-page-eq0.true)

pub returns : goal.returns
returns c =
    let p = pair-passed _ _ _ c.in_ok-pair.ensures in
    let w : ℕ = c.in_ok-pair.pair.shape in
    let plus : w % 2 ^ 31 ≡ w = omega (arith, p.words.shape.good.below) in
    rw (c.clear-2.ensures, cleared-whole {A = ℕ} 0 _, c.word.ensures, plus)
    (line-opens _ _ _ _ p.none c.if-page-gt-PAGE_LIMIT.false (λ none. c.if-pair-eq0.false (p.degree ∙ none)) w p.shape
    c.if-page-eq0.false)
