-- `sessions::class_left` meets its contract: each return is the first check that applies, or what is left.
use Rattle.std.proofs.Common.{◌∙◌, sym, ap, arith}
use Rattle.std.proofs.lemmas.Result.{err_from_is_err_and}
use Rattle.theory.proofs.ClassWord.Laws.{good-class}
use Rattle.theory.specs.Limits.{degree_limit}
use Rattle.words.proofs.Told.{refuses}
use Rattle.pages.specs.Sound.Laws.{page-passed}
use Rattle.pages.proofs.SoundPages.{sound-line-at}
use Rattle.sessions.specs.Private.Striking.{class_without}
use Rattle.sessions.proofs.Steps.{page-refuses, no-such-line, class-or_9}
use Rattle.sessions.proofs.class_left.Goals as goal

pub returns-in_err-page_refusal : goal.returns-in_err-page_refusal
returns-in_err-page_refusal c =
    let p = err_from_is_err_and c.from_residual.result c.from_residual.ensures.1 in
    rw (p.1, p.2) (page-refuses _ _ _ _ _ _ c.in_err-page_refusal.ensures (refuses _))

pub returns-then-slip-line : goal.returns-then-slip-line
returns-then-slip-line c = no-such-line _ _ _ _ _ (sym c.in_ok-page_refusal.ensures) c.if-slip-line.true

pub offset_bounds-page-line : goal.offset_bounds-page-line
offset_bounds-page-line c =
    let sound = (page-passed degree_limit c.args.slip c.args.page.now (sym c.in_ok-page_refusal.ensures)).1 in
    omega (arith, c.well_formed.1.0.1, sound.fit)

pub bounds-page-line : goal.bounds-page-line
bounds-page-line c =
    let sound = (page-passed degree_limit c.args.slip c.args.page.now (sym c.in_ok-page_refusal.ensures)).1 in
    omega (arith, sound.fit)

pub strike-requires : goal.strike-requires
strike-requires c =
    let sound = (page-passed degree_limit c.args.slip c.args.page.now (sym c.in_ok-page_refusal.ensures)).1 in
    let line = sound-line-at degree_limit c.args.slip c.args.page.now sound c.args.line c.if-slip-line.false in
    rw c.class.ensures (good-class _ line.class).below

pub returns : goal.returns
returns c =
    rw c.ok_or.ensures.value
    (class-or_9 _ _ _ _ _ (sym c.in_ok-page_refusal.ensures) c.if-slip-line.false _
    (c.strike.ensures ∙ ap (class_without c.args.cycle) c.class.ensures))
