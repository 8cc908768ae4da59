-- `listing::shape_rank`: the word is refused as it is read, or the table has its good word's rank.
use Rattle.std.proofs.Common.{refl, sym, ◌∙◌, ap}
use Rattle.std.proofs.lemmas.Result.{err_from_is_err_and}
use mir.Facts.{to_z_pos}
use mir.Syntax.{w64}
use mir.Val.{to_z, of_z}
use native.Mathlib.Omega.{arith}
use Rattle.theory.specs.Basics.{pos}
use Rattle.theory.specs.Partition.{degree}
use Rattle.theory.specs.Limits.{degree_limit}
use Rattle.words.proofs.Readings.{read-within, read-shape, shape-read}
use Rattle.words.proofs.Told.{refuses}
use Rattle.listing.proofs.Ranks.{shape-rank-refused, shape-ranked}
use Rattle.listing.proofs.shape_rank.Goals as goal

pub returns-in_err-shape : goal.returns-in_err-shape
returns-in_err-shape c =
    let p = err_from_is_err_and c.from_residual.result c.from_residual.ensures.1 in
    rw (p.1, p.2) (shape-rank-refused degree_limit c.args.word _ c.in_err-shape.ensures (refuses _))

pub search-rank-requires : goal.search-rank-requires
search-rank-requires c =
    let s = shape-read degree_limit c.args.word _ c.in_ok-shape.ensures refl in
    (c.shape_words.ensures, read-within s, s.degree ∙ sym (ap degree (read-shape s)))

pub returns : goal.returns
returns c =
    shape-ranked degree_limit c.args.word _ c.in_ok-shape.ensures refl _
    (ap (λ z. to_z w64 (of_z w64 z)) c.from.ensures ∙ to_z_pos w64 (omega arith) ∙ ap pos c.search-rank.ensures)
