-- `pairs::common_degree`: what the reading of the one word and the degree of the other answer is taken in the order of
-- the checks.
use Rattle.std.proofs.Common.{sym, ◌∙◌}
use Rattle.std.proofs.lemmas.Result.{err_from_is_err_and}
use Rattle.words.specs.declared.refusal.Refusal.TheVariants.{BadShape, BadClass}
use Rattle.words.proofs.Told.{given-where, is-refused, not-refused}
use Rattle.pairs.proofs.WordPairs.{refused-1, refused-2, refused-3, refused-class, refused-5, agrees}
use Rattle.pairs.proofs.common_degree.Goals as goal

pub returns-then-eq : goal.returns-then-eq
returns-then-eq c =
    refused-1 (record { of-shape = c.read-of_shape.ensures; of-class = c.degree-of_class.ensures })
    (is-refused _ _ BadShape (sym c.eq.ensures ∙ c.if-eq.true))

pub returns-then-eq-2 : goal.returns-then-eq-2
returns-then-eq-2 c =
    refused-3 (record { of-shape = c.read-of_shape.ensures; of-class = c.degree-of_class.ensures })
    (not-refused _ _ BadShape (sym c.eq.ensures ∙ c.if-eq.false))
    (is-refused _ _ BadClass (sym c.eq-2.ensures ∙ c.if-eq-2.true))

pub returns-in_default : goal.returns-in_default
returns-in_default c =
    refused-2 (record { of-shape = c.read-of_shape.ensures; of-class = c.degree-of_class.ensures })
    (not-refused _ _ BadShape (sym c.eq.ensures ∙ c.if-eq.false))
    (not-refused _ _ BadClass (sym c.eq-2.ensures ∙ c.if-eq-2.false))
    (λ z. let g = given-where _ z in c.in_default.not-Ok g.0 g.1)

pub returns-in_err-degree : goal.returns-in_err-degree
returns-in_err-degree c =
    let p = err_from_is_err_and c.from_residual.result c.from_residual.ensures.1 in
    rw (p.1, p.2)
    (refused-class (record { of-shape = c.read-of_shape.ensures; of-class = c.degree-of_class.ensures })
    (not-refused _ _ BadShape (sym c.eq.ensures ∙ c.if-eq.false))
    (not-refused _ _ BadClass (sym c.eq-2.ensures ∙ c.if-eq-2.false)) c.in-Ok.is c.in_err-degree.was)

pub returns-then-shape-degree : goal.returns-then-shape-degree
returns-then-shape-degree c =
    refused-5 (record { of-shape = c.read-of_shape.ensures; of-class = c.degree-of_class.ensures }) c.in-Ok.is
    c.in_ok-degree.was c.if-shape-degree.true

pub returns : goal.returns
returns c =
    agrees (record { of-shape = c.read-of_shape.ensures; of-class = c.degree-of_class.ensures }) c.in-Ok.is
    c.in_ok-degree.was c.if-shape-degree.false
