-- `pages::degrees::read`: what is read has the degree 0 where it is refused, and a shape word that is not good is not
-- read.
use Rattle.std.proofs.Common.{◌∙◌, sym, ap, ◌^◌}
use native.Mathlib.Omega.{arith}
use borrow.Author.Tests.{lt-ltb, le-ltb}
use Rattle.theory.specs.Basics.{ℕ, nat_abs}
use Rattle.theory.specs.ShapeWord.{shape_width}
use Rattle.theory.specs.Limits.{degree_limit}
use Rattle.words.specs.Answers.{NumberAnswer}
use Rattle.words.proofs.Told.{degree-or_0}
use Rattle.pages.specs.Private.Degrees.{word_degree}
use Rattle.pages.proofs.WordDegrees.{shape-degree-told}
use Rattle.pages.proofs.degrees.read.Goals as goal

pub returns-in-Class : goal.returns-in-Class
unfolding word_degree
returns-in-Class c =
    rw c.in-Class.is
    (c.unwrap_or.ensures ∙ sym (degree-or_0 c.degree.result) ∙ ap (λ (a : NumberAnswer). nat_abs a.number) c.degree.ensures)

pub returns-then-word-ge-SHAPE_WORDS : goal.returns-then-word-ge-SHAPE_WORDS
unfolding word_degree
returns-then-word-ge-SHAPE_WORDS c =
    let w : ℕ = c.args.word in
    rw (c.in-Shape.is, le-ltb w (2 ^ shape_width) (omega (arith, c.if-word-ge-SHAPE_WORDS.true)))

pub returns-else-word-ge-SHAPE_WORDS : goal.returns-else-word-ge-SHAPE_WORDS
unfolding word_degree
returns-else-word-ge-SHAPE_WORDS c =
    let w : ℕ = c.args.word in
    rw (c.in-Shape.is, lt-ltb w (2 ^ shape_width) (omega (arith, c.if-word-ge-SHAPE_WORDS.false)))
    (c.unwrap_or-in-Shape.ensures ∙ sym (degree-or_0 c.degree-in-Shape.result)
    ∙ ap (λ (a : NumberAnswer). nat_abs a.number) c.degree-in-Shape.ensures ∙ shape-degree-told degree_limit w)
