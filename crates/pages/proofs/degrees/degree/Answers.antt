-- `pages::degrees::degree` meets its contract: both words have one degree, or the line is not sound.
use Rattle.std.proofs.Common.{◌∙◌, ap}
use Rattle.theory.specs.Limits.{degree_limit}
use Rattle.pages.specs.declared.degrees.Kind.TheVariants.{Shape, Class}
use Rattle.pages.specs.Private.Degrees.{word_degree}
use Rattle.pages.proofs.SoundLines.{degree-above, degrees-differ, degree-within}
use Rattle.pages.proofs.degrees.degree.Goals as goal

pub returns-then-n-degree : goal.returns-then-n-degree
returns-then-n-degree c = (
  degree-above _ _ _ c.requires.0 _ _ (c.word_degree-degree.ensures.0 ∙ ap (word_degree degree_limit Shape) c.shape.ensures)
      (c.word_degree-other.ensures.0 ∙ ap (word_degree degree_limit Class) c.class.ensures) c.if-n-degree.true,
  record { of-shapes = c.word_degree-degree.ensures.1; of-classes = c.word_degree-other.ensures.1 },
)

pub returns-then-degree-other : goal.returns-then-degree-other
returns-then-degree-other c = (
  degree-within _ _ _ c.requires.0 _ _ (c.word_degree-degree.ensures.0 ∙ ap (word_degree degree_limit Shape) c.shape.ensures)
      (c.word_degree-other.ensures.0 ∙ ap (word_degree degree_limit Class) c.class.ensures) c.if-n-degree.false
      c.if-degree-other.true,
  record { of-shapes = c.word_degree-degree.ensures.1; of-classes = c.word_degree-other.ensures.1 },
)

pub returns-else-degree-other : goal.returns-else-degree-other
returns-else-degree-other c = (
  degrees-differ _ _ _ c.requires.0 _ _ (c.word_degree-degree.ensures.0 ∙ ap (word_degree degree_limit Shape) c.shape.ensures)
      (c.word_degree-other.ensures.0 ∙ ap (word_degree degree_limit Class) c.class.ensures) c.if-degree-other.false,
  record { of-shapes = c.word_degree-degree.ensures.1; of-classes = c.word_degree-other.ensures.1 },
)
