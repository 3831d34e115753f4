-- `questions::points` meets its contract. Assumes nothing.
use mathlib.Core.Path.{sym, ◌∙◌}
use Rattle.questions.specs.Questions.{points}
use Rattle.images.proofs.Asked.{refused_image, accepted_image}
use Rattle.questions.proofs.points.Goals as goal

pub returns-in_default : goal.returns-in_default
unfolding points
returns-in_default c = c.points_of.ensures ∙ sym (accepted_image _ _ c.read_table-read.ensures c.in_default.is _)

pub returns : goal.returns
unfolding points
returns c = sym (refused_image _ _ c.read_table-read.ensures c.in-Err.is _)
