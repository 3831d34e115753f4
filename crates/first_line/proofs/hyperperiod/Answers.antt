-- `first_line::hyperperiod` meets its contract: asked of the table of an accepted image, or the image's refusal. Assumes
-- nothing.
use mathlib.Core.Path.{sym, ◌∙◌}
use Rattle.times.specs.Rounds.{within_limit}
use Rattle.table.specs.Table.{hyperperiod_of}
use Rattle.images.proofs.Asked.{refused_image, accepted_image}
use Rattle.first_line.specs.FirstLine.{hyperperiod}
use Rattle.first_line.proofs.AcceptedRound.{round_of_image}
use Rattle.first_line.proofs.hyperperiod.Goals as goal

pub returns-in_default : goal.returns-in_default
returns-in_default c =
    c.round_of.ensures
    ∙ sym (accepted_image _ _ c.read_table-read.ensures c.in_default.is (λ table. within_limit (hyperperiod_of table)))
    ∙ round_of_image _

pub returns : goal.returns
unfolding hyperperiod
returns c = sym (refused_image _ _ c.read_table-read.ensures c.in-Err.is _)
