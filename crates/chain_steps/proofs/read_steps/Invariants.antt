-- `chain_steps::read_steps` meets its contract. The outer loop's invariant: the task numbers passed were taken and
-- stand in the row. The inner one's: the labels not yet met decide the step. Both hold in each table of which the
-- search is given this. Assumes nothing.
use Rattle.std.proofs.Common.{◌≡◌, ◌+◌, ◌*◌, ◌<◌, ◌≤◌, length}
use Rattle.chain_steps.specs.Linked.{counted, InEachSearched}
use Rattle.chain_steps.proofs.ChainSteps.{StepsPassed}
use Rattle.chain_steps.proofs.LabelSearch.{Searching}
use Rattle.chain_steps.proofs.StepSearch.{last_of}
use Rattle.chain_steps.proofs.read_steps.Given as goal

abbrev pub invariant-loop-label : goal.invariant-loop-label
invariant-loop-label l =
    (counted l.label ≤ 64)
    × InEachSearched l.tasks l.readers l.links (λ table. Searching table (last_of l.row l.j) l.task (counted l.label))

abbrev pub decreases-loop-label : goal.decreases-loop-label
decreases-loop-label l = counted l.label

abbrev pub invariant-steps : goal.invariant-steps
invariant-steps l =
    (l.reader.image ≡ l.initial.reader.image)
    × (l.reader.at ≡ l.initial.reader.at + 5 * l.j)
    × (length l.row ≡ 8)
    × (last_of l.row l.j < 32)
    × InEachSearched l.tasks l.readers l.links
    (λ table. StepsPassed l.initial.reader.image.now l.initial.reader.at table l.j l.row (last_of l.row l.j))
