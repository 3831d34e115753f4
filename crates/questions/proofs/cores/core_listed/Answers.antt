-- `questions::cores::core_listed` meets its contract. Assumes nothing.
use mathlib.Core.Path.{ap, ◌∙◌}
use Rattle.questions.specs.Answers.{said_of_listing}
use Rattle.questions.proofs.CoreListed.{core_unknown, core_filled, said_by}
use Rattle.questions.proofs.cores.core_listed.Goals as goal

pub returns-then-table-core : goal.returns-then-table-core
returns-then-table-core c = core_unknown c.args.table.now c.args.core c.args.buffer.now c.if-table-core.true

pub returns : goal.returns
returns c =
    let filled = core_filled c.args.table.now c.args.core c.args.buffer.now c.if-table-core.false c.list_core.result c.list_core.ensures in
    (ap said_of_listing c.ok_or.ensures.value ∙ said_by c.list_core.result ∙ filled.0, filled.1)
