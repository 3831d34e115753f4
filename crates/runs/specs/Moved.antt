-- Two tables that are alike but for the cores of their tasks. Document 01, Copies and frames: "The write belongs to the
-- writer's core, the read to the reader's." Assumes nothing.
use Rattle.std.specs.Prelude.{◌≡◌}
use Rattle.table.specs.declared.Table.{Table}

-- as many tasks, with the same periods, and labels with the same writers and readers
pub record Moved (table other : Table) : Type 0 where
  pub tasks : table.tasks ≡ other.tasks
  pub period : table.period ≡ other.period
  pub writer : table.writer ≡ other.writer
  pub readers : table.readers ≡ other.readers
