-- `body::tasks::read_tasks`: the tasks passed were taken, and the arrays hold them. Assumes nothing.
use Prim.Native.Nat.{◌+◌, ◌*◌}
use mathlib.Core.Path.{◌≡◌}
use mathlib.Core.List.{[], ◌∷◌}
use Rattle.table.specs.Image.{task_bits, task_fields}
use Rattle.body.specs.Parts.{task_columns, with_tasks}
use Rattle.body.proofs.ColumnsTaken.{Passed}
use Rattle.body.proofs.tasks.read_tasks.Given as goal

abbrev pub invariant-loop-i : goal.invariant-loop-i
invariant-loop-i l = record {
  passed : Passed task_bits (task_fields l.initial.table.cores) task_columns l.initial.reader.image.now l.initial.reader.at
      (l.initial.table.core ∷ l.initial.table.period ∷ []) l.i (l.table.core ∷ l.table.period ∷ []);
  rest : l.table ≡ with_tasks l.initial.table l.table.core l.table.period;
  on : l.reader.at ≡ l.initial.reader.at + task_bits * l.i;
  image : l.reader.image ≡ l.initial.reader.image;
}
