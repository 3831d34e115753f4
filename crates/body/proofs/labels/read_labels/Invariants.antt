-- `body::labels::read_labels`: the labels passed were taken, and the arrays hold them. Assumes nothing.
use Prim.Native.Nat.{◌+◌, ◌*◌}
use mathlib.Core.Path.{◌≡◌}
use mathlib.Core.List.{[], ◌∷◌}
use Rattle.table.specs.Image.{label_bits, label_fields}
use Rattle.body.specs.Parts.{label_columns, with_labels}
use Rattle.body.proofs.ColumnsTaken.{Passed}
use Rattle.body.proofs.labels.read_labels.Given as goal

abbrev pub invariant-loop-l : goal.invariant-loop-l
invariant-loop-l l = record {
  passed : Passed label_bits (label_fields l.initial.table.tasks) label_columns l.initial.reader.image.now l.initial.reader.at
      (l.initial.table.writer ∷ l.initial.table.readers ∷ []) l.l (l.table.writer ∷ l.table.readers ∷ []);
  rest : l.table ≡ with_labels l.initial.table l.table.writer l.table.readers;
  on : l.reader.at ≡ l.initial.reader.at + label_bits * l.l;
  image : l.reader.image ≡ l.initial.reader.image;
}
