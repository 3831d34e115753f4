-- What reading an image into a lent table shows is determined. Assumes nothing.
use Prim.Native.Nat.{ℕ}
use mathlib.Core.Path.{◌≡◌, sym, ◌∙◌}
use mathlib.Core.List.{List}
use Rattle.std.specs.Prelude.{Result}
use Rattle.table.specs.Refusals.{said_of}
use Rattle.table.specs.declared.Refused.{Refused}
use Rattle.table.specs.declared.Table.{Table}
use Rattle.images.proofs.Determined.{whole_determined}
use Rattle.body.specs.Parts.{head_in}
use Rattle.image_arrays.specs.ArraysShown.{ArraysShown}

-- the answer and, refused or not, the counts
pub arrays_determined : (image : List ℕ) {table_a table_b : Table} (a b : Result ℕ Refused) → ArraysShown image a table_a
    → ArraysShown image b table_b
    → (said_of a ≡ said_of b) × (head_in table_a ≡ head_in table_b)
arrays_determined image a b of_a of_b =
    (whole_determined image a b of_a.whole of_b.whole, of_a.counts ∙ sym of_b.counts)
