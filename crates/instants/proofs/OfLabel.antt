-- What one label, and one reader of a label, has to add to the copies of an instant. No contract cites this file. Assumes
-- nothing.
use Prim.Native.Nat.{ℕ}
use mathlib.Core.Path.{◌≡◌, ap}
use mathlib.Core.List.{List, [], ◌∷◌}
use lib.Bits.{bit_and}
use lib.ListN.{get_or}
use Rattle.lists.specs.Lists.{each_below, only_if}
use Rattle.lists.proofs.Below.{each_below_same}
use Rattle.table.specs.Table.{marks}
use Rattle.copies.specs.Copies.{Copy, read, write}
use Rattle.instants.specs.Due.{writer_due, reads_due}
use Rattle.readers.proofs.Masks.{and_marks}

-- its write
abbrev pub write_of : (writer : List ℕ) → ℕ → List Copy
write_of writer l = write l (writer_due writer l) ∷ []

-- its reads, and the read of one reader
abbrev pub reads_of : (writer readers serves : List ℕ) → ℕ → List Copy
reads_of writer readers serves l = reads_due (get_or readers l 0) (get_or serves (writer_due writer l) 0) l

abbrev pub read_of : (label : ℕ) → ℕ → List Copy
read_of label r = read label r ∷ []

-- the reads of a label, by the mask of the readers that are served
pub reads_served : (readers serves label : ℕ)
    → each_below 32 (λ r. only_if (marks (bit_and readers serves) r) (read label r)) ≡ reads_due readers serves label
unfolding reads_due
reads_served readers serves label =
    each_below_same 32 _ _ (λ r known. ap (λ b. only_if b (read label r)) (and_marks readers serves r))
