-- `frame_texts::parts::put_reads` meets its contract. The loop's invariant: the reads of the labels met were put. Assumes
-- nothing.
use Prim.Native.Nat.{ℕ}
use mathlib.Core.List.{List}
use lib.ListN.{get_or}
use Rattle.lists.specs.Lists.{each_of}
use Rattle.copies.specs.Copies.{Copy}
use Rattle.instants.specs.Due.{writer_due, reads_due}
use Rattle.frame_texts.proofs.CopiesPut.{PutsCopies}
use Rattle.frame_texts.proofs.parts.put_reads.Given as goal

-- the reads of one label
abbrev pub of_one : (writer readers serves : List ℕ) → ℕ → List Copy
of_one writer readers serves l = reads_due (get_or readers l 0) (get_or serves (writer_due writer l) 0) l

abbrev pub invariant-loop-label : goal.invariant-loop-label
invariant-loop-label l =
    PutsCopies l.initial.text l.text (each_of l.yielded (of_one l.table.writer l.table.readers l.due.serves))
