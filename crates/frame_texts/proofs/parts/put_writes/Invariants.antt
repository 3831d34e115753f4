-- `frame_texts::parts::put_writes` meets its contract. The loop's invariant: the writes of the labels met were put. Assumes
-- nothing.
use Prim.Native.Nat.{ℕ}
use mathlib.Core.List.{List, [], ◌∷◌}
use Rattle.lists.specs.Lists.{each_of}
use Rattle.copies.specs.Copies.{Copy, write}
use Rattle.instants.specs.Due.{writer_due}
use Rattle.frame_texts.proofs.CopiesPut.{PutsCopies}
use Rattle.frame_texts.proofs.parts.put_writes.Given as goal

-- the write of one label
abbrev pub one : List ℕ → ℕ → List Copy
one writer l = write l (writer_due writer l) ∷ []

abbrev pub invariant-loop-label : goal.invariant-loop-label
invariant-loop-label l = (writer : List ℕ) → PutsCopies l.initial.text l.text (each_of l.yielded (one writer))
