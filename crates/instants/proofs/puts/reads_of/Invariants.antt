-- `instants::puts::reads_of` meets its contract. The loop's invariant: the reads of the readers met were put. Assumes
-- nothing.
use Rattle.lists.specs.Lists.{each_of}
use Rattle.instants.specs.Puts.{PutsCopies}
use Rattle.instants.proofs.OfLabel.{read_of}
use Rattle.instants.proofs.puts.reads_of.Given as goal

abbrev pub invariant-loop-r : goal.invariant-loop-r
invariant-loop-r l = PutsCopies l.initial.bytes l.bytes l.initial.last l.last (each_of l.yielded (read_of l.label))
