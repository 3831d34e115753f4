-- `instants::puts::write_writes` meets its contract. The loop's invariant: the writes of the labels met were put. Assumes
-- nothing.
use Rattle.lists.specs.Lists.{each_of}
use Rattle.instants.specs.Puts.{PutsCopies}
use Rattle.instants.proofs.OfLabel.{write_of}
use Rattle.instants.proofs.puts.write_writes.Given as goal

abbrev pub invariant-loop-l : goal.invariant-loop-l
invariant-loop-l l = PutsCopies l.initial.bytes l.bytes l.initial.last l.last (each_of l.yielded (write_of l.table.writer))
