-- `instants::puts::write_reads` meets its contract. The loop's invariant: the reads of the labels met were put. Assumes
-- nothing.
use Rattle.lists.specs.Lists.{each_of}
use Rattle.instants.specs.Puts.{PutsCopies}
use Rattle.instants.proofs.OfLabel.{reads_of}
use Rattle.instants.proofs.puts.write_reads.Given as goal

abbrev pub invariant-loop-label : goal.invariant-loop-label
invariant-loop-label l = PutsCopies l.initial.bytes l.bytes l.initial.last l.last (each_of l.yielded (reads_of l.table.writer l.table.readers l.serves))
