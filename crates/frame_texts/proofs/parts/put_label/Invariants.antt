-- `frame_texts::parts::put_label` meets its contract. The loop's invariant: the reads of the readers met were put. Assumes
-- nothing.
use Rattle.lists.specs.Lists.{each_of}
use Rattle.frame_texts.proofs.CopiesPut.{PutsCopies, read_of}
use Rattle.frame_texts.proofs.parts.put_label.Given as goal

abbrev pub invariant-loop-reader : goal.invariant-loop-reader
invariant-loop-reader l = PutsCopies l.initial.text l.text (each_of l.yielded (read_of l.label))
