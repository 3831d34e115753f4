-- `new` of `packing::Pen` meets its contract. Assumes nothing.
use Rattle.packing.proofs.Inking.{inked_nothing}
use Rattle.packing.proofs.Pen.new.Goals as goal

pub returns-clause-nothing : goal.returns-clause-nothing
returns-clause-nothing c held = inked_nothing held
