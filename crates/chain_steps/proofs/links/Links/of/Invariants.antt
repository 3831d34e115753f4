-- `chain_steps::links::Links::of` meets its contract. The loop's invariant: the labels passed are linked. Assumes
-- nothing.
use Rattle.chain_steps.proofs.Linking.{Linking}
use Rattle.chain_steps.proofs.links.Links.of.Given as goal

abbrev pub invariant-loop-l : goal.invariant-loop-l
invariant-loop-l l = Linking l.writer l.l l.links
