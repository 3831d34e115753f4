-- `chain_steps::links::Links::of`: label after label is linked. Assumes nothing.
use native.Mathlib.Omega.{arith}
use Rattle.chain_steps.proofs.Linking.{none_linked, one_linked, none_more}
use Rattle.chain_steps.proofs.links.Links.of.Goals.{then-w-lt32, else-w-lt32}
use Rattle.chain_steps.proofs.links.Links.of.Goals as goal

pub loop-l-init : goal.loop-l-init
loop-l-init c = none_linked _

pub loop-l-preserved : goal.loop-l-preserved
loop-l-preserved c =
    let linking = c.loop-l.invariant in
    elim c.if-w-lt32.branch [
      | then-w-lt32 w ↦ rw (w.links-is, w.replace.ensures.after, w.replace.ensures.value) (one_linked _ linking (omega arith) w.if-w-lt32.true)
      | else-w-lt32 w ↦ rw (w.links-is) (none_more _ linking w.if-w-lt32.false)
    ]
