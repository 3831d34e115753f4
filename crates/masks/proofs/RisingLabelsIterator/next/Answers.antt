-- `next` of `masks::RisingLabels` meets its contract: the first label, and those of the mask without it. Assumes nothing.
use mathlib.Core.Path.{sym, ap, ◌∙◌}
use native.Mathlib.Omega.{arith}
use Rattle.std.proofs.Common.{rules}
use lib.ListN.{length}
use Rattle.masks.specs.Masks.{labels_in}
use Rattle.masks.proofs.OfLabels.{no_labels, labels_first}
use Rattle.masks.proofs.RisingLabelsIterator.next.Goals as goal

pub returns-in_err-label-clause-steps : goal.returns-in_err-label-clause-steps
returns-in_err-label-clause-steps c =
    let none = sym c.self.view_is ∙ ap labels_in c.in_err-label.ensures ∙ no_labels in
    rw c.from_residual.ensures ((none, none), tt)

pub returns-clause-steps : goal.returns-clause-steps
returns-clause-steps c =
    let (is, below, some) = c.in_ok-label.ensures in (
      sym c.self.view_is ∙ labels_first _ some (omega arith) is c.without-self-inside.ensures.0,
      below,
    )

pub returns-clause-goes : goal.returns-clause-goes
returns-clause-goes c =
    let (is, below, some) = c.in_ok-label.ensures in
    let first = sym c.self.view_is ∙ labels_first _ some (omega arith) is c.without-self-inside.ensures.0 in
    let fewer = ap length first in
    search rules
