-- `next` of `readers::RisingReaders` meets its contract: the next reader, and those after it. Assumes nothing.
use mathlib.Core.Path.{sym, ap, ◌∙◌}
use Rattle.std.proofs.Common.{rules}
use lib.ListN.{length}
use Rattle.readers.proofs.InTurn.{readers_none, readers_first}
use Rattle.readers.proofs.RisingReadersIterator.next.Goals as goal

pub returns-in_err-reader-clause-steps : goal.returns-in_err-reader-clause-steps
returns-in_err-reader-clause-steps c =
    let none = sym c.self.view_is ∙ readers_none _ _ c.self.invariant c.in_err-reader.ensures in
    rw c.from_residual.ensures ((none, none), tt)

pub returns-clause-steps : goal.returns-clause-steps
returns-clause-steps c =
    let (is, below) = c.in_ok-reader.ensures in
    (sym c.self.view_is ∙ readers_first _ _ c.self.invariant is below, below)

pub returns-clause-goes : goal.returns-clause-goes
returns-clause-goes c =
    let (is, below) = c.in_ok-reader.ensures in
    let first = sym c.self.view_is ∙ readers_first _ _ c.self.invariant is below in
    let fewer = ap length first in
    search rules
