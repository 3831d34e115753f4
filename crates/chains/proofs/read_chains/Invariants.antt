-- `chains::read_chains` meets its contract. The loop's invariant: the chains passed were taken, the table's array holds
-- their lengths and the rows their task numbers, and nothing else of the table has changed. Assumes nothing.
use mathlib.Core.Path.{◌≡◌}
use Rattle.chains.specs.Parts.{lengthened}
use Rattle.chains.proofs.ChainRows.{ChainsPassed}
use Rattle.chains.proofs.read_chains.Given as goal

abbrev pub invariant-loop-k : goal.invariant-loop-k
invariant-loop-k l =
    (l.table ≡ lengthened l.initial.table l.table.length)
    × (l.reader.image ≡ l.initial.reader.image)
    × ChainsPassed l.initial.reader.image.now l.initial.reader.at l.initial.table l.initial.rows
    l.k l.table.length l.rows l.reader.at
