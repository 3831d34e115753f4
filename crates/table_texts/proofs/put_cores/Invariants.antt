-- `table_texts::put_cores` meets its contract. The loop's invariant: the texts of the cores passed were put. Assumes
-- nothing.
use Rattle.lists.specs.Lists.{each_below}
use Rattle.copies.specs.Listing.{core_listing}
use Rattle.frames.specs.Counts.{RightRound}
use Rattle.printing.specs.Printed.{core_text}
use Rattle.texts.specs.Puts.{Puts}
use Rattle.table_texts.proofs.put_cores.Given as goal

abbrev pub invariant-loop-core : goal.invariant-loop-core
invariant-loop-core l =
    RightRound l.table l.round
    → Puts l.initial.text l.text (each_below l.core (λ core. core_text (core_listing l.table core)))
