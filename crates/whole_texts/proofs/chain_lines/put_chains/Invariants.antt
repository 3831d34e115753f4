-- `whole_texts::chain_lines::put_chains` meets its contract. The loop's invariant: the lines of the chains passed were
-- put. Assumes nothing.
use mathlib.Core.Path.{◌≡◌}
use Rattle.lists.specs.Lists.{each_below}
use Rattle.outcomes.specs.Outcome.{gives}
use Rattle.table.specs.Image.{Whole, read_image}
use Rattle.ages.specs.Ages.{ages_of_chain}
use Rattle.printing.specs.Printed.{chain_text}
use Rattle.texts.specs.Puts.{Puts}
use Rattle.whole_texts.proofs.chain_lines.put_chains.Given as goal

abbrev pub invariant-loop-chain : goal.invariant-loop-chain
invariant-loop-chain l =
    (whole : Whole) → read_image l.image ≡ gives whole → l.chains ≡ whole.table.chains
    → Puts l.initial.text l.text (each_below l.chain (λ k. chain_text k (ages_of_chain whole.table whole.rows k)))
