-- `image_parts::labels::right_readers` meets its contract: what is shifted past the tasks' bits, and the writer's own bit.
-- Assumes nothing.
use mathlib.Core.Path.{◌∙◌}
use native.Mathlib.Nat.{zero-mul}
use Rattle.image_parts.proofs.Readers.{readers_past, readers_own, shifted_past, none_past}
use Rattle.image_parts.proofs.labels.right_readers.Goals as goal

pub returns-then-past-ne0 : goal.returns-then-past-ne0
returns-then-past-ne0 c = readers_past _ _ _ c.requires.0 c.requires.1
    (λ none. c.if-past-ne0.true
    (shifted_past _ _ c.requires.0 c.ranges.readers.fits ∙ rw none (zero-mul _)))

pub returns : goal.returns
returns c = readers_own _ _ _ c.requires.0 c.requires.1
    (none_past _ _ c.requires.0 c.ranges.readers.fits c.if-past-ne0.false)
