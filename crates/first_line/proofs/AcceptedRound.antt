-- The hyperperiod, asked of an accepted image's table, is the image's: asking its table never ends in 10. No contract
-- cites this file. Assumes nothing.
use Prim.Native.Nat.{ℕ}
use mathlib.Core.Bool.{true}
use mathlib.Core.List.{List}
use mathlib.Core.Path.{◌≡◌, refl}
use lib.Dec.{leb}
use Rattle.times.specs.Rounds.{within_limit}
use Rattle.outcomes.specs.Outcome.{Outcome, gives, refuses, asked_of}
use Rattle.table.specs.Table.{hyperperiod_of}
use Rattle.table.specs.Image.{Whole, read_image}
use Rattle.table.proofs.Accepted.{accepted_within}
use Rattle.first_line.specs.FirstLine.{hyperperiod}

-- asked of the image's table, or of the image
pub round_of_image : (image : List ℕ) → asked_of (read_image image) (λ whole. within_limit (hyperperiod_of whole.table))
    ≡ hyperperiod image
unfolding hyperperiod within_limit
round_of_image image = go (read_image image) (accepted_within image)
  where
    go : (outcome : Outcome Whole)
        → ((whole : Whole) → outcome ≡ gives whole → leb (hyperperiod_of whole.table) 1000000 ≡ true)
        → asked_of outcome (λ whole. within_limit (hyperperiod_of whole.table))
        ≡ asked_of outcome (λ whole. gives (hyperperiod_of whole.table))
    go (gives whole) within = rw (within whole refl)
    go (refuses number place) within = refl
