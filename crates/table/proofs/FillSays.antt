-- Of a place within an image the fill is refused by 9 alone: a string of bytes ends with a byte. Assumes nothing.
use Prim.Native.Nat.{ℕ, ◌≤◌}
use mathlib.Core.Path.{◌≡◌}
use mathlib.Core.List.{List}
use Rattle.outcomes.specs.Outcome.{refuses}
use Rattle.bits.specs.Bits.{bit_count}
use Rattle.taking.proofs.FillSays.{fill_says}
use Rattle.table.specs.Image.{fill}

pub fill_says_nine : (image : List ℕ) (at : ℕ) → at ≤ bit_count image → (number place : ℕ)
    → fill image at ≡ refuses number place → number ≡ 9
unfolding fill
fill_says_nine = fill_says 9
