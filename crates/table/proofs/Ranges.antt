-- A value within a range, as a test and as bounds. Assumes nothing.
use Prim.Native.Nat.{ℕ, ◌≤◌}
use mathlib.Core.Path.{◌≡◌}
use mathlib.Core.Bool.{true}
use borrow.Author.Tests.{leb-true}
use lib.Dec.{leb}
use Rattle.lists.proofs.Bools.{and_parts}
use Rattle.table.specs.Image.{between}

-- a value that passes the test of a range lies in it
pub between_bounds : (least most v : ℕ) → between least most v ≡ true → (least ≤ v) × (v ≤ most)
unfolding between
between_bounds least most v passed =
    let parts = and_parts (leb least v) (leb v most) passed in
    (leb-true least v parts.0, leb-true v most parts.1)
