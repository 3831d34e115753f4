-- `counted_listings::listed_in` meets its contract. Assumes nothing.
use Prim.Native.Nat.{ℕ}
use native.Mathlib.Omega.{arith}
use lib.ListN.{length-replicate}
use Rattle.frames.proofs.Gathered.{ready_parts}
use Rattle.counted_listings.proofs.listed_in.Goals as goal

pub listed-requires-clause-ready : goal.listed-requires-clause-ready
listed-requires-clause-ready g c =
    let by = c.requires.by in
    let places = length-replicate {A = ℕ} g.row.N 4294967295 in
    ready_parts c.gather_both-both.ensures by.right.right by.joined_same (omega (arith, places)) (omega (arith, places))
