-- `following::passed_on` meets its contract. The loop's invariant: what is left to pass leads from each instant to the same
-- end, and each task takes at most 2,000,000 ticks. Assumes nothing.
use Prim.Native.Nat.{ℕ, ◌+◌, ◌*◌, ◌-◌, ◌≤◌}
use mathlib.Core.List.{List}
use mathlib.Core.Path.{◌≡◌}
use lib.ListN.{length}
use Rattle.std.specs.List.{AllZip}
use Rattle.quotients.specs.Paces.{periods_of}
use Rattle.quotients.specs.declared.pace.Pace.{Pace}
use Rattle.following.specs.Following.{passed, tasks_from}
use Rattle.following.proofs.passed_on.Given as goal

-- from the instant x the tasks before number i have been passed, up to y
abbrev pub Passed : (paces : List Pace) (i x y : ℕ) → Type 0
Passed paces i x y =
    (passed (tasks_from (periods_of paces) i (length paces - i)) y ≡ passed (tasks_from (periods_of paces) 0 (length paces)) x)
    × (y + 2000000 * (length paces - i) ≤ 32000000)

abbrev pub invariant-loop-pace : goal.invariant-loop-pace
invariant-loop-pace l = AllZip (Passed l.paces l.pace-index) l.initial.instants l.instants
