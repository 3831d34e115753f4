-- The tasks of a mask, met one after the other as the readers of a field: fewer than 32 before another, and all in the end.
-- Assumes nothing.
use Rattle.std.proofs.Common.{◌≡◌, ℕ, ◌+◌, ◌<◌, ◌≤◌, List, ◌∷◌, ◌++◌, length, sym, ap, ◌∙◌, arith, length-append}
use Rattle.std.specs.Prelude.{Some, None}
use Rattle.std.specs.Iterator.{Yields}
use Rattle.lists.specs.Lists.{only_if}
use Rattle.lists.proofs.Each.{length_each_below, length_only_if}
use Rattle.masks.specs.Rising.{GivesBelow}
use Rattle.masks.proofs.Rising.{met_and_left, all_met}
use Rattle.table.specs.Table.{marks}
use Rattle.readers.specs.NextReader.{readers_in}
use Rattle.gathering.specs.Pairs.{tasks_in}

-- the readers of a field are the tasks of it as a mask
pub all_tasks : (mask : ℕ) {all after : List ℕ} (met left : List ℕ) → all ≡ readers_in mask
    → Yields (GivesBelow 32) all met left → GivesBelow 32 left None after → met ≡ tasks_in mask
unfolding tasks_in readers_in
all_tasks mask met left whole yielded end = sym (all_met 32 met left yielded end) ∙ whole

-- there are no more than 32
pub few_tasks : (mask : ℕ) → length (tasks_in mask) ≤ 32
unfolding tasks_in
few_tasks mask =
    omega (arith, length_each_below 1 32 (λ r. only_if (marks mask r) r) (λ r below. length_only_if (marks mask r) r))

-- so fewer than those were met before one of them
pub few_met : (mask r : ℕ) {all after : List ℕ} (met left : List ℕ) → all ≡ readers_in mask
    → Yields (GivesBelow 32) all met left → GivesBelow 32 left (Some r) after → length met < 32
unfolding tasks_in readers_in
few_met mask r {all} {after} met left whole yielded next =
    let parts : tasks_in mask ≡ met ++ (r ∷ after) = sym whole ∙ met_and_left 32 met left yielded ∙ ap (λ l. met ++ l) next.0 in
    let long : length (tasks_in mask) ≡ length met + length (r ∷ after) = ap length parts ∙ length-append met (r ∷ after) in
    omega (arith, few_tasks mask)
