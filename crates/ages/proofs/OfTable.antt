-- Every chain of a table that meets the rules has periods above 0, so the laws of this crate hold of it. Assumes
-- nothing.
use Prim.Native.Nat.{ℕ, ◌<◌}
use mathlib.Core.List.{List, [], ◌∷◌}
use native.Mathlib.Omega.{arith}
use lib.ListN.{length, get_or}
use Rattle.lists.proofs.All.{All, all_map}
use Rattle.table.specs.Image.{Whole}
use Rattle.table.specs.Rules.{MeetsRules}
use Rattle.table.specs.Table.{period_of, timing_of, chain_of}
use Rattle.table.specs.declared.Table.{Table}
use Rattle.ages.specs.Ages.{chain_timings}
use Rattle.ages.proofs.Rising.{HasPeriod, Timed, all_by_number}

module _ (table : Table) (positive : (i : ℕ) → i < table.tasks → 0 < period_of table i) where
  pub tasks_timed : (tasks : List ℕ) → 0 < length tasks → ((j : ℕ) → j < length tasks → get_or tasks j 0 < table.tasks)
      → Timed (chain_timings table tasks)
  unfolding chain_timings timing_of
  tasks_timed [] some known = absurd (omega arith)
  tasks_timed (first ∷ others) some known =
      let all : All (λ i. HasPeriod (timing_of table i)) (first ∷ others) =
      all_by_number (λ i. HasPeriod (timing_of table i)) 0 (first ∷ others) (λ j inside. positive _ (known j inside)) in
      record {
        first_timed = all.0;
        others_timed = all_map HasPeriod (timing_of table) others all.1;
      }

pub chain_timed : (whole : Whole) → MeetsRules whole → (k : ℕ) → k < whole.table.chains
    → Timed (chain_timings whole.table (chain_of whole.table whole.rows k))
chain_timed whole rules k known =
    let meets = rules.chain k known in
    tasks_timed whole.table (λ i task. (rules.period i task).0)
    (chain_of whole.table whole.rows k) (omega (arith, meets.chain_length.0)) meets.chain_task
