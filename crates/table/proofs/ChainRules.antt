-- What is known of a chain that was read: its length, that each of its tasks is in the table, and that each step has
-- its label. Assumes nothing.
use Prim.Native.Nat.{ℕ, zero, suc, ◌<◌}
use mathlib.Core.Bool.{true}
use mathlib.Core.Path.{◌≡◌, refl, ap, ◌∙◌}
use mathlib.Core.List.{List, [], ◌∷◌, ◌++◌}
use native.Mathlib.Nat.{le_of_suc-le-suc}
use native.Mathlib.Numerals.{add-one}
use native.Mathlib.Omega.{arith}
use lib.ListN.{length, get_or, length-append}
use borrow.Author.Tests.{ltb-true}
use Rattle.lists.proofs.Bools.{and_parts}
use Rattle.lists.proofs.All.{All, all_append, all_within}
use Rattle.taking.specs.Reading.{Taker, done, ◌then◌, field, in_row}
use Rattle.table.specs.Table.{joins}
use Rattle.table.specs.Image.{between, step_holds, chain_task, chain_fields}
use Rattle.table.specs.Rules.{ChainMeets}
use Rattle.table.specs.declared.Table.{Table}
use Rattle.taking.proofs.Checks.{Checks, done_checks, then_checks, field_checks}
use Rattle.table.proofs.Ranges.{between_bounds}

-- a property of those before it that each next one keeps is one of the whole row
pub row_keeps : {A : Type 0} (P : List A → Type 0) (one : List A → Taker A) → P []
    → ((before : List A) → P before → Checks (λ next. P (before ++ next ∷ [])) (one before))
    → (n : ℕ) → Checks (λ row. (length row ≡ n) × P row) (in_row n one)
unfolding in_row
row_keeps P one none each zero = done_checks (λ row. (length row ≡ 0) × P row) [] (refl, none)
row_keeps P one none each (suc n) =
    then_checks (λ row. (length row ≡ n) × P row) (λ row. (length row ≡ suc n) × P row) (in_row n one)
    (λ before. one before then λ next. done (before ++ next ∷ [])) (row_keeps P one none each n)
    (λ before so_far.
    then_checks (λ next. P (before ++ next ∷ [])) (λ row. (length row ≡ suc n) × P row) (one before)
    (λ next. done (before ++ next ∷ [])) (each before so_far.1)
    (λ next of_next.
    done_checks (λ row. (length row ≡ suc n) × P row) (before ++ next ∷ []) (
      length-append before (next ∷ []) ∙ add-one (length before) ∙ ap suc so_far.0,
      of_next,
    )))

-- the step from the last task of a list
pub step_from_last : (table : Table) (before : List ℕ) (x next : ℕ)
    → step_holds table (before ++ x ∷ []) next ≡ joins table x next
unfolding step_holds
step_from_last table [] x next = refl
step_from_last table (a ∷ []) x next = refl
step_from_last table (a ∷ b ∷ before) x next = step_from_last table (b ∷ before) x next

module _ (table : Table) where
  -- each task of the list and the next one have a label
  abbrev pub Joined : List ℕ → Type 0
  Joined [] = Unit {0}
  Joined (a ∷ []) = Unit {0}
  Joined (a ∷ b ∷ more) = (joins table a b ≡ true) × Joined (b ∷ more)

  joined_more : (before : List ℕ) (next : ℕ) → Joined before → step_holds table before next ≡ true
      → Joined (before ++ next ∷ [])
  unfolding step_holds
  joined_more [] next joined step = tt
  joined_more (a ∷ []) next joined step = (step, tt)
  joined_more (a ∷ b ∷ more) next joined step = (joined.0, joined_more (b ∷ more) next joined.1 step)

  joined_at : (chain : List ℕ) → Joined chain → (j : ℕ) → suc j < length chain
      → joins table (get_or chain j 0) (get_or chain (suc j) 0) ≡ true
  joined_at [] joined j inside = absurd (omega arith)
  joined_at (a ∷ []) joined j inside = absurd (omega arith)
  joined_at (a ∷ b ∷ more) joined zero inside = joined.0
  joined_at (a ∷ b ∷ more) joined (suc j) inside = joined_at (b ∷ more) joined.1 j (le_of_suc-le-suc inside)

  -- each task is in the table, and each step has its label
  abbrev Passed : List ℕ → Type 0
  Passed chain = All (λ task. task < table.tasks) chain × Joined chain

  task_passed : (before : List ℕ) → Passed before
      → Checks (λ next. Passed (before ++ next ∷ [])) (field 5 8 (chain_task table before))
  unfolding chain_task
  task_passed before so_far image at given e =
      let parts = and_parts _ _ (field_checks 5 8 (chain_task table before) image at given e) in
      let next = given.value in (
        all_append (λ task. task < table.tasks) before (next ∷ []) so_far.0
            (ltb-true next table.tasks parts.0, tt),
        joined_more before next so_far.1 parts.1,
      )

  pub chain_checks : Checks (ChainMeets table) (chain_fields table)
  unfolding chain_fields
  chain_checks =
      then_checks _ _ (field 4 8 _) _ (field_checks 4 8 (between 2 8)) (λ size right image at given e.
      let row = row_keeps Passed (λ before. field 5 8 (chain_task table before)) (tt, tt) task_passed size
      image at given e in
      let bounds = between_bounds 2 8 size right in
      let long = row.0 in
      record {
        chain_length = (omega arith, omega arith);
        chain_task = all_within (λ task. task < table.tasks) given.value 0 row.1.0;
        chain_step = joined_at given.value row.1.1;
      })
