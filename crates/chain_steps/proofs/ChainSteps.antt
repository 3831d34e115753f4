-- The task numbers of a chain, step by step: none, one more, and the two refusals. No contract cites this file. Assumes
-- nothing.
use Prim.Native.Nat.{ℕ, ◌+◌, ◌*◌, ◌<◌}
use mathlib.Core.Path.{◌≡◌, refl, sym, ap}
use mathlib.Core.Bool.{true, false}
use mathlib.Core.List.{List, [], ◌∷◌, ◌++◌}
use native.Mathlib.Nat.{add-zero, mul-zero}
use native.Mathlib.Omega.{arith}
use lib.Dec.{ltb}
use lib.ListN.{length, set, length-append}
use Rattle.lists.specs.Lists.{padded}
use Rattle.lists.proofs.Over.{padded_more}
use Rattle.outcomes.specs.Outcome.{gives, refuses}
use Rattle.taking.specs.Reading.{field, in_row}
use Rattle.table.specs.Refusals.{number_of}
use Rattle.table.specs.Table.{joins}
use Rattle.table.specs.Image.{step_holds, chain_task}
use Rattle.chain_steps.specs.Parts.{StepsTaken}
use Rattle.table.specs.declared.Refused.{Refused}
use Rattle.table.specs.declared.Refusal.TheVariants.{Chain}
use Rattle.table.specs.declared.Table.{Table}
use Rattle.table.proofs.ChainRules.{step_from_last}
use Rattle.std.specs.Prelude.{Ok, Err}
use Rattle.taking.proofs.Stricter.{stricter_refused, stricter_taken, stricter_wrong}
use Rattle.taking.proofs.Rows.{row_more, row_refused}

module _ (image : List ℕ) (at : ℕ) (table : Table) where
  -- j tasks were taken; the row holds them, and the last of them is `earlier`
  pub record StepsPassed (j : ℕ) (row : List ℕ) (earlier : ℕ) : Type 0 where
    pub values : List ℕ
    pub long : length values ≡ j
    pub taken_row : in_row j (λ before. field 5 8 (chain_task table before)) image at
        ≡ gives (record { value = values; next = at + 5 * j })
    pub held : row ≡ padded 8 0 values
    pub first : j ≡ 0 → (next : ℕ) → step_holds table values next ≡ true
    pub last : 0 < j → (next : ℕ) → step_holds table values next ≡ joins table earlier next

  pub none_passed : (earlier : ℕ) → StepsPassed 0 (padded 8 0 []) earlier
  unfolding in_row step_holds
  none_passed earlier = record {
    values = [];
    long = refl;
    taken_row = ap (λ next. gives (record { value = []; next = next })) (sym (rw mul-zero (add-zero at)));
    held = refl;
    first = λ none next. refl;
    last = λ some next. absurd (omega arith);
  }

  module _ {j : ℕ} {row : List ℕ} {earlier : ℕ} (passed : StepsPassed j row earlier) where
    -- a task that is in the table
    module _ (x : ℕ) (room : j < 8) (taken : field 5 8 (λ v. ltb v table.tasks) image (at + 5 * j)
        ≡ gives (record { value = x; next = at + 5 * j + 5 })) where
      row_held : set row j x ≡ padded 8 0 (passed.values ++ x ∷ [])
      row_held = rw passed.held (padded_more 8 0 passed.values j x passed.long room)

      -- it ends no step, or one that has a label
      pub step_passed : step_holds table passed.values x ≡ true → StepsPassed (j + 1) (set row j x) x
      unfolding chain_task
      step_passed holds =
          let both = stricter_taken 5 8 (λ v. ltb v table.tasks) (step_holds table passed.values) image
          (at + 5 * j) taken
          holds in
          let next : at + 5 * (j + 1) ≡ at + 5 * j + 5 = omega arith in
          record {
            values = passed.values ++ x ∷ [];
            long = simp length-append (omega arith);
            taken_row = rw next (row_more (λ before. field 5 8 (chain_task table before)) image at j _ _
                passed.taken_row both);
            held = row_held;
            first = λ none. absurd (omega arith);
            last = λ some. step_from_last table passed.values x;
          }

      -- no label goes from the earlier task to it
      pub steps_unjoined : (count : ℕ) → j < count → step_holds table passed.values x ≡ false
          → StepsTaken image at table count (Err (record { refusal = Chain; place = at + 5 * j }))
      unfolding chain_task
      steps_unjoined count more fails = record {
        steps = passed.values ++ x ∷ [];
        said = sym
            (row_refused (λ before. field 5 8 (chain_task table before)) image at j count _ _ _ more passed.taken_row
            (stricter_wrong 5 8 (λ v. ltb v table.tasks) (step_holds table passed.values) image (at + 5 * j)
            taken fails));
        held = tt;
      }

    -- the next number is refused
    pub steps_refused : (count : ℕ) → j < count → (refused : Refused)
        → field 5 8 (λ v. ltb v table.tasks) image (at + 5 * j) ≡ refuses (number_of refused.refusal) refused.place
        → StepsTaken image at table count (Err refused)
    unfolding chain_task
    steps_refused count more refused said = record {
      steps = passed.values;
      said = sym (row_refused (λ before. field 5 8 (chain_task table before)) image at j count _ _ _ more
          passed.taken_row
          (stricter_refused 5 8 (λ v. ltb v table.tasks) (step_holds table passed.values) image
          (at + 5 * j) said));
      held = tt;
    }

    pub steps_whole : (count : ℕ) → j ≡ count → StepsTaken image at table count (Ok row)
    steps_whole count all = record {
      steps = passed.values;
      said = rw (← all) (sym passed.taken_row);
      held = passed.held;
    }
