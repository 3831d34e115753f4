-- The steps of a chain and the search for their labels, in each table of which the search is given this. No contract
-- cites this file. Assumes nothing.
use Prim.Native.Nat.{ℕ, ◌+◌, ◌-◌, ◌*◌, ◌<◌}
use mathlib.Core.Path.{◌≡◌, ap, ◌∙◌}
use mathlib.Core.Bool.{true, false}
use mathlib.Core.List.{List}
use native.Mathlib.Omega.{arith}
use lib.Dec.{ltb}
use lib.ListN.{length, get_or, set}
use lib.Seq.{get_or-set_same, get_or-set_other}
use Rattle.std.specs.Prelude.{Option, None, Some, Ok, Err}
use Rattle.outcomes.specs.Outcome.{gives, refuses}
use Rattle.taking.specs.Reading.{field}
use Rattle.table.specs.Refusals.{number_of}
use Rattle.table.specs.Table.{marks}
use Rattle.chain_steps.specs.Linked.{counted, latest_of, before_of, InEachSearched}
use Rattle.chain_steps.specs.Parts.{StepsTaken}
use Rattle.chain_steps.specs.declared.links.Links.{Links}
use Rattle.table.specs.declared.Refused.{Refused}
use Rattle.table.specs.declared.Refusal.TheVariants.{Chain}
use Rattle.chain_steps.proofs.ChainSteps.{StepsPassed, step_passed, steps_refused, steps_unjoined, steps_whole}
use Rattle.chain_steps.proofs.LabelSearch.{Searching, search_begins, search_goes_on, search_finds, search_ends}

-- the last of the first j task numbers of a row
abbrev pub last_of : List ℕ → ℕ → ℕ
last_of row j = get_or row (j - 1) 0

-- the next one is stored after it, and is then the last itself
pub last_stays : (row : List ℕ) (j x : ℕ) → 0 < j → last_of (set row j x) j ≡ last_of row j
last_stays row j x some = get_or-set_other row j (j - 1) x 0 (λ same. absurd (omega arith))

pub last_stored : (row : List ℕ) (j x : ℕ) → j < length row → last_of (set row j x) (j + 1) ≡ x
last_stored row j x room =
    let place : j + 1 - 1 ≡ j = omega arith in
    rw place (get_or-set_same row j x 0 room)

module _ {tasks : ℕ} {readers : List ℕ} {links : Links} where
  -- The search for a label from task w to task r.
  pub begun : {w r : ℕ} → w < 32 → InEachSearched tasks readers links (λ table. Searching table w r (latest_of links w))
  begun known table searched = search_begins table _ _ searched.linked known

  pub gone_on : {w r : ℕ} {label : Option ℕ} → w < 32 → (l : ℕ) → label ≡ Some l
      → InEachSearched tasks readers links (λ table. Searching table w r (counted label))
      → marks (get_or readers l 0) r ≡ false
      → InEachSearched tasks readers links (λ table. Searching table w r (before_of links l))
  gone_on known l met searching unmarked table searched =
      search_goes_on table _ _ searched.linked known l (ap counted met) (searching table searched)
      (rw searched.readers_same unmarked)

  -- The number after j that were passed.
  module _ {image : List ℕ} {at j : ℕ} {row : List ℕ}
      (passed : InEachSearched tasks readers links (λ table. StepsPassed image at table j row (last_of row j))) where
    -- it is not a task, or the image ends
    pub number_refused : (count : ℕ) → j < count → (refused : Refused)
        → field 5 8 (λ v. ltb v tasks) image (at + 5 * j) ≡ refuses (number_of refused.refusal) refused.place
        → InEachSearched tasks readers links (λ table. StepsTaken image at table count (Err refused))
    number_refused count more refused said table searched =
        steps_refused _ _ _ (passed table searched) count more refused (rw searched.tasks_same said)

    -- there is none
    pub all_passed : (count : ℕ) → j ≡ count
        → InEachSearched tasks readers links (λ table. StepsTaken image at table count (Ok row))
    all_passed count all table searched = steps_whole _ _ _ (passed table searched) count all

    module _ {x : ℕ} (room : j < 8) (long : length row ≡ 8) (taken : field 5 8 (λ v. ltb v tasks) image (at + 5 * j)
        ≡ gives (record { value = x; next = at + 5 * j + 5 })) where
      -- it is the first, which ends no step
      pub first_passed : j ≡ 0 → InEachSearched tasks readers links
          (λ table. StepsPassed image at table (j + 1) (set row j x) (last_of (set row j x) (j + 1)))
      first_passed none table searched =
          let before = passed table searched in
          rw (last_stored row j x (omega arith))
          (step_passed _ _ _ before x room (rw searched.tasks_same taken) (before.first none x))

      -- its label was found
      pub step_joined : 0 < j → {label : Option ℕ}
          → InEachSearched tasks readers links (λ table. Searching table (last_of (set row j x) j) x (counted label))
          → (l : ℕ) → label ≡ Some l → marks (get_or readers l 0) x ≡ true
          → InEachSearched tasks readers links
          (λ table. StepsPassed image at table (j + 1) (set row j x) (last_of (set row j x) (j + 1)))
      step_joined some searching l met marked table searched =
          let before = passed table searched in
          rw (last_stored row j x (omega arith))
          (step_passed _ _ _ before x room (rw searched.tasks_same taken)
          (before.last some x
          ∙ search_finds table _ _ l (ap counted met) (rw (last_stays row j x some) at (searching table searched))
          (rw searched.readers_same marked)))

      -- no label is left
      pub step_unjoined : 0 < j → {label : Option ℕ}
          → InEachSearched tasks readers links (λ table. Searching table (last_of (set row j x) j) x (counted label))
          → label ≡ None → (count : ℕ) → j < count
          → InEachSearched tasks readers links (λ table. StepsTaken image at table count
          (Err (record { refusal = Chain; place = at + 5 * j })))
      step_unjoined some searching none count more table searched =
          let before = passed table searched in
          steps_unjoined _ _ _ before x room (rw searched.tasks_same taken) count more
          (before.last some x
          ∙ search_ends table _ _ (ap counted none) (rw (last_stays row j x some) at (searching table searched)))
