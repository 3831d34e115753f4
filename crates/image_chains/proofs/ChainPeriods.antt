-- The periods of a chain's tasks, taken one after the other; and what is shown of them. No contract cites this file.
-- Assumes nothing.
use Prim.Native.Nat.{ℕ, ◌+◌, ◌<◌, ◌≤◌}
use mathlib.Core.Path.{◌≡◌, refl, sym, ap, subst, ◌∙◌}
use mathlib.Core.List.{List, [], map}
use native.Mathlib.Numerals.{add-one}
use native.Mathlib.Omega.{arith}
use borrow.Author.Tests.{lt-ltb, le-ltb}
use lib.ListN.{length, get_or, set, take, length-map}
use lib.Seq.{length-take-le, take-suc, take_all}
use Rattle.lists.specs.Lists.{over}
use Rattle.lists.proofs.Over.{over_none, held_more}
use Rattle.lists.proofs.Padded.{padded_at}
use Rattle.std.specs.Prelude.{Result, Ok, Err, IfOk, IfErr}
use Rattle.outcomes.specs.Outcome.{gives}
use Rattle.table.specs.Refusals.{said_of}
use Rattle.table.specs.Table.{Rows, period_of, chain_of}
use Rattle.table.specs.Image.{Whole, table_of}
use Rattle.table.specs.Shown.{nothing}
use Rattle.table.specs.declared.Refused.{Refused}
use Rattle.table.specs.declared.Table.{Table}
use Rattle.table.proofs.Accepted.{Told, accepted_told}
use Rattle.table.proofs.MeetsRules.{accepted_meets_rules, chain_at_lem}
use Rattle.images.specs.Parts.{WholeRead}
use Rattle.images.proofs.WholeImage.{nothing_shown, whole_shown}
use Rattle.image_chains.specs.Taken.{RightRows, PeriodsTaken}
use Rattle.image_chains.specs.PeriodsShown.{periods_in, PeriodsShown}

-- a table that was read tells how long its chains are
abbrev TellsLengths : Whole → Type 0
TellsLengths whole = (k : ℕ) → k < whole.table.chains
    → get_or whole.table.length k 0 ≡ length (chain_of whole.table whole.rows k)

tells_lengths : (whole : Whole) → Told whole → TellsLengths whole
unfolding table_of
tells_lengths whole told =
    subst TellsLengths told.is (λ k known.
    let inside : k < length told.chains = omega (arith, told.of_chains.0) in
    padded_at 16 0 (λ chain. length chain) told.chains [] 0 k inside
    ∙ ap length (chain_at_lem told.head told.tasks told.labels told.chains k inside))

-- none of a chain that is not in the table
pub no_periods : (whole : Whole) (k : ℕ) → whole.table.chains ≤ k → periods_in whole k ≡ []
unfolding periods_in
no_periods whole k unknown = rw (le-ltb _ _ unknown)

module _ (image : List ℕ) {table : Table} {rows : Rows} where
  -- of a refused image there are none
  pub none_shown : {k : ℕ} {r : Result ℕ Refused} {held : List ℕ} (refused : Refused)
      → WholeRead image (Err refused) table rows → r ≡ Err refused → PeriodsShown image k r held held
  unfolding nothing table_of
  none_shown {k} {r} {held} refused whole handed = record {
    answer = ap said_of handed ∙ rw (← whole.said);
    periods = sym (rw (nothing_shown image whole, no_periods nothing k (omega arith)) (over_none held));
  }

  module _ {round : ℕ} (whole : WholeRead image (Ok round) table rows) where
    -- an accepted table is right with its rows
    pub right_rows : RightRows table rows
    right_rows = record {
      meets = accepted_meets_rules image _ (sym whole.said);
      long = tells_lengths _ (accepted_told image _ (sym whole.said));
    }

    -- what was taken is what is shown
    pub periods_shown : {k count : ℕ} {held left : List ℕ}
        → PeriodsTaken (record { table = table; rows = rows }) k count held left → PeriodsShown image k (Ok count) held left
    periods_shown {k} taken = record {
      answer = rw (← whole.said) (ap gives taken.count_is);
      periods = taken.periods ∙ sym (rw (whole_shown image whole));
    }

  -- whatever the image was answered
  pub right_if : (answer : Result ℕ Refused) → WholeRead image answer table rows → IfOk answer (λ round. RightRows table rows)
  right_if (Ok round) whole = right_rows whole
  right_if (Err refused) whole = tt

  pub shown_by : {k : ℕ} {held left : List ℕ} (answer r : Result ℕ Refused) → WholeRead image answer table rows
      → IfOk r (λ count. PeriodsTaken (record { table = table; rows = rows }) k count held left)
      → ((refused : Refused) → answer ≡ Err refused → (r ≡ Err refused) × (left ≡ held))
      → IfErr r (λ refused. answer ≡ Err refused) → PeriodsShown image k r held left
  shown_by (Ok round) (Ok count) whole taken handed accepted = periods_shown whole taken
  shown_by (Ok round) (Err refused) whole taken handed accepted = absurd (cc)
  shown_by (Err refused) r whole taken handed accepted =
      let (is, same) = handed refused refl in
      rw same (none_shown refused whole is)

-- the periods of the first tasks of a row, over what was held
module _ (period row held : List ℕ) where
  abbrev pub Passed : (i : ℕ) (periods : List ℕ) → Type 0
  Passed i periods = periods ≡ over (map (λ task. get_or period task 0) (take i row)) held

  pub passed_none : Passed 0 held
  passed_none = sym (over_none held)

  pub passed_more : (i : ℕ) (periods : List ℕ) → i < length row → Passed i periods
      → Passed (i + 1) (set periods i (get_or period (get_or row i 0) 0))
  passed_more i periods inside is =
      ap (λ periods. set periods i (get_or period (get_or row i 0) 0)) is
      ∙ held_more (λ task. get_or period task 0) (take i row) held i (get_or row i 0) (length-take-le i row (omega arith))
      ∙ sym (rw (add-one i, take-suc row i 0 inside))

module _ (table : Table) (rows : Rows) (k : ℕ) where
  -- of a chain that is not in the table none are taken
  pub none_taken : table.chains ≤ k → (held : List ℕ) → PeriodsTaken (record { table = table; rows = rows }) k 0 held held
  none_taken unknown held =
      let none = no_periods (record { table = table; rows = rows }) k unknown in
      record { count_is = ap length (sym none); periods = rw none (sym (over_none held)) }

  module _ (right : RightRows table rows) (known : k < table.chains) where
    -- each number of a chain is that of a task
    pub task_below : (j : ℕ) → j < length (chain_of table rows k) → get_or (chain_of table rows k) j 0 < 32
    task_below j below =
        let known_task = (right.meets.chain k known).chain_task j below in
        omega (arith, known_task, right.meets.tasks.1)

    -- all of them are the chain's
    pub passed_all : (held periods : List ℕ)
        → Passed table.period (chain_of table rows k) held (length (chain_of table rows k)) periods
        → PeriodsTaken (record { table = table; rows = rows }) k (get_or table.length k 0) held periods
    unfolding periods_in period_of
    passed_all held periods is = record {
      count_is = rw (lt-ltb _ _ known) (right.long k known ∙ sym (length-map (chain_of table rows k) (period_of table)));
      periods = is ∙ rw (lt-ltb _ _ known, take_all (length (chain_of table rows k)) (chain_of table rows k) (omega arith));
    }
