-- The masks that the counters of a core give at a tick are those of the instant. Assumes nothing.
use Prim.Native.Nat.{ℕ, ◌<◌, ◌≤◌}
use mathlib.Core.Path.{◌≡◌, sym, ap, ap₂, ◌∙◌}
use mathlib.Core.Bool.{Bool, true, false, ◌&&◌, and_comm, and-false}
use mathlib.Core.List.{List}
use mathlib.Core.Logic.{by_cases}
use native.Mathlib.Decide.{ℕ_discrete}
use native.Mathlib.Omega.{arith}
use borrow.Author.Tests.{eq-eqb, ne_eqb}
use lib.Dec.{eqb}
use lib.ListN.{get_or, replicate, length-replicate}
use Rattle.lists.proofs.SomeOf.{some_map, some_and, some_same}
use Rattle.table.specs.Table.{core_of, period_of, timing_of, marks, joins, hyperperiod_of}
use Rattle.table.specs.declared.Table.{Table}
use Rattle.table.specs.Image.{Whole}
use Rattle.table.specs.Rules.{MeetsRules}
use Rattle.table.proofs.Sound.{Sound}
use Rattle.instants.specs.Due.{Due}
use Rattle.instants.proofs.NothingDue.{unmarked}
use Rattle.gathering.specs.Pairs.{code_of, own_task}
use Rattle.gathering.specs.Counters.{timing_in, counter_from}
use Rattle.gathering.proofs.Codes.{code_writer, code_reader, pair_counter, counter_writer, counter_reader}
use Rattle.counters.specs.Advanced.{masks_due}
use Rattle.counting.specs.Counting.{point_at, joined_of, pairs_in, Counting}
use Rattle.counting.proofs.Marks.{due_for, due_marks}
use Rattle.counting.proofs.OfTable.{on_core, pair_listed, joined_joins, each_joined}
use Rattle.counting.proofs.OnePair.{pair_points, tick_is}

-- two pairs below 32 have one number where they are the same
same_code : (point other : Bool) (v s w r : ℕ) → v < 32 → s < 32 → w < 32 → r < 32
    → (v ≡ w → s ≡ r → point ≡ other)
    → (point && (eqb v w && eqb r s)) ≡ (other && eqb (code_of v s) (code_of w r))
same_code point other v s w r of_v of_s of_w of_r same =
    by_cases (ℕ_discrete (code_of v s) (code_of w r))
    (λ alike.
    let writer : v ≡ w = omega arith in
    let reader : s ≡ r = omega arith in
    rw (same writer reader, eq-eqb _ _ alike, eq-eqb v w writer, eq-eqb r s (sym reader)))
    (λ unlike. rw (ne_eqb _ _ unlike, and-false other) (by_cases (ℕ_discrete v w)
    (λ writer.
    let reader : ¬ (r ≡ s) = λ e. unlike (omega arith) in
    rw (ne_eqb r s reader, and-false (eqb v w)) (and-false point))
    (λ other_writer. rw (ne_eqb v w other_writer) (and-false point))))

module _ (whole : Whole) (rules : MeetsRules whole) (sound : Sound whole.table) (core t : ℕ)
    (soon : t ≤ hyperperiod_of whole.table)
  where
    abbrev table : Table
    table = whole.table

    -- of either kind
    module _ (kind : Bool) (w r : ℕ) (writes : w < 32) (reads : r < 32) where
      -- t is a point of a pair
      abbrev point : (w r : ℕ) → Bool
      point w r = point_at kind (hyperperiod_of table) (timing_in table.period w) (timing_in table.period r) t

      -- the counter of a pair is due for this writer and reader
      pair_due : (v s : ℕ) → v < 32 → s < 32 → joins table v s ≡ true
          → due_for t w r (counter_from kind table.period t (code_of v s))
          ≡ (point w r && eqb (code_of v s) (code_of w r))
      pair_due v s of_v of_s joined =
          let points = pair_points whole rules sound kind v s of_v of_s joined in
          ap₂ (λ tick pair. eqb tick t && pair)
          (tick_is whole rules sound kind v s of_v of_s joined t soon)
          (rw (
            pair_counter v s of_v of_s,
            counter_writer,
            counter_reader,
            code_writer v s of_v of_s,
            code_reader v s of_v of_s,
          ))
          ∙ ap (λ b. b && (eqb v w && eqb r s)) (points.here t)
          ∙ same_code (point v s) (point w r) v s w r of_v of_s writes reads (λ e d. rw (e, d))

      pub due_kind : {counters : List ℕ} → Counting kind table core t counters
          → marks (get_or (masks_due t counters) w 0) r
          ≡ (eqb (core_of table (own_task kind w r)) core && joins table w r && point w r)
      unfolding core_of
      due_kind {counters} counting =
          due_marks t w r (replicate 32 0) counters (length-replicate {A = ℕ} 32 0)
          ∙ rw (unmarked w r writes, counting)
          (some_map (due_for t w r) (counter_from kind table.period t) (pairs_in kind table core)
          ∙ some_same _ (λ pair. point w r && eqb pair (code_of w r)) (pairs_in kind table core)
          (each_joined whole rules kind core _ pair_due)
          ∙ some_and (λ pair. eqb pair (code_of w r)) (point w r) (pairs_in kind table core)
          ∙ ap (λ b. point w r && b) (pair_listed kind core table.core (joined_of table) w r writes reads
          ∙ ap (λ b. b && on_core kind core table.core (joined_of table) w r) (joined_joins whole rules w r writes))
          ∙ and_comm (point w r) _ ∙ ap (λ b. b && point w r) (and_comm (joins table w r) _))

    -- of both
    abbrev masks_of : (kind : Bool) → List ℕ → List ℕ
    masks_of kind counters = masks_due t counters

    pub due : {publishing reading : List ℕ}
        → Counting false table core t publishing → Counting true table core t reading
        → Due table core t (masks_of false publishing) (masks_of true reading)
    unfolding point_at timing_of period_of
    due writes reads = record {
      publishing = λ w r of_w of_r. due_kind false w r of_w of_r writes;
      serving = λ w r of_w of_r. due_kind true w r of_w of_r reads;
    }
