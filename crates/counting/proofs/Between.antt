-- From one instant to the next: between them a core has no copy. Assumes nothing.
use Prim.Native.Nat.{ℕ, suc, ◌<◌, ◌≤◌, min}
use mathlib.Core.Path.{◌≡◌, sym, ◌∙◌, subst}
use mathlib.Core.Bool.{Bool, true, false, ◌&&◌}
use mathlib.Core.List.{List, map}
use native.Mathlib.Omega.{arith}
use borrow.Author.Tests.{eqb-true}
use lib.Dec.{eqb}
use lib.ListN.{replicate}
use Rattle.lists.proofs.All.{All, all_of_map}
use Rattle.lists.proofs.Bools.{false_unless_true, not_both, and_parts, and_of_parts}
use Rattle.lists.proofs.SomeOf.{some_of_all}
use Rattle.table.specs.Table.{core_of, period_of, timing_of, joins, hyperperiod_of}
use Rattle.table.specs.declared.Table.{Table}
use Rattle.table.specs.Image.{Whole}
use Rattle.table.specs.Rules.{MeetsRules}
use Rattle.table.proofs.Sound.{Sound}
use Rattle.copies.proofs.Turns.{Turn}
use Rattle.instants.specs.Due.{Due}
use Rattle.instants.proofs.NothingDue.{unmarked, nothing_due}
use Rattle.instants.proofs.OfTable.{copies_are}
use Rattle.gathering.specs.Pairs.{code_of, own_task}
use Rattle.gathering.specs.Counters.{tick_in, timing_in, counter_from}
use Rattle.counters.specs.Advanced.{stepped, next_due}
use Rattle.counting.specs.Counting.{point_at, joined_of, pairs_in, Counting}
use Rattle.counting.proofs.OfTable.{pair_listed, joined_joins}
use Rattle.counting.proofs.OnePair.{pair_points, tick_is}
use Rattle.counting.proofs.Steps.{counting_steps, next_later, next_first, counting_next}

module _ (whole : Whole) (rules : MeetsRules whole) (sound : Sound whole.table) (core : ℕ) where
  abbrev table : Table
  table = whole.table

  abbrev H : ℕ
  H = hyperperiod_of table

  abbrev next_of : (kind : Bool) → (t : ℕ) → List ℕ → ℕ
  next_of kind t counters = next_due kind table.period t counters

  module _ {t : ℕ} (inside : t < H) where
    -- of either kind: no pair that the core counts has a point
    module _ (kind : Bool) {counters : List ℕ} (counting : Counting kind table core t counters) where
      -- each is later
      abbrev Later : ℕ → Type 0
      Later pair = next_of kind t counters ≤ tick_in (counter_from kind table.period (suc t) pair)

      all_later : All Later (pairs_in kind table core)
      all_later =
          all_of_map (λ counter. next_of kind t counters ≤ tick_in counter) (counter_from kind table.period (suc t))
          (pairs_in kind table core)
          (rw (counting_steps whole rules sound kind core {t = t} (omega arith) counting) at
          (next_first whole rules sound kind core inside counting))

      none_between : (u : ℕ) → t < u → u < next_of kind t counters → (w r : ℕ) → w < 32 → r < 32
          → (eqb (core_of table (own_task kind w r)) core && joins table w r
          && point_at kind H (timing_in table.period w) (timing_in table.period r) u) ≡ false
      unfolding core_of
      none_between u late before w r writes reads = false_unless_true _ (λ due.
          let (both, point) = and_parts (eqb (core_of table (own_task kind w r)) core && joins table w r) _ due in
          let (on, joined) = and_parts (eqb (core_of table (own_task kind w r)) core) _ both in
          let listed = pair_listed kind core table.core (joined_of table) w r writes reads
          ∙ and_of_parts _ _ (joined_joins whole rules w r writes ∙ joined) on in
          let (pair, same, later) =
          some_of_all (λ pair. eqb pair (code_of w r)) Later (pairs_in kind table core) listed all_later in
          let own = subst Later (eqb-true pair (code_of w r) same) later in
          let points = pair_points whole rules sound kind w r writes reads joined in
          let tick = tick_is whole rules sound kind w r writes reads joined (suc t) inside in
          not_both _ point ((points.first (suc t)).none_earlier u late (omega arith)))

    -- of both: there is no copy
    module _ {publishing reading : List ℕ}
        (writes : Counting false table core t publishing) (reads : Counting true table core t reading)
      where
        nothing : (u : ℕ) → t < u → u < next_of false t publishing → u < next_of true t reading
            → Due table core u (replicate 32 0) (replicate 32 0)
        unfolding point_at timing_of period_of
        nothing u late before sooner = record {
          publishing = λ w r of_w of_r. unmarked w r of_w ∙ sym (none_between false writes u late before w r of_w of_r);
          serving = λ w r of_w of_r. unmarked w r of_w ∙ sym (none_between true reads u late sooner w r of_w of_r);
        }

        -- the next instant of either kind
        abbrev next : ℕ
        next = min (next_of false t publishing) (next_of true t reading)

        pub turn : Turn table core t next
        turn = record {
          inside = inside;
          later =
              let first = next_later whole rules sound false core inside writes in
              let other = next_later whole rules sound true core inside reads in
              omega arith;
          between = λ u late before.
              let due = nothing u late (omega arith) (omega arith) in
              sym (copies_are whole rules core u (replicate 32 0) (replicate 32 0) due)
              ∙ nothing_due table.writer table.readers table.labels;
        }

        -- and there the counters are again those of the instant
        pub writes_next : Counting false table core next (map (stepped false table.period t) publishing)
        writes_next = counting_next whole rules sound false core inside writes next turn.later (omega arith)

        pub reads_next : Counting true table core next (map (stepped true table.period t) reading)
        reads_next = counting_next whole rules sound true core inside reads next turn.later (omega arith)
