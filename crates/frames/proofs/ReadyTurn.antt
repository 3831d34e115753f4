-- From one instant to the next: the counters that are ready at an instant show its copies, and are ready at the next one,
-- with no copy in between. No contract cites this file. Assumes nothing.
use Prim.Native.Nat.{ℕ, ◌+◌, ◌<◌, ◌^◌, min}
use mathlib.Core.Bool.{true, false}
use mathlib.Core.Path.{◌≡◌, sym, ap, ap₂, ◌∙◌}
use mathlib.Core.List.{List, map, ◌++◌}
use native.Mathlib.Omega.{arith}
use native.Mathlib.Nat.{mod-lt}
use lib.Bits.{and_le_l}
use lib.Count.{ones}
use lib.Dec.{lit<}
use lib.ListN.{length, get_or, length-append}
use Rattle.table.specs.Table.{reads, hyperperiod_of}
use Rattle.table.specs.Image.{Whole}
use Rattle.table.specs.declared.Table.{Table}
use Rattle.copies.specs.Copies.{copies_at}
use Rattle.copies.proofs.Turns.{Turn}
use Rattle.instants.specs.Due.{copies_due, writes_due, writes_in, reads_in, HoldsDue}
use Rattle.instants.proofs.ByLabels.{writes_in_lem, reads_in_lem, writes_many}
use Rattle.instants.proofs.OfTable.{copies_are}
use Rattle.gathering.specs.Counters.{writer_in, reader_in}
use Rattle.counters.specs.Advanced.{stepped, common_labels, masks_due, labels_due, count_due, next_due}
use Rattle.counting.proofs.Between.{turn, writes_next, reads_next}
use Rattle.counting.proofs.DueMasks.{due}
use Rattle.counting.proofs.LabelsDue.{holds_due}
use Rattle.counting.proofs.ReadsMany.{reads_counted}
use Rattle.label_masks.specs.declared.LabelMasks.{LabelMasks}
use Rattle.frames.specs.Counts.{Right}
use Rattle.frames.specs.Ready.{MasksOf, Ready}

-- the next instant, by the counters of both kinds
abbrev pub next_of : (periods : List ℕ) (t : ℕ) (publishing reading : List ℕ) → ℕ
next_of periods t publishing reading = min (next_due false periods t publishing) (next_due true periods t reading)

pub record ReadyTurn (table : Table) (core t : ℕ) (masks : LabelMasks) (publishing reading : List ℕ) : Type 0 where
  pub turn : Turn table core t (next_of table.period t publishing reading)
  pub copies : writes_in table.writer (labels_due t masks.written masks.read publishing)
      ++ reads_in table.writer table.readers (masks_due t reading) (labels_due t masks.written masks.read reading)
      ≡ copies_at table core t
  pub many : labels_due t masks.written masks.read publishing < 2 ^ 64
      → ones (labels_due t masks.written masks.read publishing) + count_due t masks.written masks.read reading
      ≡ length (copies_at table core t)
  pub ready : Ready table core (next_of table.period t publishing reading)
      (map (stepped false table.period t) publishing) (map (stepped true table.period t) reading)

module _ (table : Table) (core t : ℕ) (publishing reading : List ℕ) (right : Right table)
    (inside : t < hyperperiod_of table) (ready : Ready table core t publishing reading)
    {masks : LabelMasks} (over : MasksOf table masks)
  where
    abbrev whole : Whole
    whole = record { table = table; rows = right.rows }

    -- the labels of the counters that are due
    labels_due_lem : (counters : List ℕ) → HoldsDue table.labels table.writer table.readers (masks_due t counters)
        (labels_due t masks.written masks.read counters)
    unfolding reads
    labels_due_lem counters =
        holds_due table.labels table.tasks table.writer table.readers masks.written masks.read over.of_writers
        over.of_readers (λ l r known marked. (right.meets.reader l r known marked).0) t counters

    few_common : (counter : ℕ) → common_labels masks.written masks.read counter < 2 ^ 64
    unfolding common_labels
    few_common counter =
        omega (
          arith,
          and_le_l (get_or masks.written (writer_in counter) 0) (get_or masks.read (reader_in counter) 0),
          over.of_writers.few (writer_in counter) (mod-lt _ (lit< tt)),
        )

    abbrev all_copies : copies_due table.labels table.writer table.readers (masks_due t publishing) (masks_due t reading)
        ≡ copies_at table core t
    all_copies =
        copies_are whole right.meets core t _ _
        (due whole right.meets right.sound core t (omega arith) ready.publishing_counts ready.reading_counts)

    abbrev writes : List ℕ → ℕ
    writes due_masks = length (writes_due table.writer table.readers due_masks (min table.labels 64))

    pub ready_turn : ReadyTurn table core t masks publishing reading
    unfolding copies_due
    ready_turn =
        let rules = right.meets in
        let sound = right.sound in
        let published = ready.publishing_counts in
        let served = ready.reading_counts in
        let many_reads = reads_counted whole rules sound core t (omega arith) served masks.written masks.read over.of_writers
        over.of_readers few_common in
        record {
          turn = turn whole rules sound core inside published served;
          copies =
              ap₂ ◌++◌ (writes_in_lem _ _ _ _ _ (labels_due_lem publishing)) (reads_in_lem _ _ _ _ _ (labels_due_lem reading))
              ∙ all_copies;
          many = λ few.
              ap₂ ◌+◌ (sym (writes_many _ _ _ _ _ (labels_due_lem publishing) few)) many_reads
              ∙ sym (length-append (writes_due table.writer table.readers (masks_due t publishing) (min table.labels 64)) _)
              ∙ ap length all_copies;
          ready = record {
            publishing_counts = writes_next whole rules sound core inside published served;
            reading_counts = reads_next whole rules sound core inside published served;
          };
        }
