-- Of a table's core: as many labels of the reading counters that are due, pair by pair, as reads that are due. Assumes
-- nothing.
use Prim.Native.Nat.{ℕ, ◌^◌, ◌<◌, ◌≤◌, min}
use mathlib.Core.Path.{◌≡◌, refl, sym, ap, ap₂, ◌∙◌}
use mathlib.Core.Bool.{Bool, true, false, cond, ◌&&◌, and-false}
use mathlib.Core.List.{List, []}
use native.Mathlib.Nat.{mod-lt, zero-add}
use mathlib.Core.Logic.{by_cases}
use native.Mathlib.Decide.{dec_lt}
use native.Mathlib.Omega.{arith}
use borrow.Author.Tests.{eq-eqb, ne_eqb, lt-ltb, le-ltb}
use lib.Dec.{eqb, ltb, lit<}
use lib.ListN.{length, get_or}
use Rattle.lists.specs.Lists.{each_below, each_of, only_if}
use Rattle.lists.proofs.Below.{each_below_same, each_below_less}
use Rattle.lists.proofs.Sums.{length_below_same, below_only}
use Rattle.masks.specs.Masks.{holds}
use Rattle.table.specs.Table.{core_of, marks, joins, hyperperiod_of}
use Rattle.table.specs.declared.Table.{Table}
use Rattle.table.specs.Image.{Whole}
use Rattle.table.specs.Rules.{MeetsRules}
use Rattle.table.proofs.Sound.{Sound}
use Rattle.copies.specs.Copies.{Copy, read}
use Rattle.instants.specs.Due.{in_both, reads_due, writer_due, all_reads_due}
use Rattle.label_masks.specs.LabelMasks.{WrittenLabels, ReadLabels}
use Rattle.gathering.specs.Pairs.{code_of}
use Rattle.gathering.specs.Counters.{tick_in, timing_in, counter_from}
use Rattle.counters.specs.Advanced.{common_labels, masks_due, count_due}
use Rattle.counting.specs.Counting.{point_at, joined_of, Counting}
use Rattle.counting.proofs.DueMasks.{due_kind}
use Rattle.counting.proofs.LabelsDue.{common_holds}
use Rattle.counting.proofs.OfTable.{on_core, joined_joins}
use Rattle.counting.proofs.OnePair.{pair_points, tick_is}
use Rattle.counting.proofs.PairTests.{as_many, arranged, writer_of, reader_of, reader_known}
use Rattle.counting.proofs.ReadsCounted.{due_labels, all_counted, pair_test, listed_due, by_labels}

module _ (whole : Whole) (rules : MeetsRules whole) (sound : Sound whole.table) (core t : ℕ)
    (soon : t ≤ hyperperiod_of whole.table) {counters : List ℕ}
    (counting : Counting true whole.table core t counters) (written read_by_lem : List ℕ)
    (of_writers : WrittenLabels whole.table.labels whole.table.writer written)
    (of_readers : ReadLabels whole.table.labels whole.table.tasks whole.table.readers read_by_lem)
    (few : (counter : ℕ) → common_labels written read_by_lem counter < 2 ^ 64)
  where
    abbrev table : Table
    table = whole.table

    abbrev masks : List ℕ
    masks = masks_due t counters

    abbrev from : ℕ → ℕ
    from = counter_from true table.period t

    abbrev due : ℕ → Bool
    due counter = eqb (tick_in counter) t

    abbrev wl : ℕ → ℕ
    wl l = writer_due table.writer l

    abbrev test : (l w r : ℕ) → Bool
    test l w r = pair_test true core table.core (joined_of table) from due (common_labels written read_by_lem) l w r

    abbrev listed : (w r : ℕ) → Bool
    listed w r = listed_due true core table.core (joined_of table) from due (common_labels written read_by_lem) w r

    -- the labels of a pair
    pair_labels : (l w r : ℕ) → l < 64 → w < 32 → r < 32 → holds 64 (common_labels written read_by_lem (from (code_of w r))) l
        ≡ (ltb l table.labels && (eqb (wl l) w && marks (get_or table.readers l 0) r))
    pair_labels l w r below writes reads =
        common_holds table.labels table.tasks table.writer table.readers written read_by_lem of_writers of_readers
        (reader_known whole rules t) (from (code_of w r)) l below
        ∙ ap₂ (λ v s. ltb l table.labels && (eqb (wl l) v && marks (get_or table.readers l 0) s))
        (writer_of whole rules t w r writes reads) (reader_of whole rules t w r writes reads)

    -- a label that is none of a writer's
    no_label : (l w : ℕ) → l < 64 → w < 32
        → ((r : ℕ) → (ltb l table.labels && (eqb (wl l) w && marks (get_or table.readers l 0) r)) ≡ false)
        → each_below 32 (λ r. only_if (test l w r) l) ≡ []
    unfolding each_below
    no_label l w below writes none =
        each_below_less 0 32 (λ r. only_if (test l w r) l) (omega arith) (λ r late reads.
        ap (λ b. only_if (listed w r && b) l) (pair_labels l w r below writes reads ∙ none r)
        ∙ ap (λ b. only_if b l) (and-false (listed w r)))

    -- the test of a pair of a label's writer is that of a read
    own_writer : (l r : ℕ) → l < 64 → l < table.labels → r < 32
        → test l (wl l) r ≡ in_both (get_or table.readers l 0) (get_or masks (wl l) 0) r
    unfolding writer_due core_of
    own_writer l r below known reads =
        let w = wl l in
        let writes : wl l < 32 = mod-lt _ (lit< tt) in
        ap₂ (λ joined has. ((joined && on_core true core table.core (joined_of table) w r) && due (from (code_of w r))) && has)
        (joined_joins whole rules w r writes)
        (pair_labels l w r below writes reads ∙ rw (lt-ltb l table.labels known, eq-eqb w w refl))
        ∙ arranged (joins table w r) (eqb (core_of table r) core) (due (from (code_of w r)))
        (point_at true (hyperperiod_of table) (timing_in table.period w) (timing_in table.period r) t)
        (marks (get_or table.readers l 0) r)
        (λ joined.
        ap (λ tick. eqb tick t) (tick_is whole rules sound true w r writes reads joined t soon)
        ∙ (pair_points whole rules sound true w r writes reads joined).here t)
        ∙ ap (λ b. marks (get_or table.readers l 0) r && b)
        (sym (due_kind whole rules sound core t soon true w r writes reads counting))

    -- label by label
    abbrev of_label : ℕ → List Copy
    of_label l = reads_due (get_or table.readers l 0) (get_or masks (wl l) 0) l

    one_label : (l : ℕ) → l < 64 → length (each_below 32 (λ w. each_below 32 (λ r. only_if (test l w r) l)))
        ≡ length (cond (ltb l table.labels) (of_label l) [])
    unfolding writer_due reads_due
    one_label l below =
        let writes : wl l < 32 = mod-lt _ (lit< tt) in
        ap length (below_only 32 (wl l) _ writes (λ w known other.
        no_label l w below known (λ r.
        rw (ne_eqb (wl l) w (λ same. other (sym same))) (and-false (ltb l table.labels)))))
        ∙ by_cases (dec_lt l table.labels)
        (λ known.
        rw (lt-ltb l table.labels known)
        (length_below_same 32 _ _ (λ r reads. as_many l (read l r) _ _ (own_writer l r below known reads))))
        (λ late.
        let past = le-ltb l table.labels (omega arith) in
        rw past (ap length (no_label l (wl l) below writes (λ r. rw past))))

    pub reads_counted : count_due t written read_by_lem counters
        ≡ length (all_reads_due table.writer table.readers masks (min table.labels 64))
    unfolding all_reads_due
    reads_counted =
        all_counted t written read_by_lem few 0 counters ∙ zero-add _
        ∙ ap (λ cs. length (each_of cs (due_labels t written read_by_lem few))) counting
        ∙ by_labels true core table.core (joined_of table) from due (common_labels written read_by_lem)
        ∙ length_below_same 64 _ _ one_label
        ∙ ap length
        (each_below_less (min table.labels 64) 64 (λ l. cond (ltb l table.labels) (of_label l) []) (omega arith)
        (λ l late below. rw (le-ltb l table.labels (omega arith)))
        ∙ each_below_same (min table.labels 64) _ of_label (λ l known. rw (lt-ltb l table.labels (omega arith))))
