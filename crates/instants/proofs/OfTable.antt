-- Of a table that meets the rules, the copies that the masks of an instant make due are those of document 01, in their
-- order. Assumes nothing.
use Prim.Native.Nat.{ℕ, ◌<◌, ◌≤◌, min}
use mathlib.Core.Path.{◌≡◌, refl, ap, ap₂, ◌∙◌}
use mathlib.Core.Bool.{Bool, true, false, ◌&&◌, and-false}
use mathlib.Core.List.{List, ◌++◌}
use native.Mathlib.Nat.{mod-eq_of_lt}
use native.Mathlib.Omega.{arith}
use borrow.Author.Tests.{eq-eqb}
use lib.Dec.{eqb}
use lib.ListN.{get_or}
use Rattle.lists.specs.Lists.{some_below, each_below, only_if}
use Rattle.lists.proofs.Bools.{false_unless_true}
use Rattle.lists.proofs.Lists.{some_below_found, some_below_same}
use Rattle.lists.proofs.Below.{each_below_same, each_below_less, some_below_less, some_below_and}
use Rattle.times.specs.Points.{publishes_at, serves_at}
use Rattle.table.specs.Table.{core_of, timing_of, writer_of, readers_of, reads, joins, hyperperiod_of}
use Rattle.table.specs.declared.Table.{Table}
use Rattle.table.specs.Image.{Whole}
use Rattle.table.specs.Rules.{MeetsRules}
use Rattle.copies.specs.Copies.{write, read, written, served, writes_at, reads_at, copies_at}
use Rattle.instants.specs.Due.{Due, in_both, write_due, reads_due, writer_due, writes_due, all_reads_due, copies_due}

-- a reader that is joined, of a core at a point
arranged : (reads core joins point : Bool) → (reads ≡ true → joins ≡ true)
    → (reads && (core && joins && point)) ≡ (core && (reads && point))
arranged false true joins point also = refl
arranged false false joins point also = refl
arranged true true joins point also = rw (also refl)
arranged true false joins point also = refl

module _ (whole : Whole) (rules : MeetsRules whole) where
  abbrev table : Table
  table = whole.table

  -- the writer of a label, which goes from it to each of its readers
  writer_known : (l : ℕ) → l < table.labels → writer_of table l < 32
  writer_known l known = omega (arith, rules.writer l known, rules.tasks.1)

  pub writer_is : (l : ℕ) → l < table.labels → writer_due table.writer l ≡ writer_of table l
  unfolding writer_due writer_of
  writer_is l known = mod-eq_of_lt (writer_known l known)

  also_joined : (l r : ℕ) → l < table.labels → reads table l r ≡ true → joins table (writer_of table l) r ≡ true
  unfolding joins
  also_joined l r known marked = some_below_found _ _ l known (rw (eq-eqb (writer_of table l) _ refl) marked)

  unread_past : (l r : ℕ) → l < table.labels → table.tasks ≤ r → reads table l r ≡ false
  unread_past l r known past =
      false_unless_true (reads table l r) (λ marked. absurd (omega (arith, (rules.reader l r known marked).0)))

  module _ (core t : ℕ) (publishes serves : List ℕ) (due : Due whole.table core t publishes serves) where
    write_is : (l : ℕ) → l < table.labels
        → some_below 32 (in_both (readers_of table l) (get_or publishes (writer_of table l) 0))
        ≡ (eqb (core_of table (writer_of table l)) core && written table l t)
    unfolding written reads
    write_is l known =
        let w = writer_of table l in
        let point : ℕ → Bool = λ r. publishes_at (hyperperiod_of table) (timing_of table w) (timing_of table r) t in
        some_below_same 32 _ (λ r. eqb (core_of table w) core && (reads table l r && point r))
        (λ r below.
        ap (λ b. reads table l r && b) (due.publishing w r (writer_known l known) below)
        ∙ arranged (reads table l r) (eqb (core_of table w) core) (joins table w r) (point r) (also_joined l r known))
        ∙ some_below_and 32 (eqb (core_of table w) core) (λ r. reads table l r && point r)
        ∙ ap (λ b. eqb (core_of table w) core && b)
        (some_below_less table.tasks 32 (λ r. reads table l r && point r) rules.tasks.1
        (λ r past below. rw (unread_past l r known past)))

    reads_are : (l : ℕ) → l < table.labels
        → each_below 32 (λ r. only_if (in_both (readers_of table l) (get_or serves (writer_of table l) 0) r) (read l r))
        ≡ each_below table.tasks (λ r. only_if (eqb (core_of table r) core && served table l r t) (read l r))
    unfolding served reads
    reads_are l known =
        let w = writer_of table l in
        let point : ℕ → Bool = λ r. serves_at (hyperperiod_of table) (timing_of table w) (timing_of table r) t in
        each_below_same 32 _ (λ r. only_if (eqb (core_of table r) core && (reads table l r && point r)) (read l r))
        (λ r below. ap (λ b. only_if b (read l r))
        (ap (λ b. reads table l r && b) (due.serving w r (writer_known l known) below)
        ∙ arranged (reads table l r) (eqb (core_of table r) core) (joins table w r) (point r) (also_joined l r known)))
        ∙ each_below_less table.tasks 32 _ rules.tasks.1
        (λ r past below. rw (unread_past l r known past, and-false (eqb (core_of table r) core)))

    -- the writes, the reads, and all of them
    pub writes_are : writes_due table.writer table.readers publishes table.labels ≡ writes_at table core t
    unfolding writes_due write_due writes_at
    writes_are =
        each_below_same table.labels _ _ (λ l known.
        rw (writer_is l known) (ap (λ b. only_if b (write l (writer_of table l))) (write_is l known)))

    pub all_reads_are : all_reads_due table.writer table.readers serves table.labels ≡ reads_at table core t
    unfolding all_reads_due reads_due reads_at
    all_reads_are =
        each_below_same table.labels _ _ (λ l known. rw (writer_is l known) (reads_are l known))

    pub copies_are : copies_due table.labels table.writer table.readers publishes serves ≡ copies_at table core t
    unfolding copies_due copies_at
    copies_are =
        let whole_count : min table.labels 64 ≡ table.labels = omega (arith, rules.labels.1) in
        rw whole_count (ap₂ ◌++◌ writes_are all_reads_are)
