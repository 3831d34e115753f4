-- The listed copies of a sound table suffice. Assumes nothing.
use Prim.Native.Nat.{ℕ, ◌<◌, ◌∣◌}
use mathlib.Core.Bool.{true, ◌&&◌}
use mathlib.Core.Path.{◌≡◌, subst}
use lib.Dec.{ltb}
use borrow.Author.Tests.{lt-ltb}
use Rattle.lists.proofs.Bools.{and_parts, and_of_parts}
use Rattle.lists.proofs.Lists.{some_below_finds, some_below_found}
use Rattle.times.specs.Releases.{is_release}
use Rattle.times.specs.Points.{publishes_at, serves_at}
use Rattle.table.specs.Table.{timing_of, writer_of, reads, hyperperiod_of}
use Rattle.table.specs.declared.Table.{Table}
use Rattle.copies.specs.Copies.{written, served}
use Rattle.copies.specs.Plans.{listed_plan, full_plan}
use Rattle.runs.specs.Sufficing.{LastUpTo, SomeWithin, Suffices}
use Rattle.runs.proofs.Pair.{publishes_at_release, serves_at_release, publishes_the_last, serves_since_last}
use Rattle.table.proofs.Sound.{Sound}

module _ (table : Table) (sound : Sound table) where
  positive : (i : ℕ) → i < table.tasks → 0 < (timing_of table i).period
  unfolding timing_of
  positive = sound.period_positive

  divides : (i : ℕ) → i < table.tasks → (timing_of table i).period ∣ hyperperiod_of table
  unfolding timing_of
  divides = sound.period_divides

  -- a label and a reader of it
  module _ (l r : ℕ) (reader : reads table l r ≡ true) where
    writer_known : writer_of table l < table.tasks
    writer_known = sound.writer_known l

    reader_known : r < table.tasks
    reader_known = sound.reader_known l r reader

    label_known : ltb l table.labels ≡ true
    label_known = lt-ltb l table.labels (sound.label_known l r reader)

    write_at_release : (t : ℕ)
        → publishes_at (hyperperiod_of table) (timing_of table (writer_of table l)) (timing_of table r) t ≡ true
        → (full_plan table).writes l t ≡ true
    unfolding full_plan
    write_at_release t point =
        and_of_parts (ltb l table.labels) _ label_known
        (publishes_at_release (hyperperiod_of table) _ (timing_of table r)
        (positive _ writer_known) (positive r reader_known) (divides _ writer_known) (divides r reader_known) t point)

    read_at_release : (t : ℕ)
        → serves_at (hyperperiod_of table) (timing_of table (writer_of table l)) (timing_of table r) t ≡ true
        → is_release (timing_of table r) t ≡ true
    read_at_release =
        serves_at_release (hyperperiod_of table) _ _
        (positive _ writer_known) (positive r reader_known) (divides _ writer_known) (divides r reader_known)

    module _
        (t w : ℕ) (released : is_release (timing_of table r) t ≡ true) (last : LastUpTo ((full_plan table).writes l) t w)
      where
        -- of a label of the table, the releases of its writer
        last_of_writer : LastUpTo (is_release (timing_of table (writer_of table l))) t w
        unfolding full_plan
        last_of_writer =
            subst (λ known. LastUpTo (λ u. known && is_release (timing_of table (writer_of table l)) u) t w)
            label_known last

        write_needed : publishes_at (hyperperiod_of table) (timing_of table (writer_of table l)) (timing_of table r) w ≡ true
        write_needed =
            publishes_the_last (hyperperiod_of table) _ _
            (positive _ writer_known) (positive r reader_known) (divides _ writer_known) (divides r reader_known)
            t w released last_of_writer

        read_needed :
            SomeWithin (serves_at (hyperperiod_of table) (timing_of table (writer_of table l)) (timing_of table r)) w t
        read_needed =
            serves_since_last (hyperperiod_of table) _ _
            (positive _ writer_known) (positive r reader_known) (divides _ writer_known) (divides r reader_known)
            t w released last_of_writer

  pub listed_copies_suffice : Suffices (listed_plan table) (full_plan table)
  unfolding listed_plan full_plan written served
  listed_copies_suffice = record {
    writes_at_releases = λ l t is.
        let (r, known, found) = some_below_finds table.tasks _ is in
        let (reader, point) = and_parts (reads table l r) _ found in
        write_at_release l r reader t point;
    serves_at_releases = λ l r t is.
        let (reader, point) = and_parts (reads table l r) _ is in
        and_of_parts _ _ reader (read_at_release l r reader t point);
    writes_the_last = λ l r t w is last.
        let (reader, released) = and_parts (reads table l r) _ is in
        some_below_found table.tasks _ r (sound.reader_known l r reader)
        (and_of_parts (reads table l r) _ reader (write_needed l r reader t w released last));
    serves_since = λ l r t w is last.
        let (reader, released) = and_parts (reads table l r) _ is in
        let read = read_needed l r reader t w released last in
        record {
          tick = read.tick;
          passes = and_of_parts (reads table l r) _ reader read.passes;
          from_start = read.from_start;
          in_time = read.in_time;
        };
  }
