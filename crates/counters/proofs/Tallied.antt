-- The tallies of the counters that are due, part by part. No contract cites this file. Assumes nothing.
use Rattle.std.proofs.Common.{◌≡◌, ℕ, ◌+◌, ◌/◌, ◌^◌, cond, List, [], ◌∷◌, true, false, refl, ◌∙◌, eqb}
use Rattle.std.specs.Int.Bits.{bit_or}
use Rattle.std.specs.Int.Count.{ones}
use Rattle.label_masks.specs.declared.LabelMasks.{LabelMasks}
use Rattle.gathering.specs.Pairs.{with_mask}
use Rattle.gathering.specs.Counters.{tick_in, writer_in, reader_in}
use Rattle.counters.specs.Advanced.{folded, common_labels, with_one, with_labels, with_count}
use Rattle.counters.specs.Tallies.{written_with, read_with, where_due}
use Rattle.counters.specs.declared.Read.{Read}
use Rattle.counters.specs.declared.Written.{Written}

module _ (masks : LabelMasks) (t : ℕ) where
  abbrev common : ℕ → ℕ
  common counter = common_labels masks.written masks.read counter

  abbrev labels_with : ℕ → ℕ → ℕ
  labels_with = with_labels t masks.written masks.read

  abbrev count_with : ℕ → ℕ → ℕ
  count_with = with_count t masks.written masks.read

  -- what is written
  abbrev all_written : List ℕ → Written → Written
  all_written counters written = record { labels = folded labels_with written.labels counters; next = written.next }

  one_written : (written : Written) (counter : ℕ) (more : List ℕ)
      → all_written more (where_due (written_with masks) t written counter) ≡ all_written (counter ∷ more) written
  unfolding with_labels folded
  one_written written counter more =
      elim (eqb (tick_in counter) t) as (λ b.
      all_written more (cond b (written_with masks written counter) written)
      ≡ record {
        labels = folded labels_with (cond b (bit_or written.labels (common counter)) written.labels) more;
        next = written.next;
      }) [ true ↦ refl | false ↦ refl ]

  pub written_tallied : (counters : List ℕ) (written : Written)
      → folded (where_due (written_with masks) t) written counters ≡ all_written counters written
  unfolding folded
  written_tallied [] written = refl
  written_tallied (counter ∷ counters) written =
      written_tallied counters (where_due (written_with masks) t written counter) ∙ one_written written counter counters

  -- what is read
  abbrev all_read : List ℕ → Read → Read
  all_read counters read = record {
    serves = folded (with_one t) read.serves counters;
    labels = folded labels_with read.labels counters;
    count = folded count_with read.count counters;
    next = read.next;
  }

  one_read : (read : Read) (counter : ℕ) (more : List ℕ)
      → all_read more (where_due (read_with masks) t read counter) ≡ all_read (counter ∷ more) read
  unfolding with_one with_labels with_count folded
  one_read read counter more =
      elim (eqb (tick_in counter) t) as (λ b.
      all_read more (cond b (read_with masks read counter) read)
      ≡ record {
        serves = folded (with_one t)
            (cond b (with_mask read.serves (writer_in counter) (2147483648 / 2 ^ reader_in counter)) read.serves) more;
        labels = folded labels_with (cond b (bit_or read.labels (common counter)) read.labels) more;
        count = folded count_with (cond b (read.count + ones (common counter)) read.count) more;
        next = read.next;
      }) [ true ↦ refl | false ↦ refl ]

  pub read_tallied : (counters : List ℕ) (read : Read)
      → folded (where_due (read_with masks) t) read counters ≡ all_read counters read
  unfolding folded
  read_tallied [] read = refl
  read_tallied (counter ∷ counters) read =
      read_tallied counters (where_due (read_with masks) t read counter) ∙ one_read read counter counters
