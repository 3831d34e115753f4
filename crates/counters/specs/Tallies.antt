-- What one more counter that is due adds to what is written or read at an instant. Cited by the functions of this crate
-- alone. Assumes nothing.
use Rattle.std.specs.Prelude.{ℕ, ◌+◌, ◌/◌, ◌^◌, cond, eqb}
use Rattle.std.specs.Int.Bits.{bit_or}
use Rattle.std.specs.Int.Count.{ones}
use Rattle.label_masks.specs.declared.LabelMasks.{LabelMasks}
use Rattle.gathering.specs.Pairs.{with_mask}
use Rattle.gathering.specs.Counters.{tick_in, writer_in, reader_in}
use Rattle.counters.specs.Advanced.{common_labels}
use Rattle.counters.specs.declared.Read.{Read}
use Rattle.counters.specs.declared.Written.{Written}

-- its labels are written
abbrev pub written_with : LabelMasks → Written → ℕ → Written
written_with masks written counter = record {
  labels = bit_or written.labels (common_labels masks.written masks.read counter);
  next = written.next;
}

-- its reader is served from its writer, its labels are read, and each of them is one read more
abbrev pub read_with : LabelMasks → Read → ℕ → Read
read_with masks read counter =
    let common = common_labels masks.written masks.read counter in record {
      serves = with_mask read.serves (writer_in counter) (2147483648 / 2 ^ reader_in counter);
      labels = bit_or read.labels common;
      count = read.count + ones common;
      next = read.next;
    }

-- one more counter, which adds something where its point is t
abbrev pub where_due : {S : Type 0} → (S → ℕ → S) → (t : ℕ) → S → ℕ → S
where_due add t state counter = cond (eqb (tick_in counter) t) (add state counter) state
