-- The starred cases of document 01 hold of its definitions: one table, one theorem, by computation. Assumes nothing.
use mathlib.Core.Path.{refl}
use Rattle.lists.specs.Lists.{some_below, each_below, each_of, padded}
use Rattle.bits.specs.Bits.{bit_count, bit_at, field_at}
use Rattle.bits.specs.Found.{found_at}
use Rattle.bits.specs.Packing.{bits_of, bits_of_all, formed_by, bytes_of, bytes_for, packed}
use Rattle.times.specs.Releases.{release, job_end, first_from}
use Rattle.times.specs.Hyperperiod.{gcd_in, gcd, lcm, lcm_from, lcm_of}
use Rattle.times.specs.Points.{publishing, reading, is_publishing, is_reading, publishes_at, serves_at}
use Rattle.taking.specs.Reading.{field, in_row, check, zero_bits, nothing_follows}
use Rattle.table.specs.Table.{core_of, period_of, timing_of, writer_of, marks, reads, joins, hyperperiod_of}
use Rattle.table.specs.Image.{between, head_fields, task_fields, right_readers, label_fields, table_of, rows_of, step_holds}
use Rattle.table.specs.Image.{chain_task, chain_fields, fill, all_fields, whole_fields, read_image}
use Rattle.table.specs.Shown.{answer_of}
use Rattle.copies.specs.Copies.{written, served, writes_at, reads_at, copies_at, frames_at, frames_of}
use Rattle.copies.specs.Listing.{copy_fields, frame_fields, listing_fields, listing_of}
use Rattle.ages.specs.Ages.{follow, end_of, is_basic, length_of, age_of, round_of, basic_paths, largest, least, worst_age}
use Rattle.ages.specs.Ages.{last_task, age_at_release, best_age, ages_of}
use Rattle.questions.specs.Questions.{core_listed, listing}
use Rattle.first_line.specs.FirstLine.{hyperperiod}
use Rattle.cases.specs.Kinds.{AllHold, none, ◌also◌, Holds}
use Rattle.cases.specs.Starred.{starred}

pub starred_cases_hold : AllHold starred
unfolding Holds some_below each_below each_of padded bit_count bit_at field_at bits_of bits_of_all formed_by bytes_of
    bytes_for packed release job_end first_from gcd_in gcd lcm lcm_from lcm_of publishing reading is_publishing
    is_reading publishes_at serves_at field found_at in_row check zero_bits nothing_follows core_of period_of timing_of
    writer_of marks reads joins hyperperiod_of between head_fields task_fields right_readers label_fields table_of
    rows_of step_holds chain_task chain_fields fill all_fields whole_fields read_image answer_of written served writes_at
    reads_at copies_at frames_at frames_of copy_fields frame_fields listing_fields listing_of follow end_of is_basic
    length_of last_task age_at_release age_of round_of basic_paths largest least worst_age best_age ages_of core_listed
    listing hyperperiod
starred_cases_hold =
    refl also refl also refl also refl also refl also refl also refl also refl also refl also refl
    also refl also refl also refl also none
