-- Small runs, by computation: with the listed copies jobs read what they read with full copying. Assumes nothing.
use mathlib.Core.Path.{◌≡◌, refl}
use mathlib.Core.List.{[], ◌∷◌}
use Rattle.lists.specs.Lists.{some_below, each_below, each_of, padded}
use Rattle.bits.specs.Bits.{bit_count, bit_at, field_at}
use Rattle.bits.specs.Found.{found_at}
use Rattle.times.specs.Releases.{is_release}
use Rattle.times.specs.Hyperperiod.{gcd_in, gcd, lcm, lcm_from, lcm_of}
use Rattle.times.specs.Points.{publishing, reading, is_publishing, is_reading, publishes_at, serves_at}
use Rattle.outcomes.specs.Outcome.{gives}
use Rattle.taking.specs.Reading.{field, in_row, check, zero_bits, nothing_follows}
use Rattle.table.specs.Table.{core_of, period_of, timing_of, writer_of, marks, reads, hyperperiod_of}
use Rattle.table.specs.Image.{between, head_fields, task_fields, right_readers, label_fields, table_of, rows_of, fill}
use Rattle.table.specs.Image.{all_fields, whole_fields, read_image}
use Rattle.copies.specs.Copies.{written, served, writes_at, reads_at, copies_at, frames_at, frames_of}
use Rattle.copies.specs.Listing.{all_listings}
use Rattle.copies.specs.Plans.{listed_plan, full_plan}
use Rattle.runs.specs.Runs.{read_by, after_act, after_turns, after_writes, after_reads, after_acts}
use Rattle.runs.specs.Runs.{at_start, state_after, values_read}
use Rattle.lists.specs.Lists.{some_of}
use Rattle.runs.specs.FramePlan.{copies_due, plan_of, listings_plan}
use Rattle.runs.specs.Controls.{pair_on, pair, pair_image, apart, apart_image, slow_writer_image, equal_image}
use Rattle.runs.specs.Controls.{two_readers, two_readers_image}
use Rattle.runs.specs.Controls.{total, talk, tell, value_of}

-- the definitions that a run computes by
of_times : Unit {0}
unfolding some_below is_release gcd_in gcd lcm lcm_from lcm_of publishing reading is_publishing is_reading publishes_at serves_at
of_times = tt

of_table : Unit {0}
unfolding padded table_of period_of timing_of writer_of marks reads hyperperiod_of written served listed_plan full_plan
of_table = tt

of_runs : Unit {0}
unfolding read_by after_act after_turns after_writes after_reads after_acts at_start state_after values_read
of_runs = tt

of_image : Unit {0}
unfolding bit_count bit_at field_at field found_at in_row check zero_bits nothing_follows between head_fields task_fields right_readers label_fields fill
    all_fields
of_image = tt

of_listings : Unit {0}
unfolding each_below each_of core_of writes_at reads_at copies_at frames_at frames_of some_of all_listings copies_due plan_of
    listings_plan
of_listings = tt

unfoldable pub computes : Unit {0}
unfolding of_times of_table of_runs pair_on two_readers total talk tell
computes = tt

-- the tables are accepted ones
pub pair_accepted : read_image pair_image ≡ gives (record { table = pair 2 5; rows = rows_of [] })
unfolding computes of_image whole_fields read_image rows_of
pair_accepted = refl

pub apart_accepted : read_image apart_image ≡ gives (record { table = apart 2 5; rows = rows_of [] })
unfolding computes of_image whole_fields read_image rows_of
apart_accepted = refl

pub slow_writer_accepted : read_image slow_writer_image ≡ gives (record { table = pair 5 2; rows = rows_of [] })
unfolding computes of_image whole_fields read_image rows_of
slow_writer_accepted = refl

pub equal_accepted : read_image equal_image ≡ gives (record { table = pair 3 3; rows = rows_of [] })
unfolding computes of_image whole_fields read_image rows_of
equal_accepted = refl

pub two_readers_accepted : read_image two_readers_image ≡ gives (record { table = two_readers; rows = rows_of [] })
unfolding computes of_image whole_fields read_image rows_of
two_readers_accepted = refl

-- two tasks that answer each other, the writer of label 0 the faster one, the slower one, and neither
pub listed_2_5 : values_read (listed_plan (pair 2 5)) (λ l. l) talk 20 ≡ values_read (full_plan (pair 2 5)) (λ l. l) talk 20
unfolding computes
listed_2_5 = refl

pub listed_5_2 : values_read (listed_plan (pair 5 2)) (λ l. l) talk 20 ≡ values_read (full_plan (pair 5 2)) (λ l. l) talk 20
unfolding computes
listed_5_2 = refl

pub listed_3_3 : values_read (listed_plan (pair 3 3)) (λ l. l) talk 20 ≡ values_read (full_plan (pair 3 3)) (λ l. l) talk 20
unfolding computes
listed_3_3 = refl

-- what task 1 reads last in the first of these runs
pub last_read_2_5 : value_of 39 (values_read (listed_plan (pair 2 5)) (λ l. l) talk 20) ≡ 777
unfolding computes
last_read_2_5 = refl

-- the listings carried out, core by core and frame by frame
pub listings_2_5 :
    values_read (listings_plan (pair 2 5)) (λ l. l) talk 20 ≡ values_read (full_plan (pair 2 5)) (λ l. l) talk 20
unfolding computes of_listings
listings_2_5 = refl

-- and of two cores, each of which has copies of both kinds
pub listings_apart :
    values_read (listings_plan (apart 2 5)) (λ l. l) talk 20 ≡ values_read (full_plan (apart 2 5)) (λ l. l) talk 20
unfolding computes of_listings
listings_apart = refl

pub last_read_apart : value_of 39 (values_read (listings_plan (apart 2 5)) (λ l. l) talk 20) ≡ 777
unfolding computes of_listings
last_read_apart = refl

pub listed_two_readers :
    values_read (listed_plan two_readers) (λ l. 0) (tell (1 ∷ 2 ∷ [])) 24
    ≡ values_read (full_plan two_readers) (λ l. 0) (tell (1 ∷ 2 ∷ [])) 24
unfolding computes
listed_two_readers = refl
