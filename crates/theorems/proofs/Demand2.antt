-- DEMAND 2. Right is the published arithmetic: points, copy frames over the hyperperiod, ages. A table is accepted
-- exactly when it meets the rules; each listing has exactly the frames, copies and bytes of document 01. The contracts
-- determine every answer for every input.
-- To be read before, besides what demand 1 names: lists/specs/Lists, times/specs/Releases, Hyperperiod, Rounds and
-- Points, table/specs/Rules, bits/specs/Packing, writing/specs/Written, copies/specs/Copies and Listing,
-- ages/specs/Ages, aged_chains/specs/Aged, questions/specs/Answers, listings/specs/FromBytes and Fits,
-- first_line/specs/FirstLine, printing/specs/Words and Printed, cases/specs (all under crates/). How a contract is quoted:
-- Demand1.antt. What holds of the ages of a chain: Demand2Ages.antt. Assumes nothing.
use Prim.Native.Nat.{ℕ, ◌%◌, ◌≤◌, ◌<◌, ◌∣◌}
use mathlib.Core.Path.{◌≡◌}
use mathlib.Core.Bool.{true}
use mathlib.Core.List.{List}
use mathlib.Core.Logic.{◌↔◌}
use lib.ListN.{length, get_or}
use Rattle.outcomes.specs.Outcome.{gives}
use Rattle.table.specs.Image.{Whole, read_image}
use Rattle.writing.specs.Written.{ImageOfRight}
use Rattle.writing.proofs.AcceptedExactly.{only_right_accepted, all_right_accepted}
use Rattle.times.specs.Hyperperiod.{lcm_of}
use Rattle.times.specs.Points.{publishing, reading, publishes_at, serves_at}
use Rattle.times.specs.Releases.{Timing, is_release}
use Rattle.times.proofs.Hyperperiod.{Each, period_divides_hyperperiod, hyperperiod_positive, hyperperiod_least}
use Rattle.times.proofs.PointFormulas.{publishing_is_release, reading_is_release, publishing_before_reading}
use Rattle.times.proofs.PointsInRound.{publishes_at_exactly, serves_at_exactly}
use Rattle.copies.specs.Listing.{listing_of, core_listing}
use Rattle.listings.specs.FromBytes.{listing_in}
use Rattle.listings.proofs.NumbersFit.{listing_taken_back}
use Rattle.questions.specs.Questions.{points, listing, bytes_listed, lent_after, ages}
use Rattle.questions.specs.Answers.{said_of_points, said_of_listing, said_of_ages}
use Rattle.std.specs.Prelude.{Result}
use Rattle.aged_chains.specs.declared.Ages.{Ages}
use Rattle.pair_points.specs.declared.Points.{Points}
use Rattle.table.specs.declared.Refused.{Refused}
use Rattle.questions.proofs.listing.Met as asked_listing_met
use Rattle.questions.proofs.listing.Statement as asked_listing
use Rattle.questions.proofs.points.Met as asked_points_met
use Rattle.questions.proofs.points.Statement as asked_points
use Rattle.questions.proofs.Determined.{points_determined, listing_determined, ages_determined}
use Rattle.first_line.proofs.hyperperiod.Met as hyperperiod_met
use Rattle.first_line.proofs.hyperperiod.Statement as asked_hyperperiod
use Rattle.cases.specs.Kinds.{AllHold}
use Rattle.cases.specs.Starred.{starred}
use Rattle.cases.specs.Further.{further}
use Rattle.cases.proofs.Starred.{starred_cases_hold}
use Rattle.cases.proofs.Further.{further_cases_hold}

-- The starred cases of document 01 hold of the definitions, and so do further ones: the cases without a star, one for
-- each number and place of a refusal, whole texts and listings.
pub starred_cases : AllHold starred
starred_cases = starred_cases_hold

pub further_cases : AllHold further
further_cases = further_cases_hold

-- A table is accepted exactly when it meets the rules of document 01 (crates/table/specs/Rules.antt). Bytes that are
-- accepted are, byte for byte, the image of the table that they give (crates/writing/specs/Written.antt), which meets
-- the rules and holds 0 past its counts; and the image of every such table is accepted, and gives that table.
pub only_right_tables_are_accepted : (image : List ℕ) (whole : Whole) → ((k : ℕ) → get_or image k 0 < 256)
    → read_image image ≡ gives whole → ImageOfRight image whole
only_right_tables_are_accepted = only_right_accepted

pub every_right_table_is_accepted : (image : List ℕ) (whole : Whole)
    → ImageOfRight image whole → read_image image ≡ gives whole
every_right_table_is_accepted = all_right_accepted

-- The hyperperiod is the least common multiple: every period divides it, and it is the least number above 0 that all
-- divide. Asked of any bytes it is answered as the definition says (crates/first_line, src/lib.rt):
--     said_of_hyperperiod r ≡ hyperperiod image
pub hyperperiod_is_multiple : (periods : List ℕ) → Each (λ p. p ∣ lcm_of periods) periods
hyperperiod_is_multiple = period_divides_hyperperiod

pub hyperperiod_is_positive : (periods : List ℕ) → Each (λ p. 0 < p) periods → 0 < lcm_of periods
hyperperiod_is_positive = hyperperiod_positive

pub hyperperiod_is_least : (periods : List ℕ) (m : ℕ) → 0 < m → Each (λ p. p ∣ m) periods → lcm_of periods ≤ m
hyperperiod_is_least = hyperperiod_least

pub hyperperiod_answered : {M : Type 1} → asked_hyperperiod.statement M
hyperperiod_answered = hyperperiod_met.met

-- A publishing point is a release of the writer, a reading point one of the reader, and P(n) comes no later than Q(n).
pub publishing_points : (writer reader : Timing) (n : ℕ) → is_release writer (publishing writer reader n) ≡ true
publishing_points = publishing_is_release

pub reading_points : (writer reader : Timing) (n : ℕ) → is_release reader (reading writer reader n) ≡ true
reading_points = reading_is_release

pub published_before_read : (writer reader : Timing) → 0 < writer.period → 0 < reader.period
    → (n : ℕ) → publishing writer reader n ≤ reading writer reader n
published_before_read = publishing_before_reading

-- "t, modulo H, is a point": exactly when some n has a point with the remainder of t. So the search finds every point,
-- and nothing else.
pub published_exactly : (writer reader : Timing) → 0 < writer.period → 0 < reader.period
    → (H : ℕ) → writer.period ∣ H → reader.period ∣ H → (t : ℕ)
    → (publishes_at H writer reader t ≡ true) ↔ ((n : ℕ) × (publishing writer reader n % H ≡ t % H))
published_exactly = publishes_at_exactly

pub served_exactly : (writer reader : Timing) → 0 < writer.period → 0 < reader.period
    → (H : ℕ) → writer.period ∣ H → reader.period ∣ H → (t : ℕ)
    → (serves_at H writer reader t ≡ true) ↔ ((n : ℕ) × (reading writer reader n % H ≡ t % H))
served_exactly = serves_at_exactly

-- The points of a pair, asked of any bytes and any numbers, are answered as document 01's definition `points` says
-- (crates/questions, src/lib.rt):  said_of_points r ≡ points image writer reader n
pub points_answered : {M : Type 1} → asked_points.statement M
points_answered = asked_points_met.met

-- The listing of a core, asked of any bytes, any number and any buffer, is answered as document 01's definition `listing`
-- says, and the buffer holds at exit what `lent_after` says (crates/questions, src/lib.rt):
--     said_of_listing r ≡ bytes_listed (listing image core (length buffer))
--     buffer at exit ≡ lent_after (listing image core (length buffer)) buffer
pub listing_answered : {M : Type 1} → asked_listing.statement M
listing_answered = asked_listing_met.met

-- The bytes of a core's listing are that listing: taken out of the bytes again field by field, with nothing left over
-- but zero bits, it is what was listed. So every number fits its field.
pub listing_is_taken_back : (image : List ℕ) (whole : Whole) → read_image image ≡ gives whole
    → (core : ℕ) → core < whole.table.cores
    → listing_in (listing_of whole.table core) ≡ gives (core_listing whole.table core)
listing_is_taken_back = listing_taken_back

-- Two answers under a definition coincide: number, place, every field, every byte of the lent buffer.
pub points_once : (image : List ℕ) (writer reader n : ℕ) (a b : Result Points Refused)
    → said_of_points a ≡ points image writer reader n → said_of_points b ≡ points image writer reader n → a ≡ b
points_once = points_determined

pub ages_once : (image : List ℕ) (chain : ℕ) (a b : Result Ages Refused)
    → said_of_ages a ≡ ages image chain → said_of_ages b ≡ ages image chain → a ≡ b
ages_once = ages_determined

pub listing_once : (image : List ℕ) (core : ℕ) (buffer : List ℕ) (a b : Result ℕ Refused) (after_a after_b : List ℕ)
    → said_of_listing a ≡ bytes_listed (listing image core (length buffer))
    → after_a ≡ lent_after (listing image core (length buffer)) buffer
    → said_of_listing b ≡ bytes_listed (listing image core (length buffer))
    → after_b ≡ lent_after (listing image core (length buffer)) buffer
    → (a ≡ b) × (after_a ≡ after_b)
listing_once = listing_determined
