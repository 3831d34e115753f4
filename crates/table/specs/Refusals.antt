-- The numbers that say no: of each refusal its number in document 01, and what an answer says by them.
-- Assumes nothing.
use Rattle.std.specs.Prelude.{ℕ, Result, Ok, Err}
use Rattle.outcomes.specs.Outcome.{Outcome, gives, refuses}
use Rattle.table.specs.declared.Refusal.{Refusal}
use Rattle.table.specs.declared.Refusal.TheVariants.{Ends, Version, Count, Core, Period, Writer, Reader, Chain}
use Rattle.table.specs.declared.Refusal.TheVariants.{Fill, Hyperperiod, Room, Asked, Unjoined}
use Rattle.table.specs.declared.Refused.{Refused}

-- "No." and "When" of document 01's table
abbrev pub number_of : Refusal → ℕ
number_of Ends = 1  -- the image ends inside or before the next field
number_of Version = 2  -- version is not 1
number_of Count = 3  -- a count in the head outside its range
number_of Core = 4  -- a task's core is not below the core count
number_of Period = 5  -- period 0 or above 1,000,000
number_of Writer = 6  -- writer is no task of the table
number_of Reader = 7  -- a reader is no task of the table, or is the writer
number_of Chain = 8  -- chain length outside 2 to 8; chain task not in the table; no label for the step
number_of Fill = 9  -- a fill bit is 1, or bytes follow
number_of Hyperperiod = 10  -- H above 1,000,000
number_of Room = 11  -- lent buffer shorter than the listing
number_of Asked = 12  -- asked core, chain or task not in the table, or n above 1,000,000
number_of Unjoined = 13  -- no label goes from the asked writer to the asked reader

-- what an answer says: what it has to say, or the refusal's number and place
abbrev pub said_of : {A : Type 0} → Result A Refused → Outcome A
said_of (Ok a) = gives a
said_of (Err refused) = refuses (number_of refused.refusal) refused.place

-- the image's answer: accepted, with nothing more to say, or the refusal's number and place
abbrev pub said_of_image : Result (Unit {0}) Refused → Outcome (Unit {0})
said_of_image answer = said_of answer
