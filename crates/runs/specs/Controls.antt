-- Small tables and jobs to run by computation. Assumes nothing.
use Rattle.std.specs.Prelude.{ℕ, suc, ◌+◌, ◌*◌, ◌^◌, List, [], ◌∷◌, map, get_or}
use Rattle.table.specs.Image.{Task, Label, table_of}
use Rattle.table.specs.declared.Table.{Table}
use Rattle.runs.specs.Runs.{ValueRead, reads_incoming, writes_outgoing, Turns}

abbrev task : (core T : ℕ) → Task
task core T = record { core = core; period = T }

abbrev label : ℕ → ℕ → Label
label writer readers = record { writer = writer; readers = readers }

-- task 0 of period Tw on core 0, task 1 of period Tr on the last of so many cores; label 0 from 0 to 1, label 1 back
unfoldable pub pair_on : (last Tw Tr : ℕ) → Table
pair_on last Tw Tr =
    table_of (record { cores = suc last; tasks = 2; labels = 2; chains = 0 }) (task 0 Tw ∷ task last Tr ∷ [])
    (label 0 (2 ^ 30) ∷ label 1 (2 ^ 31) ∷ []) []

-- both on one core
abbrev pub pair : (Tw Tr : ℕ) → Table
pair Tw Tr = pair_on 0 Tw Tr

-- each on a core of its own
abbrev pub apart : (Tw Tr : ℕ) → Table
apart Tw Tr = pair_on 1 Tw Tr

-- the image of this table for the periods 2 and 5
abbrev pub pair_image : List ℕ
pair_image =
    0x11 ∷ 0x08 ∷ 0x10 ∷ 0x00 ∷ 0x00 ∷ 0x01 ∷ 0x00 ∷ 0x00 ∷ 0x05 ∷ 0x02
    ∷ 0x00 ∷ 0x00 ∷ 0x00 ∷ 0x00 ∷ 0x60 ∷ 0x00 ∷ 0x00 ∷ 0x00 ∷ 0x00 ∷ []

-- the same on two cores
abbrev pub apart_image : List ℕ
apart_image =
    0x12 ∷ 0x08 ∷ 0x10 ∷ 0x00 ∷ 0x00 ∷ 0x01 ∷ 0x10 ∷ 0x00 ∷ 0x05 ∷ 0x02
    ∷ 0x00 ∷ 0x00 ∷ 0x00 ∷ 0x00 ∷ 0x60 ∷ 0x00 ∷ 0x00 ∷ 0x00 ∷ 0x00 ∷ []

-- and on one core for the periods 5 and 2, and 3 and 3
abbrev pub slow_writer_image : List ℕ
slow_writer_image =
    0x11 ∷ 0x08 ∷ 0x10 ∷ 0x00 ∷ 0x00 ∷ 0x02 ∷ 0x80 ∷ 0x00 ∷ 0x02 ∷ 0x02
    ∷ 0x00 ∷ 0x00 ∷ 0x00 ∷ 0x00 ∷ 0x60 ∷ 0x00 ∷ 0x00 ∷ 0x00 ∷ 0x00 ∷ []

abbrev pub equal_image : List ℕ
equal_image =
    0x11 ∷ 0x08 ∷ 0x10 ∷ 0x00 ∷ 0x00 ∷ 0x01 ∷ 0x80 ∷ 0x00 ∷ 0x03 ∷ 0x02
    ∷ 0x00 ∷ 0x00 ∷ 0x00 ∷ 0x00 ∷ 0x60 ∷ 0x00 ∷ 0x00 ∷ 0x00 ∷ 0x00 ∷ []

-- task 0 of period 2, the tasks 1 and 2 of the periods 4 and 6; label 0 from 0 to both
unfoldable pub two_readers : Table
two_readers =
    table_of (record { cores = 1; tasks = 3; labels = 1; chains = 0 }) (task 0 2 ∷ task 0 4 ∷ task 0 6 ∷ [])
    (label 0 (2 ^ 30 + 2 ^ 29) ∷ []) []

-- its image
abbrev pub two_readers_image : List ℕ
two_readers_image =
    0x11 ∷ 0x0c ∷ 0x08 ∷ 0x00 ∷ 0x00 ∷ 0x01 ∷ 0x00 ∷ 0x00 ∷ 0x04 ∷ 0x00
    ∷ 0x00 ∷ 0x0c ∷ 0x06 ∷ 0x00 ∷ 0x00 ∷ 0x00 ∷ 0x00 ∷ []

-- the sum of all values read
unfoldable pub total : List (ValueRead ℕ) → ℕ
total [] = 0
total (first ∷ more) = first.value + total more

-- at every tick task 0 reads label 1 and then writes label 0, and task 1 reads label 0 and then writes label 1: each
-- writes a number made of the tick and of all that it has read
unfoldable pub talk : Turns ℕ
talk t =
    record { task = 0; act = λ t read. reads_incoming 1 }
    ∷ record { task = 0; act = λ t read. writes_outgoing 0 (t + 2 * total read) }
    ∷ record { task = 1; act = λ t read. reads_incoming 0 }
    ∷ record { task = 1; act = λ t read. writes_outgoing 1 (3 * t + total read) }
    ∷ []

-- at every tick each of some tasks reads label 0, and then task 0 writes the tick's number, counted from 1, into it
unfoldable pub tell : (readers : List ℕ) → Turns ℕ
tell [] t = record { task = 0; act = λ t read. writes_outgoing 0 (suc t) } ∷ []
tell (r ∷ more) t = record { task = r; act = λ t read. reads_incoming 0 } ∷ tell more t

-- of all that was read, the value of number k, counted from 0
abbrev pub value_of : ℕ → List (ValueRead ℕ) → ℕ
value_of k read = get_or (map (λ one. one.value) read) k 0
