-- What the parts of the questions answer. The questions' own contracts do not cite this file. Assumes nothing.
use Rattle.std.specs.Prelude.{ℕ, ◌≡◌, List, Result, length}
use Rattle.table.specs.declared.Table.{Table}
use Rattle.questions.specs.Answers.{said_of_listing}
use Rattle.questions.specs.Questions.{core_listed, bytes_listed, lent_after}
use Rattle.table.specs.declared.Refused.{Refused}

-- what is said of a core, and what the lent buffer then holds
abbrev pub Answered : (table : Table) (core : ℕ) (held : List ℕ) (r : Result ℕ Refused) (left : List ℕ) → Type 0
Answered table core held r left =
    (said_of_listing r ≡ bytes_listed (core_listed table core (length held)))
    × (left ≡ lent_after (core_listed table core (length held)) held)
