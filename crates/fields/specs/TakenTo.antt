-- What taking some fields gives, in document 01's numbers. Assumes nothing.
use Rattle.std.specs.Prelude.{ℕ, Bool, ◌&&◌, leb, ltb, Result, Ok, Err}
use Rattle.outcomes.specs.Outcome.{Outcome, gives, refuses}
use Rattle.taking.specs.Reading.{Taken}
use Rattle.table.specs.Refusals.{number_of}
use Rattle.table.specs.declared.Refused.{Refused}

-- a value that is at least `least` and below `bound`
abbrev pub in_range : ℕ → ℕ → ℕ → Bool
in_range least bound value = leb least value && ltb value bound

-- what was taken, with the bit after it, or the refusal's number and place; as the definitions have it
abbrev pub taken_as : {A B : Type 0} → (A → B) → ℕ → Result A Refused → Outcome (Taken B)
taken_as shape next (Ok value) = gives (record { value = shape value; next = next })
taken_as shape next (Err refused) = refuses (number_of refused.refusal) refused.place

-- the same where the definitions have it as the program has
abbrev pub taken_to : {A : Type 0} → ℕ → Result A Refused → Outcome (Taken A)
taken_to next r = taken_as (λ value. value) next r
