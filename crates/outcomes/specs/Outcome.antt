-- What is said to a question: an answer, or a refusal. Document 01, Numbers that say no: "A refusal carries its number
-- together with the bit at which it arose. It carries no other value." Assumes nothing.
use Rattle.std.specs.Prelude.{ℕ, Bool, cond}

pub data Outcome (A : Type 0) : Type 0 where
  gives : A → Outcome A
  refuses : (number place : ℕ) → Outcome A

-- a question that is asked of what came out: a refusal is handed on as it is
abbrev pub asked_of : {A B : Type 0} → Outcome A → (A → Outcome B) → Outcome B
asked_of (gives a) question = question a
asked_of (refuses number place) question = refuses number place

-- a row of the numbers that say no: refused by its number, at place 0, unless this holds; then what follows
abbrev pub refused_unless : {A : Type 0} → (number : ℕ) → (right : Bool) → Outcome A → Outcome A
refused_unless number right rest = cond right rest (refuses number 0)
