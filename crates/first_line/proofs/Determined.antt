-- The hyperperiod that is told of an image is one. Document 01, How much a contract has to say: "that two answers
-- under it coincide is proved". Assumes nothing.
use Prim.Native.Nat.{ℕ}
use mathlib.Core.Path.{◌≡◌, sym, ◌∙◌}
use mathlib.Core.List.{List}
use Rattle.std.specs.Prelude.{Result}
use Rattle.table.specs.declared.Refused.{Refused}
use Rattle.table.proofs.Refusals.{same_answer}
use Rattle.first_line.specs.FirstLine.{said_of_hyperperiod, hyperperiod}

pub same_hyperperiod : (a b : Result ℕ Refused) → said_of_hyperperiod a ≡ said_of_hyperperiod b → a ≡ b
same_hyperperiod a b same = same_answer a b same

pub hyperperiod_determined : (image : List ℕ) (a b : Result ℕ Refused)
    → said_of_hyperperiod a ≡ hyperperiod image → said_of_hyperperiod b ≡ hyperperiod image → a ≡ b
hyperperiod_determined image a b of_a of_b = same_hyperperiod a b (of_a ∙ sym of_b)
