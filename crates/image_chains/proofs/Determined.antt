-- What reading one chain of an image shows is determined. Assumes nothing.
use Prim.Native.Nat.{ℕ}
use mathlib.Core.Path.{◌≡◌, sym, ◌∙◌}
use mathlib.Core.List.{List}
use Rattle.std.specs.Prelude.{Result}
use Rattle.table.specs.declared.Refused.{Refused}
use Rattle.table.proofs.Refusals.{same_answer}
use Rattle.image_chains.specs.PeriodsShown.{PeriodsShown}

-- of one chain: the answer, with how many tasks it has, and each entry that was lent
pub periods_determined : (image : List ℕ) (k : ℕ) (a b : Result ℕ Refused) (held left_a left_b : List ℕ)
    → PeriodsShown image k a held left_a → PeriodsShown image k b held left_b → (a ≡ b) × (left_a ≡ left_b)
periods_determined image k a b held left_a left_b of_a of_b =
    (same_answer a b (of_a.answer ∙ sym of_b.answer), of_a.periods ∙ sym of_b.periods)
