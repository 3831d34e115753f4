-- Two answers that say the same of what was taken are the same. Assumes nothing.
use Prim.Native.Nat.{ℕ}
use mathlib.Core.Path.{◌≡◌, refl, sym, ap, ◌∙◌}
use Rattle.std.specs.Prelude.{Result, Ok, Err}
use Rattle.outcomes.specs.Outcome.{gives, asked_of}
use Rattle.table.specs.Refusals.{said_of}
use Rattle.table.specs.declared.Refused.{Refused}
use Rattle.table.proofs.Refusals.{same_answer}
use Rattle.fields.specs.TakenTo.{taken_to}

-- the answer without the bit after it
said_alone : {A : Type 0} (next : ℕ) (r : Result A Refused)
    → said_of r ≡ asked_of (taken_to next r) (λ taken. gives taken.value)
said_alone next (Ok a) = refl
said_alone next (Err refused) = refl

pub taken_determined : {A : Type 0} (next : ℕ) (a b : Result A Refused) → taken_to next a ≡ taken_to next b → a ≡ b
taken_determined next a b same =
    same_answer a b
    (said_alone next a ∙ ap (λ o. asked_of o (λ taken. gives taken.value)) same ∙ sym (said_alone next b))
