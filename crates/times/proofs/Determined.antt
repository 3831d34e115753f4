-- Two answers that say the same of the hyperperiod are the same. Assumes nothing.
use Prim.Native.Nat.{ℕ}
use mathlib.Core.Path.{◌≡◌, refl, sym, ap}
use Rattle.std.specs.Prelude.{Option, Some, None}
use Rattle.outcomes.proofs.Outcomes.{same_given, gives_no_refusal}
use Rattle.times.specs.Rounds.{said_of_round}

pub round_determined : (a b : Option ℕ) → said_of_round a ≡ said_of_round b → a ≡ b
round_determined (Some g) (Some h) e = ap Some (same_given e)
round_determined (Some h) None e = absurd (gives_no_refusal e)
round_determined None (Some h) e = absurd (gives_no_refusal (sym e))
round_determined None None e = refl
