-- Two answers that say the same of a field are the same. Assumes nothing.
use Prim.Native.Nat.{ℕ}
use mathlib.Core.Path.{◌≡◌, refl, sym, ap}
use Rattle.std.specs.Prelude.{Option, Some, None}
use Rattle.outcomes.proofs.Outcomes.{same_given, gives_no_refusal}
use Rattle.bits.specs.Found.{said_of_found}

pub found_determined : (at : ℕ) (a b : Option ℕ) → said_of_found at a ≡ said_of_found at b → a ≡ b
found_determined at (Some u) (Some v) e = ap Some (same_given e)
found_determined at (Some u) None e = absurd (gives_no_refusal e)
found_determined at None (Some v) e = absurd (gives_no_refusal (sym e))
found_determined at None None e = refl
