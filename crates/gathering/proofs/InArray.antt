-- Counters stored in an array, one after the other. Assumes nothing.
use Prim.Native.Nat.{ℕ, ◌+◌}
use mathlib.Core.Path.{refl, sym, ap, ◌∙◌}
use mathlib.Core.List.{List, [], ◌∷◌, ◌++◌, append-nil, append_assoc}
use native.Mathlib.Omega.{arith}
use lib.ListN.{set, length-append}
use Rattle.lists.proofs.Over.{over_none, held_more}
use Rattle.gathering.specs.Stored.{Stored, Adds}

module _ (counter : ℕ → ℕ) where
  -- nothing was stored yet
  pub stored_none : (array : List ℕ) → Stored counter [] array 0 array
  stored_none array = record { many = refl; holds = sym (over_none array) }

  -- nothing more
  pub adds_none : (count : ℕ) (array : List ℕ) → Adds counter [] count array count array
  adds_none count array before held stored = rw append-nil stored

  -- one counter
  pub adds_one : (code count : ℕ) (array : List ℕ)
      → Adds counter (code ∷ []) count array (count + 1) (set array count (counter code))
  adds_one code count array before held stored = record {
    many = simp length-append (omega (arith, stored.many));
    holds =
        ap (λ l. set l count (counter code)) stored.holds
        ∙ held_more counter before held count code (sym stored.many);
  }

  -- some, and then more
  pub adds_then : {p q : List ℕ} {count more most : ℕ} {array then last : List ℕ}
      → Adds counter p count array more then → Adds counter q more then most last
      → Adds counter (p ++ q) count array most last
  adds_then {p} {q} {count} {more} {most} {array} {then} {last} one other before held stored =
      rw (← append_assoc before p q) (other (before ++ p) held (one before held stored))
