-- A refusal is fixed by its number, and an answer by what it says. Assumes nothing.
use Prim.Native.Nat.{ℕ}
use mathlib.Core.Path.{◌≡◌, refl, sym, ap, ◌∙◌}
use mathlib.Core.List.{[], ◌∷◌}
use lib.ListN.{get_or}
use Rattle.std.specs.Prelude.{Result, Ok, Err}
use Rattle.outcomes.specs.Outcome.{Outcome, refuses}
use Rattle.outcomes.proofs.Outcomes.{same_given, gives_no_refusal}
use Rattle.table.specs.Refusals.{number_of, said_of}
use Rattle.table.specs.declared.Refusal.{Refusal}
use Rattle.table.specs.declared.Refusal.TheVariants.{Ends, Version, Count, Core, Period, Writer, Reader, Chain}
use Rattle.table.specs.declared.Refusal.TheVariants.{Fill, Hyperperiod, Room, Asked, Unjoined}
use Rattle.table.specs.declared.Refused.{Refused}

-- the refusal of a number
abbrev refusal_of : ℕ → Refusal
refusal_of number =
    get_or
    (Ends ∷ Ends ∷ Version ∷ Count ∷ Core ∷ Period ∷ Writer ∷ Reader
    ∷ Chain ∷ Fill ∷ Hyperperiod ∷ Room ∷ Asked ∷ Unjoined ∷ [])
    number
    Unjoined

refusal_of_number : (a : Refusal) → refusal_of (number_of a) ≡ a
refusal_of_number Ends = refl
refusal_of_number Version = refl
refusal_of_number Count = refl
refusal_of_number Core = refl
refusal_of_number Period = refl
refusal_of_number Writer = refl
refusal_of_number Reader = refl
refusal_of_number Chain = refl
refusal_of_number Fill = refl
refusal_of_number Hyperperiod = refl
refusal_of_number Room = refl
refusal_of_number Asked = refl
refusal_of_number Unjoined = refl

pub same_refusal : (a b : Refusal) → number_of a ≡ number_of b → a ≡ b
same_refusal a b same = sym (refusal_of_number a) ∙ ap refusal_of same ∙ refusal_of_number b

-- what is refused by one number at one place was refused by one refusal there
pub same_refused : {A : Type 0} (a b : Refusal) {p q : ℕ}
    → ◌≡◌ {A = Outcome A} (refuses (number_of a) p) (refuses (number_of b) q) → (a ≡ b) × (p ≡ q)
same_refused a b e = (same_refusal a b cc, cc)

alike : (r s : Refused) → (r.refusal ≡ s.refusal) × (r.place ≡ s.place) → r ≡ s
alike r s same = ap (λ k. record { refusal = k; place = r.place }) same.0 ∙ ap (λ p. record { refusal = s.refusal; place = p }) same.1

-- two answers that say the same are the same
pub same_answer : {A : Type 0} (a b : Result A Refused) → said_of a ≡ said_of b → a ≡ b
same_answer (Ok a) (Ok b) e = ap Ok (same_given e)
same_answer (Ok a) (Err r) e = absurd (gives_no_refusal e)
same_answer (Err r) (Ok b) e = absurd (gives_no_refusal (sym e))
same_answer (Err r) (Err s) e = ap Err (alike r s (same_refused r.refusal s.refusal e))
