-- What outcomes that say the same have in common, and what is asked of a refusal or of an answer. Assumes nothing.
use Prim.Native.Nat.{ℕ}
use mathlib.Core.Path.{◌≡◌, refl, sym}
use native.Mathlib.Omega.{arith}
use Rattle.outcomes.specs.Outcome.{Outcome, gives, refuses, asked_of}

-- what says the same refusal says the same number and place
pub same_number : {A : Type 0} {m n p q : ℕ} → ◌≡◌ {A = Outcome A} (refuses m p) (refuses n q) → (m ≡ n) × (p ≡ q)
same_number e = (cc, cc)

pub same_given : {A : Type 0} {a b : A} → gives a ≡ gives b → a ≡ b
same_given e = cc

-- an answer and a refusal never say the same
pub gives_no_refusal : {A : Type 0} {a : A} {n p : ℕ} → gives a ≡ refuses n p → ⊥
gives_no_refusal e = let z : ◌≡◌ {A = ℕ} 0 1 = cc in omega arith

-- a refused image hands its refusal on to whatever is asked of it
pub refusal_handed_on : {A B : Type 0} (outcome : Outcome A) (question : A → Outcome B) {n p : ℕ}
    → asked_of {B = Unit {0}} outcome (λ a. gives tt) ≡ refuses n p → asked_of outcome question ≡ refuses n p
refusal_handed_on (gives a) question e = absurd (gives_no_refusal e)
refusal_handed_on (refuses m q) question e = cc

-- what was accepted has something to give
pub something_given : {A : Type 0} (outcome : Outcome A) → asked_of {B = Unit {0}} outcome (λ a. gives tt) ≡ gives tt
    → (a : A) × (outcome ≡ gives a)
something_given (gives a) e = (a, refl)
something_given (refuses n p) e = absurd (gives_no_refusal (sym e))
