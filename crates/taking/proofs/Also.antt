-- One check more of what was taken: what is known where it passed, and how it goes where the first taker gave a value
-- or refused. Assumes nothing.
use Prim.Native.Nat.{ℕ, ◌≤◌}
use mathlib.Core.Bool.{Bool, true, false, cond}
use mathlib.Core.Path.{◌≡◌, refl, sym, ap, subst}
use mathlib.Core.List.{List}
use Rattle.bits.specs.Bits.{bit_count}
use Rattle.bits.specs.Packing.{Field}
use Rattle.outcomes.specs.Outcome.{Outcome, gives, refuses, asked_of}
use Rattle.outcomes.proofs.Outcomes.{same_given, gives_no_refusal}
use Rattle.taking.specs.Reading.{Taker, Taken, also_by}
use Rattle.taking.proofs.Alike.{Agree, Alike}
use Rattle.taking.proofs.Checks.{Checks}
use Rattle.taking.proofs.HeldRead.{Reads}
use Rattle.taking.proofs.Stays.{Within, Stays, checked_stays}
use Rattle.taking.proofs.TakenHeld.{Holds}

module _ {A : Type 0} (number : ℕ) (right : A → Bool) (first : Taker A) where
  -- what came out, checked once more
  abbrev once_more : ℕ → Outcome (Taken A) → Outcome (Taken A)
  once_more at outcome = asked_of outcome (λ taken. cond (right taken.value) (gives taken) (refuses number at))

  module _ (image : List ℕ) (at : ℕ) where
    -- the first taker refuses
    pub also_refused : {n p : ℕ} → first image at ≡ refuses n p → also_by number right first image at ≡ refuses n p
    unfolding also_by
    also_refused refused = rw refused

    module _ (taken : Taken A) (one : first image at ≡ gives taken) where
      -- what it gives is right
      pub also_right : right taken.value ≡ true → also_by number right first image at ≡ gives taken
      unfolding also_by
      also_right passes = rw (one, passes)

      -- what it gives is not right
      pub also_wrong : right taken.value ≡ false → also_by number right first image at ≡ refuses number at
      unfolding also_by
      also_wrong fails = rw (one, fails)

    -- what was taken was given by the first taker, and passed
    pub also_taken : (given : Taken A) → also_by number right first image at ≡ gives given
        → (first image at ≡ gives given) × (right given.value ≡ true)
    unfolding also_by
    also_taken given e = go (first image at) e
      where
        checked : (taken : Taken A) (b : Bool) → right taken.value ≡ b
            → cond b (gives taken) (refuses number at) ≡ gives given
            → (gives taken ≡ gives given) × (right given.value ≡ true)
        checked taken true is e = (e, subst (λ t. right t.value ≡ true) (same_given e) is)
        checked taken false is e = absurd (gives_no_refusal (sym e))

        go : (outcome : Outcome (Taken A)) → once_more at outcome ≡ gives given
            → (outcome ≡ gives given) × (right given.value ≡ true)
        go (gives taken) e = checked taken (right taken.value) refl e
        go (refuses n p) e = absurd (gives_no_refusal (sym e))

  pub also_checks : (P : A → Type 0) → Checks P first → Checks (λ a. P a × (right a ≡ true)) (also_by number right first)
  also_checks P of_first image at given e =
      let (one, passed) = also_taken image at given e in
      (of_first image at given one, passed)

  pub also_holds : (As : A → List Field → Type 0) → Holds As first → Holds As (also_by number right first)
  also_holds As of_first image at given inside e = of_first image at given inside (also_taken image at given e).0

  pub also_reads : {fields : List Field} {value : A} → Reads first fields value → right value ≡ true
      → Reads (also_by number right first) fields value
  also_reads of_first passes = record {
    taken = λ image at held. also_right image at _ (of_first.taken image at held) passes;
  }

  pub also_stays : (Allowed : ℕ → Type 0) → Allowed number → Stays Allowed first
      → Stays Allowed (also_by number right first)
  unfolding also_by
  also_stays Allowed allowed of_first = record {
    from = λ image at inside. go image at inside (first image at) (of_first.from image at inside);
  }
    where
      go : (image : List ℕ) (at : ℕ) → at ≤ bit_count image → (outcome : Outcome (Taken A))
          → Within Allowed image outcome → Within Allowed image (once_more at outcome)
      go image at inside (gives taken) within =
          checked_stays Allowed image taken number at within allowed inside (right taken.value)
      go image at inside (refuses n p) refused = refused

  pub also_alike : {a b : List ℕ} {most : ℕ} (agree : Agree a b most) {size : ℕ} → Alike agree size first
      → Alike agree size (also_by number right first)
  unfolding also_by
  also_alike {a} {b} agree of_first = record {
    says = λ at inside.
        let (equal, near) = of_first.says at inside in
        (ap (once_more at) equal, λ given e. near given (also_taken a at given e).0);
  }
