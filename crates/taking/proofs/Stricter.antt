-- A field that is checked twice: first one test, then one more. No contract cites this file. Assumes nothing.
use Prim.Native.Nat.{ℕ, ◌+◌}
use mathlib.Core.Path.{◌≡◌, sym, ap, ◌∙◌}
use mathlib.Core.Bool.{Bool, true, false, cond, ◌&&◌}
use mathlib.Core.List.{List}
use Rattle.bits.specs.Found.{found_at}
use Rattle.outcomes.specs.Outcome.{Outcome, gives, refuses, asked_of}
use Rattle.taking.specs.Reading.{Taken, field}
use Rattle.outcomes.proofs.Outcomes.{same_given, gives_no_refusal}

module _ (w number : ℕ) (right more : ℕ → Bool) (image : List ℕ) (at : ℕ) where
  abbrev both : ℕ → Bool
  both v = right v && more v

  -- a value that was found, by whether it passes
  abbrev passed : ℕ → Bool → Outcome (Taken ℕ)
  passed v good = cond good (gives (record { value = v; next = at + w })) (refuses number at)

  -- refused by the first test
  pub stricter_refused : {n p : ℕ} → field w number right image at ≡ refuses n p
      → field w number both image at ≡ refuses n p
  unfolding field
  stricter_refused {n} {p} e = found (found_at image at w) e
    where
      checked : (v : ℕ) (good : Bool) → passed v good ≡ refuses n p → passed v (good && more v) ≡ refuses n p
      checked v true e = absurd (gives_no_refusal e)
      checked v false e = e

      found : (outcome : Outcome ℕ) → asked_of outcome (λ v. passed v (right v)) ≡ refuses n p
          → asked_of outcome (λ v. passed v (both v)) ≡ refuses n p
      found (gives v) e = checked v (right v) e
      found (refuses m q) e = e

  module _ {taken : Taken ℕ} (first : field w number right image at ≡ gives taken) where
    -- passed by both
    pub stricter_taken : more taken.value ≡ true → field w number both image at ≡ gives taken
    unfolding field
    stricter_taken passes = found (found_at image at w) first
      where
        checked : (v : ℕ) (good : Bool) → passed v good ≡ gives taken → passed v (good && more v) ≡ gives taken
        checked v true e = rw (ap (λ t. more t.value) (same_given e) ∙ passes) e
        checked v false e = absurd (gives_no_refusal (sym e))

        found : (outcome : Outcome ℕ) → asked_of outcome (λ v. passed v (right v)) ≡ gives taken
            → asked_of outcome (λ v. passed v (both v)) ≡ gives taken
        found (gives v) e = checked v (right v) e
        found (refuses m q) e = absurd (gives_no_refusal (sym e))

    -- passed by the first, refused by the second
    pub stricter_wrong : more taken.value ≡ false → field w number both image at ≡ refuses number at
    unfolding field
    stricter_wrong fails = found (found_at image at w) first
      where
        checked : (v : ℕ) (good : Bool) → passed v good ≡ gives taken → passed v (good && more v) ≡ refuses number at
        checked v true e = rw (ap (λ t. more t.value) (same_given e) ∙ fails)
        checked v false e = absurd (gives_no_refusal (sym e))

        found : (outcome : Outcome ℕ) → asked_of outcome (λ v. passed v (right v)) ≡ gives taken
            → asked_of outcome (λ v. passed v (both v)) ≡ refuses number at
        found (gives v) e = checked v (right v) e
        found (refuses m q) e = absurd (gives_no_refusal (sym e))
