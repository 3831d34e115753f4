-- One step of a reader, by what a part of the code answered: the step was taken, or its refusal is handed on; and the
-- tests of the code against the tests of the definitions. No contract cites this file. Assumes nothing.
use Prim.Native.Nat.{ℕ, zero, suc, ◌+◌}
use mathlib.Core.Path.{◌≡◌, refl, sym, ap, ◌∙◌, fun_ext}
use mathlib.Core.Bool.{Bool, ◌&&◌}
use mathlib.Core.List.{List}
use native.Mathlib.Omega.{arith}
use borrow.Author.Tests.{le-leb, lt-leb, lt-ltb, le-ltb, eq-eqb, ne_eqb}
use mathlib.Core.Logic.{by_cases}
use native.Mathlib.Decide.{dec_le}
use Rattle.std.specs.Ordering.{is_le, is_lt, nat_cmp}
use lib.Dec.{leb, ltb, eqb, leb-zero, leb-suc-suc}
use Rattle.std.specs.Prelude.{Result, Ok, Err}
use Rattle.outcomes.specs.Outcome.{Outcome, gives, refuses, asked_of}
use Rattle.taking.specs.Reading.{Taken, field}
use Rattle.table.specs.Refusals.{number_of}
use Rattle.table.specs.Image.{between}
use Rattle.table.specs.declared.Refused.{Refused}
use Rattle.fields.specs.TakenTo.{in_range, taken_as}

module _ {A B : Type 0} (shape : A → B) (next : ℕ) {r : Result A Refused} {outcome : Outcome (Taken B)} where
  -- what is given was taken
  pub taken : (a : A) → r ≡ Ok a → taken_as shape next r ≡ outcome → outcome ≡ gives (record { value = shape a; next = next })
  taken a told said = sym said ∙ ap (taken_as shape next) told

  -- what was refused was refused by that number, at that place
  pub not_taken : (refused : Refused) → r ≡ Err refused → taken_as shape next r ≡ outcome
      → outcome ≡ refuses (number_of refused.refusal) refused.place
  not_taken refused told said = sym said ∙ ap (taken_as shape next) told

-- the library's test of a range is the code's
le_test : (a b : ℕ) → is_le (nat_cmp a b) ≡ leb a b
le_test a b =
    by_cases (dec_le b a)
    (λ after. by_cases (dec_le a b)
    (λ before. rw (le-ltb a b after, eq-eqb a b (omega arith), le-leb a b before))
    (λ past. rw (le-ltb a b after, ne_eqb a b (omega arith), lt-leb a b (omega arith))))
    (λ before. rw (lt-ltb a b (omega arith), le-leb a b (omega arith)))

lt_test : (a b : ℕ) → is_lt (nat_cmp a b) ≡ ltb a b
lt_test a b =
    by_cases (dec_le b a)
    (λ after. by_cases (dec_le a b)
    (λ before. rw (le-ltb a b after, eq-eqb a b (omega arith)))
    (λ past. rw (le-ltb a b after, ne_eqb a b (omega arith))))
    (λ before. rw (lt-ltb a b (omega arith)))

pub range_test : (least v bound : ℕ) → (is_le (nat_cmp least v) && is_lt (nat_cmp v bound)) ≡ in_range least bound v
range_test least v bound = rw (le_test least v, lt_test v bound)

-- the code's test of a range is the test of the definition
pub range_is_between : (least most : ℕ) → in_range least (suc most) ≡ between least most
unfolding between
range_is_between least most = fun_ext (λ v. ap (λ b. leb least v && b) (leb-suc-suc v most))

pub range_is_below : (bound : ℕ) → in_range 0 bound ≡ λ v. ltb v bound
range_is_below bound = fun_ext (λ v. ap (λ b. b && ltb v bound) (leb-zero v))

range_one : (v : ℕ) → in_range 1 2 v ≡ eqb v 1
range_one zero = refl
range_one (suc zero) = refl
range_one (suc (suc v)) =
    rw (
      le-leb 1 (suc (suc v)) (omega arith),
      le-ltb (suc (suc v)) 2 (omega arith),
      ne_eqb (suc (suc v)) 1
          (omega arith),
    )

pub range_is_one : in_range 1 2 ≡ λ v. eqb v 1
range_is_one = fun_ext (λ v. range_one v)

-- a field where a reader stands, whose test is written otherwise in the definitions; what follows it is handed its value, or
-- its refusal is handed on
module _ {B : Type 0} (w number : ℕ) {test test' : ℕ → Bool} (same : test ≡ test') {image image' : List ℕ} {at at' : ℕ}
    (of_image : image' ≡ image) (of_place : at' ≡ at) (rest : Taken ℕ → Outcome B) where
  pub step_on : {v : ℕ} → gives (record { value = v; next = at' + w }) ≡ field w number test image' at'
      → asked_of (field w number test' image at) rest ≡ rest (record { value = v; next = at + w })
  step_on said = rw (← same, ← of_image, ← of_place, ← said)

  pub step_off : {n p : ℕ} → refuses n p ≡ field w number test image' at'
      → asked_of (field w number test' image at) rest ≡ refuses n p
  step_off said = rw (← same, ← of_image, ← of_place, ← said)

-- what was said of a field under one test is said of it under the same test, written otherwise
pub by_test : (w number : ℕ) (image : List ℕ) (at : ℕ) {test test' : ℕ → Bool} {outcome : Outcome (Taken ℕ)}
    → test ≡ test' → outcome ≡ field w number test image at → outcome ≡ field w number test' image at
by_test w number image at same said = said ∙ ap (λ test. field w number test image at) same

-- what was taken, with its next bit written otherwise
pub gives_to : {A : Type 0} (a : A) {n m : ℕ} → n ≡ m
    → ◌≡◌ {A = Outcome (Taken A)} (gives (record { value = a; next = n })) (gives (record { value = a; next = m }))
gives_to a same = ap (λ k. gives (record { value = a; next = k })) same

range_zero : (v : ℕ) → in_range 0 1 v ≡ eqb v 0
range_zero zero = refl
range_zero (suc v) =
    rw (le-leb 0 (suc v) (omega arith), le-ltb (suc v) 1 (omega arith), ne_eqb (suc v) 0 (omega arith))

pub range_is_zero : in_range 0 1 ≡ λ v. eqb v 0
range_is_zero = fun_ext (λ v. range_zero v)
