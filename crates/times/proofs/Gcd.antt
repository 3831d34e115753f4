-- The greatest common divisor: it divides both numbers, and every common divisor divides it. Document 01, Language
-- form: "greatest common divisor by recursion on the falling remainder". Assumes nothing.
use Prim.Native.Nat.{ℕ, zero, suc, ◌*◌, ◌/◌, ◌%◌, ◌<◌, ◌≤◌, ◌∣◌}
use mathlib.Core.Path.{◌≡◌, refl, sym, ap, ◌∙◌}
use native.Mathlib.Nat.{dvd_refl, dvd-zero, dvd-mod_iff, dvd-sub, dvd-mul_right_of_dvd, mod-lt}
use native.Mathlib.Nat.{mod-eq_of_lt, mod-eq-sub-mul-div, mul-sub, mul_assoc, one-mul, pos_of_dvd_of_pos, zero-lt-suc}
use native.Mathlib.Omega.{arith}
use Rattle.times.specs.Hyperperiod.{gcd, gcd_in}

-- turns to spare change nothing
turns_enough : (m n a b : ℕ) → b ≤ m → b ≤ n → gcd_in m a b ≡ gcd_in n a b
unfolding gcd_in
turns_enough zero zero a b hm hn = refl
turns_enough zero (suc n) a zero hm hn = refl
turns_enough zero (suc n) a (suc b) hm hn = absurd (omega arith)
turns_enough (suc m) zero a zero hm hn = refl
turns_enough (suc m) zero a (suc b) hm hn = absurd (omega arith)
turns_enough (suc m) (suc n) a zero hm hn = refl
turns_enough (suc m) (suc n) a (suc b) hm hn =
    let falls : a % suc b < suc b = mod-lt a (zero-lt-suc b) in
    turns_enough m n (suc b) (a % suc b) (omega arith) (omega arith)

-- of a and 0 it is a
pub gcd_zero : (a : ℕ) → gcd a 0 ≡ a
unfolding gcd gcd_in
gcd_zero a = refl

-- of a and b above 0 it is that of b and the remainder
pub gcd_step : (a b : ℕ) → 0 < b → gcd a b ≡ gcd b (a % b)
unfolding gcd gcd_in
gcd_step a zero h = absurd (omega arith)
gcd_step a (suc b) h =
    let falls : a % suc b < suc b = mod-lt a (zero-lt-suc b) in
    turns_enough b (a % suc b) (suc b) (a % suc b) (omega arith) (omega arith)

-- the smaller number first: one turn more
pub gcd_turned : (a b : ℕ) → a < b → gcd b a ≡ gcd a b
gcd_turned a b less = sym (gcd_step a b (omega arith) ∙ ap (gcd b) (mod-eq_of_lt less))

-- what holds of a and 0 and is handed on from b and the remainder to a and b holds of every two numbers
module _ (P : ℕ → ℕ → ℕ → Type 0) (start : (a : ℕ) → P a 0 a)
    (step : (a b g : ℕ) → 0 < b → P b (a % b) g → P a b g) where
  by_turns : (turns a b : ℕ) → b ≤ turns → P a b (gcd_in turns a b)
  unfolding gcd_in
  by_turns zero a zero h = start a
  by_turns zero a (suc b) h = absurd (omega arith)
  by_turns (suc turns) a zero h = start a
  by_turns (suc turns) a (suc b) h =
      let falls : a % suc b < suc b = mod-lt a (zero-lt-suc b) in
      step a (suc b) _ (zero-lt-suc b) (by_turns turns (suc b) (a % suc b) (omega arith))

  by_remainder : (a b : ℕ) → P a b (gcd a b)
  unfolding gcd
  by_remainder a b = by_turns b a b (omega arith)

-- it divides both numbers
pub gcd_divides : (a b : ℕ) → (gcd a b ∣ a) × (gcd a b ∣ b)
gcd_divides =
    by_remainder
    (λ a b g. (g ∣ a) × (g ∣ b))
    (λ a. (dvd_refl a, dvd-zero a))
    (λ a b g h d. ((dvd-mod_iff g d.0).0 d.1, d.0))

-- a common divisor of the multiples m·a and m·b divides that multiple of it
pub divides_multiple_of_gcd : (d m a b : ℕ) → d ∣ m * a → d ∣ m * b → d ∣ m * gcd a b
divides_multiple_of_gcd d m =
    by_remainder
    (λ a b g. d ∣ m * a → d ∣ m * b → d ∣ m * g)
    (λ a da db. da)
    (λ a b g h handed da db. handed db (remainder a b da db))
  where
    remainder : (a b : ℕ) → d ∣ m * a → d ∣ m * b → d ∣ m * (a % b)
    remainder a b da db =
        rw (mod-eq-sub-mul-div a b, mul-sub m a (b * (a / b)), ← mul_assoc m b (a / b))
        (dvd-sub d da (dvd-mul_right_of_dvd d db (a / b)))

-- every common divisor divides it
pub common_divisor_divides_gcd : (d a b : ℕ) → d ∣ a → d ∣ b → d ∣ gcd a b
common_divisor_divides_gcd d a b da db =
    rw (one-mul (gcd a b)) at (divides_multiple_of_gcd d 1 a b (rw (one-mul a) da) (rw (one-mul b) db))

-- it is above 0 where the first of the two is
pub gcd_positive_left : (a b : ℕ) → 0 < a → 0 < gcd a b
gcd_positive_left a b h = pos_of_dvd_of_pos (gcd_divides a b).0 h
