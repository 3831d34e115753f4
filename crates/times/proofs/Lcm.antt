-- The least common multiple of two numbers: both divide it, and it divides every common multiple. Document 01, Table
-- image: "The hyperperiod H is the least common multiple of the periods of all tasks". Assumes nothing.
use Prim.Native.Nat.{ℕ, zero, suc, ◌*◌, ◌/◌, ◌<◌, ◌≤◌, ◌∣◌}
use mathlib.Core.Path.{◌≡◌, sym, ap, ◌∙◌}
use mathlib.Core.Logic.{⊎_elim}
use native.Mathlib.Nat.{dvd-mul_left, dvd-mul_right, dvd_of_mul-dvd-mul_left, mul-dvd-mul_left, mul-dvd-mul_right}
use native.Mathlib.Nat.{div-mul_cancel, mul-div_cancel', mul_assoc, mul_comm, mul-zero, mul-pos, eq-zero-or-pos}
use native.Mathlib.Nat.{le_of_dvd, eq-zero_of_zero-dvd}
use native.Mathlib.Omega.{arith}
use Rattle.times.specs.Hyperperiod.{gcd, lcm}
use Rattle.times.proofs.Gcd.{gcd_divides, divides_multiple_of_gcd, gcd_positive_left}

-- the product is the greatest common divisor times the least common multiple
pub gcd_times_lcm : (a b : ℕ) → gcd a b * lcm a b ≡ a * b
unfolding lcm
gcd_times_lcm a b =
    sym (mul_assoc (gcd a b) (a / gcd a b) b) ∙ ap (λ (k : ℕ). k * b) (mul-div_cancel' (gcd a b) (gcd_divides a b).0)

-- b divides it
pub right_divides_lcm : (a b : ℕ) → b ∣ lcm a b
unfolding lcm
right_divides_lcm a b = dvd-mul_left b (a / gcd a b)

-- it is a multiple of a: as often as the greatest common divisor goes into b
lcm_from_left : (a b : ℕ) → lcm a b ≡ a * (b / gcd a b)
unfolding lcm
lcm_from_left a b =
    let g = gcd a b in
    let whole : b ≡ b / g * g = sym (div-mul_cancel g (gcd_divides a b).1) in
    let part : a / g * g ≡ a = div-mul_cancel g (gcd_divides a b).0 in
    ap (λ (k : ℕ). a / g * k) whole
    ∙ ap (λ (k : ℕ). a / g * k) (mul_comm (b / g) g)
    ∙ sym (mul_assoc (a / g) g (b / g))
    ∙ ap (λ (k : ℕ). k * (b / g)) part

-- a divides it
pub left_divides_lcm : (a b : ℕ) → a ∣ lcm a b
left_divides_lcm a b = rw (lcm_from_left a b) (dvd-mul_right a (b / gcd a b))

-- with 0 it is 0
pub lcm_zero_left : (b : ℕ) → lcm 0 b ≡ 0
lcm_zero_left b = eq-zero_of_zero-dvd (left_divides_lcm 0 b)

pub lcm_zero_right : (a : ℕ) → lcm a 0 ≡ 0
lcm_zero_right a = eq-zero_of_zero-dvd (right_divides_lcm a 0)

-- of numbers above 0 it is above 0
pub lcm_positive : (a b : ℕ) → 0 < a → 0 < b → 0 < lcm a b
lcm_positive a b ha hb = ⊎_elim (λ e. absurd (nothing e)) (λ h. h) (eq-zero-or-pos (lcm a b))
  where
    nothing : lcm a b ≡ 0 → ⊥
    nothing e =
        let product : a * b ≡ 0 = sym (gcd_times_lcm a b) ∙ ap (λ (k : ℕ). gcd a b * k) e ∙ mul-zero (gcd a b) in
        let above : 0 < a * b = mul-pos ha hb in
        omega arith

-- it divides every common multiple
pub lcm_divides_common_multiple : (a b m : ℕ) → a ∣ m → b ∣ m → lcm a b ∣ m
lcm_divides_common_multiple zero b m da db = rw (lcm_zero_left b) da
lcm_divides_common_multiple (suc a) b m da db =
    dvd_of_mul-dvd-mul_left (lcm (suc a) b) (gcd_positive_left (suc a) b (omega arith)) cancelled
  where
    in_left : suc a * b ∣ m * suc a
    in_left = rw (mul_comm m (suc a)) (mul-dvd-mul_left b (suc a) db)

    in_right : suc a * b ∣ m * b
    in_right = mul-dvd-mul_right (suc a) da b

    cancelled : gcd (suc a) b * lcm (suc a) b ∣ gcd (suc a) b * m
    cancelled =
        rw (gcd_times_lcm (suc a) b, mul_comm (gcd (suc a) b) m)
        (divides_multiple_of_gcd (suc a * b) m (suc a) b in_left in_right)

-- no common multiple above 0 is smaller
pub lcm_least : (a b m : ℕ) → 0 < m → a ∣ m → b ∣ m → lcm a b ≤ m
lcm_least a b m h da db = le_of_dvd h (lcm_divides_common_multiple a b m da db)
