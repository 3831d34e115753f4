-- Of a number below 2^25 the product with the factor, shifted, is the quotient. Assumes nothing.
use Prim.Native.Nat.{ℕ, suc, ◌+◌, ◌*◌, ◌/◌, ◌^◌, ◌<◌, ◌≤◌}
use mathlib.Core.Path.{◌≡◌, sym, ap, ◌∙◌}
use native.Mathlib.Nat.{div-mul-le_self, lt-div-mul-add, le-div_iff_mul-le, div-lt_iff_lt-mul, mul-le-mul_left}
use native.Mathlib.Nat.{mul-le-mul_right, mul_assoc, mul_comm, suc-mul, mul-suc}
use native.Mathlib.Numerals.{add-one}
use native.Mathlib.Omega.{arith}
use Rattle.quotients.specs.Inverses.{InverseOf}

module _ (D P n : ℕ) (positive : 0 < D) (power : 0 < P) (wide : D * 33554432 ≤ P) (small : n < 33554432) where
  -- the quotient of P is m, and that of n is q
  module _ (m q : ℕ) (of_P : (m * D ≤ P) × (P < m * D + D)) (of_n : (q * D ≤ n) × (n < q * D + D)) where
    below : q * P ≤ n * suc m
    below =
        let past : P ≤ suc m * D = omega (arith, suc-mul m D) in
        let moved : q * (suc m * D) ≡ q * D * suc m =
        ap (λ k. q * k) (mul_comm (suc m) D) ∙ sym (mul_assoc q D (suc m)) in
        omega (arith, mul-le-mul_left q past, mul-le-mul_right (suc m) of_n.0)

    above : n < m → n * suc m < suc q * P
    above less =
        let next : suc n ≤ suc q * D = omega (arith, suc-mul q D) in
        let moved : suc q * D * m ≡ suc q * (m * D) = mul_assoc (suc q) D m ∙ ap (λ k. suc q * k) (mul_comm D m) in
        omega (
          arith,
          mul-suc n m,
          suc-mul n m,
          mul-le-mul_right m next,
          mul-le-mul_left (suc q) of_P.0,
        )

  product_quotient : n * (P / D + 1) / P ≡ n / D
  product_quotient =
      let m = P / D in
      let q = n / D in
      let of_P : (m * D ≤ P) × (P < m * D + D) = (div-mul-le_self P D, lt-div-mul-add positive) in
      let of_n : (q * D ≤ n) × (n < q * D + D) = (div-mul-le_self n D, lt-div-mul-add positive) in
      let large : 33554432 ≤ m = (le-div_iff_mul-le positive).1 (omega (arith, mul_comm 33554432 D)) in
      let least = (le-div_iff_mul-le {x = q} {y = n * suc m} power).1 (below m q of_P of_n) in
      let most = (div-lt_iff_lt-mul {x = n * suc m} {y = suc q} power).1 (above m q of_P of_n (omega arith)) in
      rw (add-one m) (omega (arith, least, most))

-- by what stands for the divisor
pub quotient_is : (D factor shift n : ℕ) → InverseOf D factor shift → n < 33554432 → n * factor / 2 ^ shift ≡ n / D
quotient_is D factor shift n inverse small =
    rw inverse.is
    (product_quotient D (2 ^ shift) n inverse.positive (omega (arith, inverse.wide, inverse.positive))
    inverse.wide small)
