-- What is found at a place, by the whole bytes that hold it: from byte at / 8 on, as many as the field reaches into. No
-- contract cites this file. Assumes nothing.
use Prim.Native.Nat.{ℕ, ◌+◌, ◌-◌, ◌*◌, ◌/◌, ◌%◌, ◌^◌, ◌<◌, ◌≤◌}
use mathlib.Core.Path.{◌≡◌, ap, ◌∙◌}
use mathlib.Core.List.{List}
use native.Mathlib.Omega.{arith}
use borrow.Author.Tests.{le-leb, lt-leb}
use lib.ListN.{length}
use Rattle.outcomes.specs.Outcome.{gives, refuses}
use Rattle.bits.specs.Bits.{bit_count, field_at}
use Rattle.bits.specs.Found.{found_at}
use Rattle.bits.proofs.Fields.{field_cut}

-- how many bytes a field reaches into
abbrev pub reached : ℕ → ℕ → ℕ
reached at w = (at % 8 + w + 7) / 8

module _ (bytes : List ℕ) (at w : ℕ) where
  -- the bytes end inside or before the field
  pub found_ends : length bytes < at / 8 + reached at w → refuses 1 at ≡ found_at bytes at w
  unfolding found_at bit_count
  found_ends short =
      let past : 8 * length bytes < at + w = omega arith in
      rw (lt-leb _ _ past)

  pub found_value : at / 8 + reached at w ≤ length bytes → gives (field_at bytes at w) ≡ found_at bytes at w
  unfolding found_at bit_count
  found_value long =
      let within : at + w ≤ 8 * length bytes = omega arith in
      rw (le-leb _ _ within)

  -- the field, cut out of the bytes that it reaches into
  pub found_cut : field_at bytes (8 * (at / 8)) (8 * reached at w) / 2 ^ (8 * reached at w - at % 8 - w) % 2 ^ w
      ≡ field_at bytes at w
  found_cut =
      let u : ℕ = 8 * reached at w - at % 8 - w in
      let width : 8 * reached at w ≡ at % 8 + w + u = omega arith in
      let place : 8 * (at / 8) + at % 8 ≡ at = omega arith in
      ap (λ n. field_at bytes (8 * (at / 8)) n / 2 ^ u % 2 ^ w) width
      ∙ field_cut bytes (8 * (at / 8)) (at % 8) w u
      ∙ ap (λ p. field_at bytes p w) place
