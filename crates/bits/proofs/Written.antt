-- The bits of a value as a list: each bit of a written field, the value read of what was written, that two values
-- written alike are the same, and each bit of a number that bits form. No contract cites this file. Assumes nothing.
use Prim.Native.Nat.{ℕ, zero, suc, ◌+◌, ◌-◌, ◌*◌, ◌/◌, ◌%◌, ◌^◌, ◌<◌, ◌≤◌}
use mathlib.Core.Path.{◌≡◌, refl, sym, ap, ◌∙◌}
use mathlib.Core.List.{List, [], ◌++◌}
use native.Mathlib.Nat.{sub-zero, sub_self, suc-sub-suc, add-zero, add-suc, pow-zero, pow-suc, pow-succ', div-one}
use native.Mathlib.Nat.{div-eq_of_lt, div-div-eq-div-mul}
use native.Mathlib.Omega.{arith}
use lib.Dec.{lit<}
use lib.ListN.{length, get_or, get_or-append}
use Rattle.bits.specs.Bits.{bit_at, field_at}
use Rattle.bits.specs.Packing.{bits_of, formed_by}
use Rattle.bits.proofs.Fields.{field_cut}

-- a field of w bits is written in w bits
pub written_length : (w v : ℕ) → length (bits_of w v) ≡ w
unfolding bits_of
written_length zero v = refl
written_length (suc w) v = ap suc (written_length w v)

-- bit j of a written field
pub written_bit : (w v j : ℕ) → j < w → get_or (bits_of w v) j 0 ≡ v / 2 ^ (w - suc j) % 2
unfolding bits_of
written_bit zero v j h = omega arith
written_bit (suc w) v zero h = rw (suc-sub-suc w zero, sub-zero)
written_bit (suc w) v (suc j) h = rw (suc-sub-suc w (suc j)) (written_bit w v j (omega arith))

-- the first k bits of a written field form its value without the other bits, whatever is written after it
read_first : (w v : ℕ) (rest : List ℕ) → v < 2 ^ w → (k : ℕ) → k ≤ w
    → formed_by k (bits_of w v ++ rest) ≡ v / 2 ^ (w - k)
unfolding formed_by
read_first w v rest h zero le = rw (sub-zero, div-eq_of_lt h)
read_first w v rest h (suc k) le =
    let before = read_first w v rest h k (omega arith) in
    let within : k < length (bits_of w v) = rw written_length le in
    let bit = get_or-append (bits_of w v) rest 0 k within ∙ written_bit w v k le in
    let one_more : w - k ≡ suc (w - suc k) = omega arith in
    rw (before, bit, one_more, pow-suc, ← div-div-eq-div-mul) (omega arith)

-- read of written
pub read_of_written : (w v : ℕ) (rest : List ℕ) → v < 2 ^ w → formed_by w (bits_of w v ++ rest) ≡ v
read_of_written w v rest h = read_first w v rest h w (omega arith) ∙ rw (sub_self, pow-zero) (div-one v)

-- two values of one width that are written alike are the same
pub written_injective : (w u v : ℕ) → u < 2 ^ w → v < 2 ^ w → bits_of w u ≡ bits_of w v → u ≡ v
written_injective w u v hu hv same =
    sym (read_of_written w u [] hu) ∙ ap (λ bits. formed_by w (bits ++ [])) same ∙ read_of_written w v [] hv

-- the first w bits of a list are bits
abbrev pub BitsTo : ℕ → List ℕ → Type 0
BitsTo w bits = (j : ℕ) → j < w → get_or bits j 0 < 2

-- w bits form a number below 2 ^ w
pub formed_below : (w : ℕ) (bits : List ℕ) → BitsTo w bits → formed_by w bits < 2 ^ w
unfolding formed_by
formed_below zero bits each = rw pow-zero (lit< tt)
formed_below (suc w) bits each =
    let below = formed_below w bits (λ j h. each j (omega arith)) in
    let bit = each w (omega arith) in
    rw pow-suc (omega arith)

-- without its last u bits, a number is formed by the bits before them
formed_first : (bits : List ℕ) (k u : ℕ) → BitsTo (k + u) bits → formed_by (k + u) bits / 2 ^ u ≡ formed_by k bits
unfolding formed_by
formed_first bits k zero each = rw (pow-zero, add-zero) (div-one _)
formed_first bits k (suc u) each =
    let bit = each (k + u) (omega arith) in
    let half : (formed_by (k + u) bits * 2 + get_or bits (k + u) 0) / 2 ≡ formed_by (k + u) bits = omega arith in
    rw (add-suc, pow-succ', ← div-div-eq-div-mul, half) (formed_first bits k u (λ j h. each j (omega arith)))

-- bit j of a number is the bit that formed it
pub formed_bit : (w : ℕ) (bits : List ℕ) (j : ℕ) → BitsTo w bits → j < w
    → formed_by w bits / 2 ^ (w - suc j) % 2 ≡ get_or bits j 0
unfolding formed_by
formed_bit w bits j each h =
    let u : ℕ = w - suc j in
    let width : w ≡ suc j + u = omega arith in
    let bit = each j h in
    let first = formed_first bits (suc j) u (λ i below. each i (omega arith)) in
    ap (λ n. formed_by n bits / 2 ^ u % 2) width ∙ ap (λ n. n % 2) first ∙ omega arith

-- bit j of a field of some bytes, written again, is the bit at its place
pub field_written : (bytes : List ℕ) (at w j : ℕ) → j < w
    → get_or (bits_of w (field_at bytes at w)) j 0 ≡ bit_at bytes (at + j)
unfolding field_at
field_written bytes at w j h =
    let u : ℕ = w - suc j in
    let width : w ≡ j + 1 + u = omega arith in
    written_bit w (field_at bytes at w) j h
    ∙ ap (λ n. field_at bytes at n / 2 ^ u % 2) width
    ∙ field_cut bytes at j 1 u
    ∙ rw (add-zero (at + j)) (omega arith)
