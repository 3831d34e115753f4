-- Packed bytes read back: each byte and each bit of a packed list of bits, and the bits of fields that are packed one
-- after the other. No contract cites this file. Assumes nothing.
use Prim.Native.Nat.{ℕ, zero, suc, ◌+◌, ◌-◌, ◌*◌, ◌/◌, ◌%◌, ◌<◌}
use mathlib.Core.Path.{◌≡◌, refl, ◌∙◌}
use mathlib.Core.List.{List, [], ◌∷◌, ◌++◌, append-nil}
use native.Mathlib.Nat.{mod-lt}
use native.Mathlib.Omega.{arith}
use lib.Dec.{lit<}
use lib.ListN.{get_or, drop}
use lib.Seq.{drop-drop, get_or-drop}
use Rattle.lists.specs.Lists.{each_of}
use Rattle.lists.proofs.Each.{each_of_append}
use Rattle.bits.specs.Bits.{bit_at}
use Rattle.bits.specs.Packing.{Field, bits, bits_of, bits_of_all, formed_by, bytes_of}
use Rattle.bits.proofs.Written.{BitsTo, formed_bit}

-- byte i is formed by the eight bits from bit 8 * i on
pub byte_formed : (n : ℕ) (bits : List ℕ) (i : ℕ) → i < n → get_or (bytes_of n bits) i 0 ≡ formed_by 8 (drop (8 * i) bits)
unfolding bytes_of
byte_formed zero bits i h = omega arith
byte_formed (suc n) bits zero h = refl
byte_formed (suc n) bits (suc i) h =
    let place : 8 * suc i ≡ 8 + 8 * i = omega arith in
    byte_formed n (drop 8 bits) i (omega arith) ∙ rw (place, drop-drop)

module _ (n : ℕ) (bits : List ℕ) (each : BitsTo (8 * n) bits) where
  -- bit k of the bytes is bit k of the list
  pub bit_read_back : (k : ℕ) → k < 8 * n → bit_at (bytes_of n bits) k ≡ get_or bits k 0
  unfolding bit_at
  bit_read_back k h =
      let byte = byte_formed n bits (k / 8) (omega arith) in
      let place : 8 * (k / 8) + k % 8 ≡ k = omega arith in
      let lower : 7 - k % 8 ≡ 8 - suc (k % 8) = omega arith in
      let eight : BitsTo 8 (drop (8 * (k / 8)) bits) =
      λ j below. rw get_or-drop (each (8 * (k / 8) + j) (omega arith)) in
      rw (byte, lower, formed_bit 8 (drop (8 * (k / 8)) bits) (k % 8) eight (mod-lt k (lit< tt)), get_or-drop, place)

-- every bit of fields packed without gaps is below 2
append_below : (s t : List ℕ) → ((j : ℕ) → get_or s j 0 < 2) → ((j : ℕ) → get_or t j 0 < 2) → (j : ℕ)
    → get_or (s ++ t) j 0 < 2
append_below [] t hs ht j = ht j
append_below (x ∷ s) t hs ht zero = hs zero
append_below (x ∷ s) t hs ht (suc j) = append_below s t (λ i. hs (suc i)) ht j

pub written_below : (w v j : ℕ) → get_or (bits_of w v) j 0 < 2
unfolding bits_of
written_below zero v j = lit< tt
written_below (suc w) v zero = mod-lt _ (lit< tt)
written_below (suc w) v (suc j) = written_below w v j

pub all_written_below : (fields : List Field) (j : ℕ) → get_or (bits_of_all fields) j 0 < 2
unfolding bits_of_all each_of
all_written_below [] j = lit< tt
all_written_below (f ∷ fields) j =
    append_below (bits_of f.width f.value) (bits_of_all fields) (written_below f.width f.value)
    (all_written_below fields) j

-- the bits of some fields and then of others
pub all_written_append : (before after : List Field) → bits_of_all (before ++ after) ≡ bits_of_all before ++ bits_of_all after
unfolding bits_of_all
all_written_append before after = each_of_append (λ f. bits_of f.width f.value) before after

-- one field more
pub all_written_more : (before : List Field) (w v : ℕ)
    → bits_of_all (before ++ bits w v ∷ []) ≡ bits_of_all before ++ bits_of w v
unfolding bits_of_all each_of
all_written_more before w v = all_written_append before (bits w v ∷ []) ∙ rw append-nil
