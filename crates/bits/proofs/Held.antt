-- A string of bytes holds given bits from a place on: bits in two parts, and fields that were packed. No contract cites
-- this file. Assumes nothing.
use Prim.Native.Nat.{ℕ, zero, suc, ◌+◌, ◌*◌, ◌-◌, ◌<◌, ◌≤◌}
use mathlib.Core.Logic.{by_cases}
use mathlib.Core.Path.{◌≡◌, refl, sym, ◌∙◌}
use mathlib.Core.List.{List, ◌++◌}
use native.Mathlib.Nat.{add_assoc, zero-add}
use native.Mathlib.Decide.{dec_lt}
use native.Mathlib.Omega.{arith}
use lib.Dec.{lit<}
use lib.ListN.{length, get_or, drop, length-append, get_or-append}
use lib.Seq.{ext_get_or, get_or-append-add, get_or-drop}
use Rattle.bits.specs.Bits.{bit_count, bit_at, field_at}
use Rattle.bits.specs.Packing.{Field, bits_of_all, bytes_of, bytes_for, packed}
use Rattle.bits.proofs.BytesOf.{length_bytes}
use Rattle.bits.proofs.Fields.{field_byte}
use Rattle.bits.proofs.ReadBack.{all_written_below, bit_read_back}
use Rattle.bits.proofs.Written.{formed_below}

pub record Held (bytes : List ℕ) (at : ℕ) (bits : List ℕ) : Type 0 where
  pub inside : at + length bits ≤ bit_count bytes
  pub each : (j : ℕ) → j < length bits → bit_at bytes (at + j) ≡ get_or bits j 0

module _ (bytes : List ℕ) (at : ℕ) where
  module _ (first rest : List ℕ) where
    pub held_first : Held bytes at (first ++ rest) → Held bytes at first
    held_first held =
        let long = length-append first rest in
        let most = held.inside in
        record {
          inside = omega arith;
          each = λ j below. held.each j (omega arith) ∙ get_or-append first rest 0 j below;
        }

    pub held_rest : Held bytes at (first ++ rest) → Held bytes (at + length first) rest
    held_rest held =
        let long = length-append first rest in
        let most = held.inside in
        record {
          inside = omega arith;
          each = λ j below.
              rw (add_assoc at (length first) j)
              (held.each (length first + j) (omega arith) ∙ get_or-append-add first rest j 0);
        }

    pub held_both : Held bytes at first → Held bytes (at + length first) rest → Held bytes at (first ++ rest)
    held_both of_first of_rest =
        let long = length-append first rest in
        let most = of_rest.inside in
        record {
          inside = omega arith;
          each = λ j below.
              by_cases (dec_lt j (length first))
              (λ early. of_first.each j early ∙ sym (get_or-append first rest 0 j early))
              (λ late.
              let k : ℕ = j - length first in
              let place : j ≡ length first + k = omega arith in
              rw (place, ← add_assoc at (length first) k, get_or-append-add first rest k 0)
              (of_rest.each k (omega arith)));
        }

module _ (fields : List Field) where
  -- how many bits the fields have
  abbrev pub bits_in : ℕ
  bits_in = length (bits_of_all fields)

  pub length_packed : length (packed fields) ≡ bytes_for bits_in
  unfolding packed
  length_packed = length_bytes _ _

  -- each bit of packed fields, those of the fill too
  pub packed_bit : (k : ℕ) → k < 8 * bytes_for bits_in → bit_at (packed fields) k ≡ get_or (bits_of_all fields) k 0
  unfolding packed
  packed_bit k within =
      bit_read_back (bytes_for bits_in) (bits_of_all fields) (λ j _. all_written_below fields j) k within

  pub packed_held : Held (packed fields) 0 (bits_of_all fields)
  unfolding bit_count bytes_for
  packed_held =
      let long = length_packed in
      record {
        inside = omega arith;
        each = λ j below. rw (zero-add j) (packed_bit j (omega arith));
      }

-- fields whose bits are the same are the same
field_same : (s t : List ℕ) (at w : ℕ) → ((j : ℕ) → j < w → bit_at s (at + j) ≡ bit_at t (at + j))
    → field_at s at w ≡ field_at t at w
unfolding field_at
field_same s t at zero same = refl
field_same s t at (suc w) same =
    let before = field_same s t at w (λ j below. same j (omega arith)) in
    rw (before, same w (omega arith))

byte_below : (n : ℕ) (bits : List ℕ) → ((j : ℕ) → get_or bits j 0 < 2) → (k : ℕ) → get_or (bytes_of n bits) k 0 < 256
unfolding bytes_of
byte_below zero bits each k = lit< tt
byte_below (suc n) bits each zero = formed_below 8 bits (λ j _. each j)
byte_below (suc n) bits each (suc k) =
    byte_below n (drop 8 bits) (λ j. rw get_or-drop (each (8 + j))) k

-- bytes that hold the fields, and then zero bits to the end of the last byte, are the packed fields
pub packed_only : (bytes : List ℕ) (fields : List Field) → ((k : ℕ) → get_or bytes k 0 < 256)
    → length bytes ≡ bytes_for (bits_in fields)
    → ((k : ℕ) → k < bit_count bytes → bit_at bytes k ≡ get_or (bits_of_all fields) k 0)
    → bytes ≡ packed fields
unfolding packed bit_count
packed_only bytes fields are_bytes long same =
    ext_get_or 0 _ _ (long ∙ sym (length_packed fields)) (λ k below.
    let all : ℕ = bytes_for (bits_in fields) in
    sym (field_byte bytes k (are_bytes k))
    ∙ field_same bytes (packed fields) (8 * k) 8 (λ j small.
    same (8 * k + j) (omega arith) ∙ sym (packed_bit fields (8 * k + j) (omega arith)))
    ∙ field_byte (packed fields) k (byte_below all (bits_of_all fields) (all_written_below fields) k))
