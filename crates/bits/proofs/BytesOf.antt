-- The bytes of a list of bits: how many, those of two parts, that zero bits after the last one change nothing, and each
-- byte of a written value. No contract cites this file. Assumes nothing.
use Prim.Native.Nat.{ℕ, zero, suc, ◌+◌, ◌*◌, ◌/◌, ◌%◌, ◌^◌, ◌≤◌}
use mathlib.Core.Path.{◌≡◌, refl, sym, ap, ap₂, ◌∙◌}
use mathlib.Core.List.{List, [], ◌∷◌, ◌++◌, append-nil}
use native.Mathlib.Nat.{zero-add, add-zero, suc-add, zero-div, mod-lt}
use native.Mathlib.Omega.{arith}
use lib.Dec.{lit<, lit≤}
use lib.ListN.{length, get_or, drop, length-drop, get_or-append}
use lib.Seq.{get_or-drop, drop-append-le}
use Rattle.bits.specs.Packing.{bits_of, formed_by, bytes_of}
use Rattle.bits.proofs.Written.{written_length, read_of_written}
use Rattle.bits.proofs.WrittenParts.{written_parts, written_low}

pub length_bytes : (n : ℕ) (bits : List ℕ) → length (bytes_of n bits) ≡ n
unfolding bytes_of
length_bytes zero bits = refl
length_bytes (suc n) bits = ap suc (length_bytes n _)

-- the same bits, with zero bits where the list ends, are the same bytes
formed_same : (w : ℕ) (s t : List ℕ) → ((j : ℕ) → get_or s j 0 ≡ get_or t j 0) → formed_by w s ≡ formed_by w t
unfolding formed_by
formed_same zero s t same = refl
formed_same (suc w) s t same = rw (formed_same w s t same, same w)

bytes_same : (n : ℕ) (s t : List ℕ) → ((j : ℕ) → get_or s j 0 ≡ get_or t j 0) → bytes_of n s ≡ bytes_of n t
unfolding bytes_of
bytes_same zero s t same = refl
bytes_same (suc n) s t same =
    ap₂ (λ b l. b ∷ l) (formed_same 8 s t same)
    (bytes_same n (drop 8 s) (drop 8 t) (λ j. rw (get_or-drop 8 s j 0, get_or-drop 8 t j 0) (same (8 + j))))

-- no bit of 0 is set
written_zero : (w j : ℕ) → get_or (bits_of w 0) j 0 ≡ 0
unfolding bits_of
written_zero zero j = refl
written_zero (suc w) zero = rw zero-div
written_zero (suc w) (suc j) = written_zero w j

zero_after : (bits : List ℕ) (w j : ℕ) → get_or (bits ++ bits_of w 0) j 0 ≡ get_or bits j 0
zero_after [] w j = written_zero w j
zero_after (b ∷ bits) w zero = refl
zero_after (b ∷ bits) w (suc j) = zero_after bits w j

-- zero bits after the last one change nothing
pub bytes_filled : (n w : ℕ) (bits : List ℕ) → bytes_of n (bits ++ bits_of w 0) ≡ bytes_of n bits
bytes_filled n w bits = bytes_same n _ _ (zero_after bits w)

-- bits after the first ones do not change the number that those form
formed_before : (w : ℕ) (s t : List ℕ) → w ≤ length s → formed_by w (s ++ t) ≡ formed_by w s
unfolding formed_by
formed_before zero s t le = refl
formed_before (suc w) s t le = rw (formed_before w s t (omega arith), get_or-append s t 0 w le)

-- the bytes of whole bytes, and then of what follows
pub bytes_parts : (n k : ℕ) (first rest : List ℕ) → length first ≡ 8 * n
    → bytes_of (n + k) (first ++ rest) ≡ bytes_of n first ++ bytes_of k rest
unfolding bytes_of
bytes_parts zero k [] rest whole = rw zero-add
bytes_parts zero k (x ∷ first) rest whole = absurd (omega arith)
bytes_parts (suc n) k first rest whole =
    rw (
      suc-add,
      formed_before 8 first rest (omega arith),
      drop-append-le 8 first rest (omega arith),
      bytes_parts n k (drop 8 first) rest (simp length-drop (omega arith)),
    )

-- bits after the first bytes do not change those
pub bytes_first : (n : ℕ) (first rest : List ℕ) → length first ≡ 8 * n → bytes_of n (first ++ rest) ≡ bytes_of n first
unfolding bytes_of
bytes_first n first rest whole =
    ap (λ k. bytes_of k (first ++ rest)) (sym (add-zero n)) ∙ bytes_parts n 0 first rest whole ∙ append-nil _

-- the last 8 bits of a value form it, without the others
written_byte : (v : ℕ) (rest : List ℕ) → formed_by 8 (bits_of 8 v ++ rest) ≡ v % 256
written_byte v rest = rw (← written_low 8 8 v (lit≤ tt)) (read_of_written 8 (v % 256) rest (mod-lt v (lit< tt)))

-- one byte more of a value
pub bytes_one_more : (w v i u : ℕ) → w ≡ 8 * i + (8 + u)
    → bytes_of (i + 1) (bits_of w v) ≡ bytes_of i (bits_of w v) ++ (v / 2 ^ u % 256) ∷ []
unfolding bytes_of
bytes_one_more w v i u width =
    let first : List ℕ = bits_of (8 * i) (v / 2 ^ (8 + u)) in
    let rest : List ℕ = bits_of 8 (v / 2 ^ u) ++ bits_of u v in
    let parts : bits_of w v ≡ first ++ rest =
    ap (λ n. bits_of n v) width ∙ written_parts (8 * i) (8 + u) v ∙ ap (λ l. first ++ l) (written_parts 8 u v) in
    let long : length first ≡ 8 * i = written_length (8 * i) _ in
    rw (
      parts,
      bytes_first i first rest long,
      bytes_parts i 1 first rest long,
      written_byte (v / 2 ^ u) (bits_of u v),
    )
