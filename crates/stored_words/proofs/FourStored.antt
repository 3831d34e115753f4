-- The last 32 bits of a word as four bytes, and how they are stored. No contract cites this file. Assumes nothing.
use Prim.Native.Nat.{ℕ, zero, suc, ◌+◌, ◌-◌, ◌*◌, ◌/◌, ◌%◌, ◌^◌, ◌<◌, ◌≤◌}
use mathlib.Core.Path.{◌≡◌, refl, sym, ap, ◌∙◌}
use mathlib.Core.List.{List, [], ◌∷◌, ◌++◌, append_assoc}
use native.Mathlib.Nat.{div-one}
use native.Mathlib.Omega.{arith}
use lib.ListN.{length, get_or}
use lib.Seq.{sets, drop-drop}
use borrow.Rule.Slice.PartMut.{put_mid}
use Rattle.std.specs.Int.{w32, to_be_bytes}
use Rattle.std.proofs.lemmas.List.Edits.{sets-eq}
use Rattle.bits.specs.Packing.{bits_of, bytes_of}
use Rattle.bits.proofs.BytesOf.{bytes_one_more}

-- the last 32 bits as four bytes
four_bytes : (v : ℕ)
    → bytes_of 4 (bits_of 32 v) ≡ (v / 16777216 % 256) ∷ (v / 65536 % 256) ∷ (v / 256 % 256) ∷ (v % 256) ∷ []
unfolding bytes_of
four_bytes v =
    cc (
      bytes_one_more 32 v 3 0 refl,
      bytes_one_more 32 v 2 8 refl,
      bytes_one_more 32 v 1 16 refl,
      bytes_one_more 32 v 0 24 refl,
      div-one v,
    )

-- they are those of the language's own bytes of 32 bits
pub last_bytes : (v : ℕ) → to_be_bytes w32 (v % 4294967296) ≡ bytes_of 4 (bits_of 32 v)
last_bytes v =
    let a : v % 4294967296 / 16777216 % 256 ≡ v / 16777216 % 256 = omega arith in
    let b : v % 4294967296 / 65536 % 256 ≡ v / 65536 % 256 = omega arith in
    let c : v % 4294967296 / 256 % 256 ≡ v / 256 % 256 = omega arith in
    let d : v % 4294967296 % 256 ≡ v % 256 = omega arith in
    rw (four_bytes v) (cc (a, b, c, d))

-- each of them in turn
byte_of : (v i : ℕ) → i < 4 → get_or (bytes_of 4 (bits_of 32 v)) i 0 ≡ v / 2 ^ (24 - 8 * i) % 256
byte_of v zero known = rw (four_bytes v)
byte_of v (suc zero) known = rw (four_bytes v)
byte_of v (suc (suc zero)) known = rw (four_bytes v)
byte_of v (suc (suc (suc zero))) known = rw (four_bytes v) (ap (λ n. n % 256) (sym (div-one v)))
byte_of v (suc (suc (suc (suc i)))) known = absurd (omega arith)

pub bytes_more : (v i : ℕ) → i < 4 → bytes_of (i + 1) (bits_of 32 v)
    ≡ bytes_of i (bits_of 32 v) ++ get_or (bytes_of 4 (bits_of 32 v)) i 0 ∷ []
bytes_more v i known =
    bytes_one_more 32 v i (24 - 8 * i) (omega arith)
    ∙ ap (λ b. bytes_of i (bits_of 32 v) ++ b ∷ []) (sym (byte_of v i known))

-- bytes written in one run
pub run_stored : (n : ℕ) (held bytes : List ℕ) (k : ℕ) → k ≡ length bytes → n + length bytes ≤ length held
    → put_mid n k held bytes ≡ sets held n bytes
run_stored n held bytes k long fits = rw (long, sets-eq bytes held n fits, drop-drop (length bytes) n held, append_assoc)
