-- What a pen has put: nothing, a field that waits, a field that completes four bytes, the end. No contract cites this
-- file. Assumes nothing.
use Prim.Native.Nat.{ℕ, ◌+◌, ◌*◌, ◌/◌, ◌%◌, ◌^◌, ◌<◌}
use mathlib.Core.Path.{◌≡◌, refl, sym, ap, ◌∙◌}
use mathlib.Core.List.{List, [], ◌++◌, append_assoc}
use native.Mathlib.Omega.{arith}
use lib.Dec.{lit<}
use lib.ListN.{length, length-append}
use lib.Seq.{sets}
use Rattle.lists.specs.Lists.{over}
use Rattle.lists.proofs.Over.{over_stored}
use Rattle.bits.specs.Packing.{bits_of, bytes_of, bytes_for}
use Rattle.bits.proofs.BytesOf.{length_bytes, bytes_filled, bytes_parts, bytes_first}
use Rattle.bits.proofs.Written.{written_length}
use Rattle.bits.proofs.WrittenParts.{written_parts}
use Rattle.packing.specs.Inked.{Inked, Finished}
use Rattle.packing.specs.declared.Pen.{Pen}
use Rattle.packing.proofs.Words.{filled_bits}

-- nothing was put
pub inked_nothing : (held : List ℕ) → Inked held held (record { at = 0; filled = 0; word = 0 }) []
unfolding over bytes_of bits_of
inked_nothing held = record { out = []; few = lit< tt; whole = refl; written = refl; waiting = refl }

-- what went out fills so many bytes
stored : (n : ℕ) (held out more : List ℕ) → sets (over (bytes_of n out) held) n more ≡ over (bytes_of n out ++ more) held
stored n held out more =
    ap (λ i. sets (over (bytes_of n out) held) i more) (sym (length_bytes n out)) ∙ over_stored (bytes_of n out) held more

module _ (held bytes bits : List ℕ) (pen : Pen) (inked : Inked held bytes pen bits) where
  -- how many bits were put
  pub inked_length : length bits ≡ 32 * pen.at + pen.filled
  inked_length = rw inked.waiting (simp (length-append, written_length) (omega (arith, inked.whole)))

  -- the bytes are those of the bits that were put, as far as they went out
  pub inked_bytes : bytes ≡ over (bytes_of (4 * pen.at) bits) held
  inked_bytes =
      inked.written
      ∙ ap (λ l. over l held)
      (sym (bytes_first (4 * pen.at) inked.out _ inked.whole)
      ∙ ap (bytes_of (4 * pen.at)) (sym inked.waiting))

  -- a field that waits
  pub inked_waiting : (filled word : ℕ) (field : List ℕ) → filled < 32
      → bits_of filled word ≡ bits_of pen.filled pen.word ++ field
      → Inked held bytes (record { at = pen.at; filled = filled; word = word }) (bits ++ field)
  inked_waiting filled word field few joined =
      record {
        out = inked.out;
        few = few;
        whole = inked.whole;
        written = inked.written;
        waiting = rw (inked.waiting, joined, append_assoc);
      }

  -- a field that completes four bytes
  pub inked_out : (filled word : ℕ) (field : List ℕ) → filled < 32
      → bits_of (32 + filled) word ≡ bits_of pen.filled pen.word ++ field
      → Inked held (sets bytes (4 * pen.at) (bytes_of 4 (bits_of 32 (word / 2 ^ filled))))
      (record { at = pen.at + 1; filled = filled; word = word }) (bits ++ field)
  inked_out filled word field few joined =
      let four : List ℕ = bits_of 32 (word / 2 ^ filled) in
      let words : 4 * (pen.at + 1) ≡ 4 * pen.at + 4 = omega arith in
      record {
        out = inked.out ++ four;
        few = few;
        whole = simp (length-append, written_length) (omega (arith, inked.whole));
        written =
            rw (inked.written, words, bytes_parts (4 * pen.at) 4 inked.out four inked.whole)
            (stored (4 * pen.at) held inked.out (bytes_of 4 four));
        waiting =
            rw inked.waiting (simp append_assoc (rw (← joined, written_parts 32 filled word)));
      }

  -- the end: zero bits behind those that wait
  pub inked_end : (u count : ℕ) → pen.filled + u ≡ 32 → count ≡ (pen.filled + 7) / 8
      → Finished held (sets bytes (4 * pen.at) (bytes_of count (bits_of 32 (pen.word * 2 ^ u % 2 ^ 64)))) bits
      (4 * pen.at + count)
  unfolding bytes_for
  inked_end u count width counted =
      let wait : List ℕ = bits_of pen.filled pen.word in
      let last : bits_of 32 (pen.word * 2 ^ u % 2 ^ 64) ≡ wait ++ bits_of u 0 =
      ap (λ n. bits_of n (pen.word * 2 ^ u % 2 ^ 64)) (sym width)
      ∙ filled_bits pen.word pen.filled u (omega arith) in
      let long = inked_length in
      let all : (length bits + 7) / 8 ≡ 4 * pen.at + count = omega arith in
      record {
        written =
            rw (last, bytes_filled count u wait, all, inked.written, stored (4 * pen.at) held inked.out)
            (rw (inked.waiting, bytes_parts (4 * pen.at) count inked.out wait inked.whole));
        counted = sym all;
      }

-- the same bits over the same bytes, with whatever pens, are the same bytes
pub inked_determined : (held a b bits : List ℕ) (p q : Pen) → Inked held a p bits → Inked held b q bits → a ≡ b
inked_determined held a b bits p q by_p by_q =
    let same : p.at ≡ q.at =
    omega (arith, inked_length held a bits p by_p, inked_length held b bits q by_q, by_p.few, by_q.few) in
    inked_bytes held a bits p by_p
    ∙ ap (λ n. over (bytes_of (4 * n) bits) held) same
    ∙ sym (inked_bytes held b bits q by_q)
