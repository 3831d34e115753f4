-- Fields put one after the other: none, some and then others, and those of a copy as one field. No contract cites this
-- file. Assumes nothing.
use Prim.Native.Nat.{ℕ, ◌+◌, ◌*◌, ◌<◌}
use mathlib.Core.Path.{◌≡◌, ap, ◌∙◌}
use mathlib.Core.List.{List, [], ◌∷◌, ◌++◌, append-nil, append_assoc}
use native.Mathlib.Omega.{arith}
use lib.ListN.{length-append}
use Rattle.lists.specs.Lists.{each_of}
use Rattle.lists.proofs.Each.{each_of_append}
use Rattle.masks.proofs.Rising.{each_more}
use Rattle.bits.specs.Packing.{Field, bits, bits_of, bits_of_all}
use Rattle.bits.proofs.ReadBack.{all_written_append}
use Rattle.bits.proofs.WrittenParts.{written_joined}
use Rattle.packing.specs.Inked.{Inked, Countable}
use Rattle.packing.specs.declared.Pen.{Pen}
use Rattle.copies.specs.Copies.{Copy, read, write}
use Rattle.copies.specs.Listing.{copy_fields}
use Rattle.instants.specs.Puts.{Puts, PutsCopies}

-- no field
pub puts_nothing : (bytes : List ℕ) (pen : Pen) → Puts bytes bytes pen pen []
unfolding bits_of_all each_of
puts_nothing bytes pen = record { inked = λ held bits inked few. rw (append-nil bits) inked }

-- some fields and then more
pub puts_then : {bytes middle after : List ℕ} {pen next last : Pen} {fields more : List Field}
    → Puts bytes middle pen next fields → Puts middle after next last more → Puts bytes after pen last (fields ++ more)
puts_then {fields = fields} {more} first then = record {
  inked = λ held bits inked few.
      let all : bits ++ bits_of_all (fields ++ more) ≡ (bits ++ bits_of_all fields) ++ bits_of_all more =
      rw (all_written_append fields more, append_assoc) in
      let few_all : Countable ((bits ++ bits_of_all fields) ++ bits_of_all more) = rw all at few in
      let few_first : Countable (bits ++ bits_of_all fields) =
      omega (arith, length-append (bits ++ bits_of_all fields) (bits_of_all more)) in
      rw all (then.inked held _ (first.inked held bits inked few_first) few_all);
}

-- one field that has the bits of several
pub puts_one : (bytes after : List ℕ) (pen next : Pen) (width value : ℕ) (fields : List Field)
    → ((held bits : List ℕ) → Inked held bytes pen bits → Countable bits
    → Inked held after next (bits ++ bits_of width value))
    → bits_of width value ≡ bits_of_all fields → Puts bytes after pen next fields
puts_one bytes after pen next width value fields inks same = record {
  inked = λ held bits inked few.
      rw (← same) (inks held bits inked (omega (arith, length-append bits (bits_of_all fields))));
}

-- the three fields of a copy as one field of twelve bits
pub one_field : (kind label task : ℕ) → label < 64 → task < 32
    → bits_of 12 (kind * 2048 + label * 32 + task) ≡ bits_of_all (bits 1 kind ∷ bits 6 label ∷ bits 5 task ∷ [])
unfolding bits_of_all each_of
one_field kind label task known few =
    let parts : kind * 2048 + label * 32 + task ≡ kind * 2048 + (label * 32 + task) = omega arith in
    rw (parts, append-nil)
    (written_joined 1 11 kind (label * 32 + task) (omega arith)
    ∙ ap (λ l. bits_of 1 kind ++ l) (written_joined 6 5 label task few))

-- no copy, one write or read, and copies and then more of them
pub no_copy : {copies : List Copy} (bytes : List ℕ) (pen : Pen) → copies ≡ [] → PutsCopies bytes bytes pen pen copies
unfolding each_of
no_copy bytes pen none = rw none (puts_nothing bytes pen)

pub one_write : {copies : List Copy} {bytes after : List ℕ} {pen next : Pen} (label writer : ℕ)
    → copies ≡ write label writer ∷ []
    → Puts bytes after pen next (bits 1 0 ∷ bits 6 label ∷ bits 5 writer ∷ []) → PutsCopies bytes after pen next copies
unfolding each_of copy_fields
one_write label writer one put = rw one put

pub one_read : {bytes after : List ℕ} {pen next : Pen} (label reader : ℕ)
    → Puts bytes after pen next (bits 1 1 ∷ bits 6 label ∷ bits 5 reader ∷ [])
    → PutsCopies bytes after pen next (read label reader ∷ [])
unfolding each_of copy_fields
one_read label reader put = put

pub copies_then : {bytes middle after : List ℕ} {pen next last : Pen} (copies more : List Copy)
    → PutsCopies bytes middle pen next copies → PutsCopies middle after next last more
    → PutsCopies bytes after pen last (copies ++ more)
copies_then copies more first then = rw (each_of_append copy_fields copies more) (puts_then first then)

-- of a loop over rising numbers, the copies that one number more has to add
pub one_more_put : (adds : ℕ → List Copy) {bytes middle after : List ℕ} {pen next last : Pen} (met : List ℕ) (x : ℕ)
    → PutsCopies bytes middle pen next (each_of met adds) → PutsCopies middle after next last (adds x)
    → PutsCopies bytes after pen last (each_of (met ++ x ∷ []) adds)
one_more_put adds met x before one = rw (each_more adds met x) (copies_then _ _ before one)
