-- Bits put into lent bytes, one field after the other. Document 01, Copies and frames, of a listing: "Zero bits fill
-- the last byte. Most significant bit first throughout." Assumes nothing.
use Rattle.std.specs.Prelude.{ℕ, ◌*◌, ◌<◌, ◌^◌, ◌≡◌, List, ◌++◌, length}
use Rattle.lists.specs.Lists.{over}
use Rattle.bits.specs.Packing.{bits_of, bytes_of, bytes_for}
use Rattle.packing.specs.declared.Pen.{Pen}

-- the bits that were put with a pen, over what the bytes held: the first of them went out, four bytes at a time, and
-- fewer than 32 wait
pub record Inked (held bytes : List ℕ) (pen : Pen) (bits : List ℕ) : Type 0 where
  pub out : List ℕ
  pub few : pen.filled < 32
  pub whole : length out ≡ 8 * (4 * pen.at)
  pub written : bytes ≡ over (bytes_of (4 * pen.at) out) held
  pub waiting : bits ≡ out ++ bits_of pen.filled pen.word

-- all bits went out, the last byte filled with zero bits; so many bytes they are
pub record Finished (held bytes bits : List ℕ) (count : ℕ) : Type 0 where
  pub written : bytes ≡ over (bytes_of (bytes_for (length bits)) bits) held
  pub counted : count ≡ bytes_for (length bits)

-- bits that 64 bits can count
abbrev pub Countable : List ℕ → Type 0
Countable bits = length bits < 2 ^ 64
