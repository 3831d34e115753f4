-- Fields written one after the other. Document 01, Copies and frames, of a listing: "Zero bits fill the last byte. Most
-- significant bit first throughout." Assumes nothing.
use Rattle.std.specs.Prelude.{ℕ, zero, suc, ◌+◌, ◌*◌, ◌/◌, ◌%◌, ◌^◌, List, [], ◌∷◌, length, get_or, drop}
use Rattle.lists.specs.Lists.{each_of}

-- a field to be written: its width in bits and its value
pub record Field : Type 0 where
  pub width : ℕ
  pub value : ℕ

-- so many bits with this value
abbrev pub bits : ℕ → ℕ → Field
bits width value = record { width = width; value = value }

-- the bits of a value in a field of a width, most significant bit first
unfoldable pub bits_of : ℕ → ℕ → List ℕ
bits_of zero value = []
bits_of (suc width) value = (value / 2 ^ width % 2) ∷ bits_of width value

-- the bits of fields packed without gaps
unfoldable pub bits_of_all : List Field → List ℕ
bits_of_all fields = each_of fields (λ f. bits_of f.width f.value)

-- the number that the first `width` bits of a list form; where the list ends, zero bits fill
unfoldable pub formed_by : ℕ → List ℕ → ℕ
formed_by zero bits = 0
formed_by (suc width) bits = formed_by width bits * 2 + get_or bits width 0

-- the first `count` bytes of a list of bits
unfoldable pub bytes_of : ℕ → List ℕ → List ℕ
bytes_of zero bits = []
bytes_of (suc count) bits = formed_by 8 bits ∷ bytes_of count (drop 8 bits)

-- how many bytes hold so many bits, the last one filled up
unfoldable pub bytes_for : ℕ → ℕ
bytes_for bits = (bits + 7) / 8

-- fields packed without gaps into bytes; zero bits fill the last byte
unfoldable pub packed : List Field → List ℕ
packed fields = bytes_of (bytes_for (length (bits_of_all fields))) (bits_of_all fields)
