-- Fields put into lent bytes with a pen, after those that it has put before. Assumes nothing.
use Rattle.std.specs.Prelude.{ℕ, List, ◌++◌}
use Rattle.lists.specs.Lists.{each_of}
use Rattle.bits.specs.Packing.{Field, bits_of_all}
use Rattle.packing.specs.Inked.{Inked, Countable}
use Rattle.packing.specs.declared.Pen.{Pen}
use Rattle.copies.specs.Copies.{Copy}
use Rattle.copies.specs.Listing.{copy_fields}

-- whatever bits the pen had put into the bytes, the next pen has put those and then these fields
pub record Puts (bytes after : List ℕ) (pen next : Pen) (fields : List Field) : Type 0 where
  pub inked : (held bits : List ℕ) → Inked held bytes pen bits → Countable (bits ++ bits_of_all fields)
      → Inked held after next (bits ++ bits_of_all fields)

-- "each copy as kind 1 (0 write, 1 read), label 6, task 5"
abbrev pub PutsCopies : (bytes after : List ℕ) (pen next : Pen) (copies : List Copy) → Type 0
PutsCopies bytes after pen next copies = Puts bytes after pen next (each_of copies copy_fields)
