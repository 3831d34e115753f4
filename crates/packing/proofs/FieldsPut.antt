-- Fields put one after the other: one more of them, and what the last byte leaves. No contract cites this file. Assumes
-- nothing.
use Prim.Native.Nat.{ℕ}
use mathlib.Core.Path.{◌≡◌, sym, ◌∙◌}
use mathlib.Core.List.{List, [], ◌∷◌, ◌++◌}
use lib.ListN.{length}
use Rattle.lists.specs.Lists.{over}
use Rattle.bits.specs.Packing.{Field, bits, bits_of, bits_of_all, packed}
use Rattle.bits.proofs.Held.{length_packed}
use Rattle.bits.proofs.ReadBack.{all_written_more}
use Rattle.packing.specs.Inked.{Inked, Finished}
use Rattle.packing.specs.declared.Pen.{Pen}

module _ (held bytes : List ℕ) (fields : List Field) where
  -- one field more
  pub fields_more : (pen : Pen) (w v : ℕ) → Inked held bytes pen (bits_of_all fields ++ bits_of w v)
      → Inked held bytes pen (bits_of_all (fields ++ bits w v ∷ []))
  fields_more pen w v inked = rw (all_written_more fields w v) inked

  -- what is left at the end are the packed fields, over what the bytes held
  pub fields_finished : (count : ℕ) → Finished held bytes (bits_of_all fields) count
      → (bytes ≡ over (packed fields) held) × (count ≡ length (packed fields))
  unfolding packed
  fields_finished count finished = (finished.written, finished.counted ∙ sym (length_packed fields))
