-- Frames put from instant to instant: none yet, an instant with a frame, one without, and all. No contract cites this
-- file. Assumes nothing.
use Prim.Native.Nat.{ℕ, ◌<◌, ◌≤◌, ◌^◌}
use mathlib.Core.Path.{◌≡◌, ap, ◌∙◌}
use mathlib.Core.List.{List, [], ◌∷◌, ◌++◌, append-nil}
use lib.ListN.{length}
use Rattle.lists.specs.Lists.{each_of}
use Rattle.lists.proofs.Each.{each_of_append}
use Rattle.bits.specs.Packing.{bits, bits_of, bits_of_all}
use Rattle.packing.specs.Inked.{Inked, Countable}
use Rattle.packing.specs.declared.Pen.{Pen}
use Rattle.table.specs.declared.Table.{Table}
use Rattle.copies.specs.Copies.{Frame, copies_at}
use Rattle.copies.specs.Listing.{copy_fields, frame_fields}
use Rattle.copies.proofs.Turns.{passed_before}
use Rattle.instants.specs.Puts.{Puts}
use Rattle.instants.proofs.Putting.{puts_nothing, puts_then, puts_one}

-- one field
pub field_put : {bytes after : List ℕ} {pen next : Pen} (width value : ℕ) → width ≤ 32 → value < 2 ^ width
    → ((held bits : List ℕ) → Inked held bytes pen bits → Countable bits → width ≤ 32 → value < 2 ^ width
    → Inked held after next (bits ++ bits_of width value))
    → Puts bytes after pen next (bits width value ∷ [])
unfolding bits_of_all each_of
field_put width value narrow fits inks =
    puts_one _ _ _ _ width value _ (λ held bits inked few. inks held bits inked few narrow fits) (rw append-nil)

module _ (table : Table) (core : ℕ) (held : List ℕ) (pen : Pen) where
  -- the frames before tick t were put
  abbrev pub PutTo : ℕ → List ℕ → Pen → Type 0
  PutTo t bytes ink = Puts held bytes pen ink (each_of (passed_before table core t) frame_fields)

  pub put_none : (t : ℕ) → passed_before table core t ≡ [] → PutTo t held pen
  unfolding each_of
  put_none t none = rw none (puts_nothing held pen)

  -- one frame more
  pub put_frame : (t start next : ℕ) {count : ℕ} {bytes after : List ℕ} {ink further : Pen} → PutTo t bytes ink
      → passed_before table core next
      ≡ passed_before table core t ++ record { start = start; copies = copies_at table core start } ∷ []
      → count ≡ length (copies_at table core start)
      → Puts bytes after ink further (bits 20 start ∷ bits 12 count ∷ each_of (copies_at table core start) copy_fields)
      → PutTo next after further
  unfolding each_of frame_fields
  put_frame t start next put passed is more =
      let frame : Frame = record { start = start; copies = copies_at table core start } in
      let all : each_of (passed_before table core next) frame_fields
      ≡ each_of (passed_before table core t) frame_fields ++ frame_fields frame =
      ap (λ frames. each_of frames frame_fields) passed
      ∙ each_of_append frame_fields (passed_before table core t) (frame ∷ [])
      ∙ ap (λ l. each_of (passed_before table core t) frame_fields ++ l) (append-nil (frame_fields frame)) in
      rw all (puts_then put (rw is at more))
