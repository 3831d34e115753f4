-- Frames counted one after the other: none yet, one more, and all. No contract cites this file. Assumes nothing.
use Prim.Native.Nat.{ℕ, ◌+◌}
use mathlib.Core.Path.{◌≡◌, ap, ◌∙◌}
use mathlib.Core.List.{[], ◌∷◌, ◌++◌}
use native.Mathlib.Omega.{arith}
use lib.ListN.{length, length-append}
use Rattle.lists.specs.Lists.{each_of}
use Rattle.table.specs.declared.Table.{Table}
use Rattle.copies.specs.Copies.{copies_at, frames_of}
use Rattle.copies.proofs.Frames.{copies_in, copies_both}
use Rattle.copies.proofs.Turns.{passed_before}
use Rattle.frames.specs.Counts.{CountsFrames}

module _ (table : Table) (core : ℕ) where
  -- so many frames and copies were passed before tick t
  pub record CountedTo (t frames copies : ℕ) : Type 0 where
    pub many : frames ≡ length (passed_before table core t)
    pub inside : copies ≡ copies_in (passed_before table core t)

  pub counted_none : {t : ℕ} → passed_before table core t ≡ [] → CountedTo t 0 0
  unfolding each_of
  counted_none none = record { many = rw none; inside = rw none }

  pub counted_all : {t frames copies : ℕ} → passed_before table core t ≡ frames_of table core → CountedTo t frames copies
      → CountsFrames table core (record { frames = frames; copies = copies })
  counted_all all counted = record { many = counted.many ∙ ap length all; copies = counted.inside ∙ ap copies_in all }

  -- one frame more
  pub counted_more : {t next frames copies count : ℕ} (start : ℕ) → CountedTo t frames copies
      → passed_before table core next
      ≡ passed_before table core t ++ record { start = start; copies = copies_at table core start } ∷ []
      → count ≡ length (copies_at table core start) → CountedTo next (frames + 1) (copies + count)
  unfolding each_of
  counted_more {t} start counted more is =
      let before = passed_before table core t in
      record {
        many = rw more (omega (
          arith,
          counted.many,
          length-append before (record {
            start = start;
            copies = copies_at table core start;
          } ∷ []),
        ));
        inside = rw more (omega (
          arith,
          counted.inside,
          copies_both before (record {
            start = start;
            copies = copies_at table core start;
          } ∷ []),
          length-append (copies_at table core start) [],
        ));
      }
