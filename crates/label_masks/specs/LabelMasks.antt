-- The labels of each task as masks of 64 bits. No contract of a question cites this file. Assumes nothing.
use Rattle.std.specs.Prelude.{ℕ, ◌<◌, ◌^◌, ◌≡◌, ◌&&◌, ◌||◌, List, eqb, ltb, length, get_or}
use Rattle.masks.specs.Masks.{holds}
use Rattle.table.specs.Table.{marks}
use Rattle.instants.specs.Due.{writer_due}

-- of each task a mask of those of the first labels that it writes
pub record WrittenLabels (labels : ℕ) (writer masks : List ℕ) : Type 0 where
  pub few : (w : ℕ) → w < 32 → get_or masks w 0 < 2 ^ 64
  pub has : (w l : ℕ) → w < 32 → l < 64 → holds 64 (get_or masks w 0) l ≡ (ltb l labels && eqb (writer_due writer l) w)

-- of each of the first tasks a mask of those of the first labels that it reads; of the others an empty one
pub record ReadLabels (labels tasks : ℕ) (readers masks : List ℕ) : Type 0 where
  pub has : (r l : ℕ) → r < 32 → l < 64
      → holds 64 (get_or masks r 0) l ≡ (ltb r tasks && (ltb l labels && marks (get_or readers l 0) r))

-- the masks after one label more: its readers among the first tasks hold it, too
pub record LabelAdded (label tasks readers : ℕ) (before after : List ℕ) : Type 0 where
  pub long : length after ≡ length before
  pub has : (r l : ℕ) → r < 32 → holds 64 (get_or after r 0) l
      ≡ (holds 64 (get_or before r 0) l || (eqb l label && (ltb r tasks && marks readers r)))
