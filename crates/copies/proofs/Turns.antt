-- The frames of a core gone through from one instant to the next one with a copy: none yet, one more, and all of a round.
-- Assumes nothing.
use Prim.Native.Nat.{ℕ, ◌+◌, ◌<◌, ◌≤◌, min}
use mathlib.Core.Path.{◌≡◌, refl, sym, ap, ◌∙◌}
use mathlib.Core.List.{List, [], ◌∷◌, ◌++◌}
use native.Mathlib.Omega.{arith}
use lib.ListN.{length}
use Rattle.lists.specs.Lists.{each_below}
use Rattle.table.specs.Table.{hyperperiod_of}
use Rattle.table.specs.declared.Table.{Table}
use Rattle.copies.specs.Copies.{Copy, Frame, copies_at, frames_of}
use Rattle.copies.proofs.Frames.{frames_before, frames_all, frames_none, frames_gap, frame_more}

module _ (table : Table) (core : ℕ) where
  abbrev H : ℕ
  H = hyperperiod_of table

  -- the frames before tick t, and before the round's end
  abbrev pub passed_before : ℕ → List Frame
  passed_before t = frames_before table core (min t H)

  -- from one instant of the round to the next, with no copy in between
  pub record Turn (now next : ℕ) : Type 0 where
    pub inside : now < H
    pub later : now < next
    pub between : (u : ℕ) → now < u → u < next → copies_at table core u ≡ []

  pub none_passed : passed_before 0 ≡ []
  unfolding each_below
  none_passed = let start : min 0 H ≡ 0 = omega arith in rw start

  -- all of the round
  pub all_passed : (now : ℕ) → H ≤ now → passed_before now ≡ frames_of table core
  all_passed now end =
      let last : min now H ≡ H = omega arith in
      ap (frames_before table core) last ∙ frames_all table core

  module _ {now next : ℕ} (turn : Turn now next) where
    here : min now H ≡ now
    here = omega (arith, turn.inside)

    after : passed_before next ≡ frames_before table core (now + 1)
    after =
        frames_gap table core (now + 1) (min next H) (omega (arith, turn.inside, turn.later))
        (λ u from below. turn.between u (omega arith) (omega arith))

    -- the instant has no copy
    pub passed_none : copies_at table core now ≡ [] → passed_before next ≡ passed_before now
    passed_none none =
        after ∙ frames_none table core now none ∙ ap (frames_before table core) (sym here)

    -- the instant has a frame
    pub passed_frame : (copy : Copy) (more : List Copy) → copies_at table core now ≡ copy ∷ more
        → passed_before next ≡ passed_before now ++ record { start = now; copies = copies_at table core now } ∷ []
    passed_frame copy more some =
        after ∙ frame_more table core now copy more some
        ∙ ap (λ t. frames_before table core t ++ record { start = now; copies = copies_at table core now } ∷ [])
        (sym here)

-- of copies that are none, or more than none
pub no_copies : (copies : List Copy) → length copies ≡ 0 → copies ≡ []
no_copies [] none = refl
no_copies (copy ∷ more) none = absurd (omega arith)

pub some_copies : (copies : List Copy) → 0 < length copies → (copy : Copy) × (more : List Copy) × (copies ≡ copy ∷ more)
some_copies [] some = absurd (omega arith)
some_copies (copy ∷ more) some = (copy, more, refl)
