-- The frames of a core, tick after tick: one more tick, ticks without a copy, and how many frames and copies there are.
-- Assumes nothing.
use Prim.Native.Nat.{ℕ, zero, suc, ◌+◌, ◌*◌, ◌<◌, ◌≤◌}
use mathlib.Core.Path.{◌≡◌, refl, sym, ap, ◌∙◌}
use mathlib.Core.List.{List, [], ◌∷◌, ◌++◌, append-nil}
use native.Mathlib.Nat.{le_dest, add-zero, add-suc}
use native.Mathlib.Numerals.{add-one}
use native.Mathlib.Omega.{arith}
use lib.ListN.{length, length-append}
use Rattle.lists.specs.Lists.{each_below, each_of}
use Rattle.lists.proofs.Each.{each_of_append, length_each_below}
use Rattle.table.specs.Table.{hyperperiod_of}
use Rattle.table.specs.declared.Table.{Table}
use Rattle.copies.specs.Copies.{Copy, Frame, copies_at, frames_at, frames_of}

-- how many copies frames have
abbrev pub copies_in : List Frame → ℕ
copies_in frames = length (each_of frames (λ frame. frame.copies))

pub copies_both : (fs gs : List Frame) → copies_in (fs ++ gs) ≡ copies_in fs + copies_in gs
copies_both fs gs =
    ap length (each_of_append (λ frame. frame.copies) fs gs)
    ∙ length-append (each_of fs (λ frame. frame.copies)) (each_of gs (λ frame. frame.copies))

-- the copies of an instant are those of its frame, if it has one
frame_copies : (t : ℕ) (copies : List Copy) → copies_in (frames_at t copies) ≡ length copies
unfolding frames_at each_of
frame_copies t [] = refl
frame_copies t (copy ∷ more) = ap length (append-nil (copy ∷ more))

-- an instant has one frame at most
at_most_one : (t : ℕ) (copies : List Copy) → length (frames_at t copies) ≤ 1
unfolding frames_at
at_most_one t [] = omega arith
at_most_one t (copy ∷ more) = omega arith

-- a gap adds nothing
gap : {A : Type 0} (adds : ℕ → List A) (a d : ℕ) → ((u : ℕ) → a ≤ u → u < a + d → adds u ≡ [])
    → each_below (a + d) adds ≡ each_below a adds
unfolding each_below
gap adds a zero none = rw add-zero
gap adds a (suc d) none =
    rw (add-suc, none (a + d) (omega arith) (omega arith), append-nil)
    (gap adds a d (λ u from below. none u from (omega arith)))

module _ (table : Table) (core : ℕ) where
  -- the frames before tick t
  abbrev pub frames_before : ℕ → List Frame
  frames_before t = each_below t (λ u. frames_at u (copies_at table core u))

  -- those before the round's end are all
  pub frames_all : frames_before (hyperperiod_of table) ≡ frames_of table core
  unfolding frames_of
  frames_all = refl

  -- one more tick
  pub frames_more : (t : ℕ) → frames_before (t + 1) ≡ frames_before t ++ frames_at t (copies_at table core t)
  unfolding each_below
  frames_more t = rw add-one

  -- a tick without a copy
  pub frames_none : (t : ℕ) → copies_at table core t ≡ [] → frames_before (t + 1) ≡ frames_before t
  unfolding frames_at
  frames_none t none = frames_more t ∙ rw (none, append-nil)

  -- ticks without a copy
  pub frames_gap : (a b : ℕ) → a ≤ b → ((u : ℕ) → a ≤ u → u < b → copies_at table core u ≡ [])
      → frames_before b ≡ frames_before a
  unfolding frames_at
  frames_gap a b le none =
      let rest = le_dest le in
      rw (← rest.1)
      (gap (λ u. frames_at u (copies_at table core u)) a rest.0 (λ u from below.
      ap (frames_at u) (none u from (omega (arith, rest.1)))))

  -- how many copies there are before one more tick
  pub copies_more : (t : ℕ) → copies_in (frames_before (t + 1))
      ≡ copies_in (frames_before t) + length (copies_at table core t)
  copies_more t =
      ap copies_in (frames_more t)
      ∙ copies_both (frames_before t) (frames_at t (copies_at table core t))
      ∙ ap (λ n. copies_in (frames_before t) + n) (frame_copies t (copies_at table core t))

  -- and how many frames, where the tick has a copy
  pub frame_more : (t : ℕ) (copy : Copy) (more : List Copy) → copies_at table core t ≡ copy ∷ more
      → frames_before (t + 1) ≡ frames_before t ++ record { start = t; copies = copies_at table core t } ∷ []
  unfolding frames_at
  frame_more t copy more some = frames_more t ∙ rw some

  -- no more frames than ticks, and no more copies than each tick may have
  pub frames_few : (t : ℕ) → length (frames_before t) ≤ t
  frames_few t =
      omega (
        arith,
        length_each_below 1 t (λ u. frames_at u (copies_at table core u))
            (λ u below. at_most_one u (copies_at table core u)),
      )

  pub copies_few : (most : ℕ) → ((u : ℕ) → length (copies_at table core u) ≤ most) → (t : ℕ)
      → copies_in (frames_before t) ≤ most * t
  unfolding each_below each_of
  copies_few most each zero = omega arith
  copies_few most each (suc t) =
      let more = copies_more t in
      let one : copies_in (frames_before (suc t)) ≡ copies_in (frames_before (t + 1)) =
      ap (λ u. copies_in (frames_before u)) (sym (add-one t)) in
      omega (arith, copies_few most each t, each t)
