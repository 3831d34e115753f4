-- Which copies are due at a tick, by the frames of a table's listings: those that its cores have at that instant of the
-- round. Assumes nothing.
use Prim.Native.Nat.{ℕ, ◌%◌, ◌<◌}
use mathlib.Core.Bool.{Bool, true, false, cond, ◌&&◌, ◌||◌, or-false, and-false}
use mathlib.Core.Path.{◌≡◌, refl, sym, ap₂, ◌∙◌, subst}
use mathlib.Core.List.{List, [], ◌∷◌}
use lib.Dec.{eqb}
use borrow.Author.Tests.{eqb-true, eq-eqb}
use Rattle.lists.specs.Lists.{some_below, each_of}
use Rattle.lists.proofs.Bools.{same_test, and_parts, and_of_parts}
use Rattle.lists.proofs.Lists.{some_below_finds, some_below_found, some_below_same}
use Rattle.table.specs.Table.{core_of, writer_of, hyperperiod_of}
use Rattle.table.specs.declared.Table.{Table}
use Rattle.copies.specs.Copies.{Copy, write, read, written, served}
use Rattle.copies.specs.Copies.{writes_at, reads_at, copies_at, frames_at, frames_of}
use Rattle.lists.specs.Lists.{some_of}
use Rattle.copies.specs.Listing.{core_listing, all_listings}
use Rattle.runs.specs.FramePlan.{copies_due}
use Rattle.lists.proofs.SomeOf.{some_append, some_each_below, some_each_of, some_only_if}

-- among the numbers below a bound, the one that is meant
some_at : (n s : ℕ) (given : ℕ → Bool) → s < n → some_below n (λ t. eqb t s && given t) ≡ given s
some_at n s given inside =
    same_test _ (given s)
    (λ some.
    let (t, below, found) = some_below_finds n _ some in
    let (same, passes) = and_parts (eqb t s) (given t) found in
    subst (λ k. given k ≡ true) (eqb-true t s same) passes)
    (λ passes. some_below_found n _ s inside (and_of_parts (eqb s s) (given s) (eq-eqb s s refl) passes))

-- that core has at s the write of label l, and its read for r, and that such a copy passes the test
abbrev pub writing : (Copy → Bool) → Table → (core s l : ℕ) → Bool
writing test table core s l =
    (eqb (core_of table (writer_of table l)) core && written table l s) && test (write l (writer_of table l))

abbrev pub reading : (Copy → Bool) → Table → (core s l r : ℕ) → Bool
reading test table core s l r = (eqb (core_of table r) core && served table l r s) && test (read l r)

module _ (test : Copy → Bool) where
  -- the frame of an instant, where it has copies
  some_frame : (s t : ℕ) (copies : List Copy)
      → some_of (λ frame. some_of test (cond (eqb frame.start s) frame.copies [])) (frames_at t copies)
      ≡ (eqb t s && some_of test copies)
  unfolding some_of frames_at
  some_frame s t [] = sym (and-false (eqb t s))
  some_frame s t (copy ∷ more) = go (eqb t s)
    where
      go : (b : Bool) → (some_of test (cond b (copy ∷ more) []) || false) ≡ (b && some_of test (copy ∷ more))
      go true = or-false (some_of test (copy ∷ more))
      go false = refl

  -- the listing of a core has at a tick the copies of its instant
  frames_have : (table : Table) (core t : ℕ) → t % hyperperiod_of table < hyperperiod_of table
      → some_of test (copies_due (core_listing table core) t) ≡ some_of test (copies_at table core (t % hyperperiod_of table))
  unfolding copies_due frames_of
  frames_have table core t inside =
      let s : ℕ = t % hyperperiod_of table in
      some_each_of test (frames_of table core) _
      ∙ some_each_below _ (hyperperiod_of table) _
      ∙ some_below_same (hyperperiod_of table) _ (λ u. eqb u s && some_of test (copies_at table core u))
      (λ u below. some_frame s u (copies_at table core u))
      ∙ some_at (hyperperiod_of table) s (λ u. some_of test (copies_at table core u)) inside

  -- and the listings of all cores those of one core or another
  pub listings_have : (table : Table) (t : ℕ) → t % hyperperiod_of table < hyperperiod_of table
      → some_of test (each_of (all_listings table) (λ listing. copies_due listing t))
      ≡ some_below table.cores (λ core. some_of test (copies_at table core (t % hyperperiod_of table)))
  unfolding all_listings some_of
  listings_have table t inside =
      some_each_of test (all_listings table) _
      ∙ some_each_below _ table.cores _
      ∙ some_below_same table.cores _ _ (λ core below. or-false _ ∙ frames_have table core t inside)

  -- the copies of an instant: the writes and the reads
  pub copies_have : (table : Table) (core s : ℕ)
      → some_of test (copies_at table core s)
      ≡ (some_below table.labels (writing test table core s)
      || some_below table.labels (λ l. some_below table.tasks (reading test table core s l)))
  unfolding copies_at writes_at reads_at
  copies_have table core s =
      some_append test (writes_at table core s) (reads_at table core s)
      ∙ ap₂ ◌||◌
      (some_each_below test table.labels _
      ∙ some_below_same table.labels _ _ (λ l below.
      some_only_if test (eqb (core_of table (writer_of table l)) core && written table l s) (write l (writer_of table l))))
      (some_each_below test table.labels _
      ∙ some_below_same table.labels _ _ (λ l below.
      some_each_below test table.tasks _
      ∙ some_below_same table.tasks _ _ (λ r below.
      some_only_if test (eqb (core_of table r) core && served table l r s) (read l r))))
