-- The third demand of the bytes that were handed out: of an accepted table, the listings of all cores as bytes make the
-- same plan as the listings themselves. Assumes nothing.
use Prim.Native.Nat.{ℕ, ◌<◌}
use mathlib.Core.Path.{◌≡◌, ap, ◌∙◌}
use mathlib.Core.List.{List}
use Rattle.lists.proofs.Below.{each_below_same}
use Rattle.outcomes.specs.Outcome.{gives}
use Rattle.table.specs.Image.{Whole, read_image}
use Rattle.copies.specs.Listing.{listing_of, all_listings}
use Rattle.copies.specs.Plans.{full_plan}
use Rattle.listings.specs.FromBytes.{listing_in}
use Rattle.listings.proofs.NumbersFit.{listing_taken_back}
use Rattle.runs.specs.BytesPlan.{listed_in, listings_in, bytes_plan}
use Rattle.runs.specs.FramePlan.{plan_of, listings_plan}
use Rattle.runs.specs.Runs.{Turns, values_read}
use Rattle.runs.proofs.NoJobCanTell.{no_job_can_tell_by_listings}

module _ (image : List ℕ) (whole : Whole) (accepted : read_image image ≡ gives whole) (bytes : ℕ → List ℕ)
    (handed : (core : ℕ) → core < whole.table.cores → bytes core ≡ listing_of whole.table core)
  where
    same_listings : listings_in whole.table.cores bytes ≡ all_listings whole.table
    unfolding listings_in all_listings
    same_listings =
        each_below_same whole.table.cores _ _ (λ core known.
        ap (λ b. listed_in (listing_in b)) (handed core known)
        ∙ ap listed_in (listing_taken_back image whole accepted core known))

    pub no_job_can_tell_by_bytes : (Value : Type 0) (initial : ℕ → Value) (turns : Turns Value) (n : ℕ)
        → values_read (bytes_plan whole.table.cores bytes) initial turns n
        ≡ values_read (full_plan whole.table) initial turns n
    unfolding listings_plan
    no_job_can_tell_by_bytes Value initial turns n =
        ap (λ listings. values_read (plan_of listings) initial turns n) same_listings
        ∙ no_job_can_tell_by_listings image whole accepted Value initial turns n
