-- The plan of listings that were handed out as bytes, one string for each core: each is taken out of its bytes again,
-- and carried out round after round. Assumes nothing.
use Rattle.std.specs.Prelude.{ℕ, List, [], ◌∷◌}
use Rattle.lists.specs.Lists.{each_below}
use Rattle.outcomes.specs.Outcome.{Outcome, gives, refuses}
use Rattle.copies.specs.Listing.{Listing}
use Rattle.copies.specs.Plans.{Plan}
use Rattle.listings.specs.FromBytes.{listing_in}
use Rattle.runs.specs.FramePlan.{plan_of}

-- the listing that was taken; bytes that are none add nothing
abbrev pub listed_in : Outcome Listing → List Listing
listed_in (gives listing) = listing ∷ []
listed_in (refuses number place) = []

-- the listings of so many cores, by rising core
unfoldable pub listings_in : (cores : ℕ) → (bytes : ℕ → List ℕ) → List Listing
listings_in cores bytes = each_below cores (λ core. listed_in (listing_in (bytes core)))

-- the plan that they make
abbrev pub bytes_plan : (cores : ℕ) → (bytes : ℕ → List ℕ) → Plan
bytes_plan cores bytes = plan_of (listings_in cores bytes)
