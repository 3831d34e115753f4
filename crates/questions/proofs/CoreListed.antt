-- The listing of a core by the two tests that come before it: 12, then 11, then its bytes. No contract cites this file.
-- Assumes nothing.
use Prim.Native.Nat.{ℕ, ◌<◌, ◌≤◌}
use mathlib.Core.Path.{◌≡◌, refl}
use mathlib.Core.List.{List}
use lib.ListN.{length}
use borrow.Author.Tests.{lt-ltb, le-ltb, le-leb, lt-leb}
use Rattle.std.specs.Prelude.{Option, Some, None}
use Rattle.std.specs.Option.{ok_or}
use Rattle.table.specs.Refusals.{said_of}
use Rattle.table.specs.declared.Refusal.TheVariants.{Room}
use Rattle.lists.proofs.Over.{over_appended}
use Rattle.outcomes.specs.Outcome.{Outcome, gives, refuses}
use Rattle.table.specs.declared.Table.{Table}
use Rattle.copies.specs.Listing.{listing_of}
use Rattle.counted_listings.specs.Listed.{Fills}
use Rattle.questions.specs.Questions.{core_listed, bytes_listed, lent_after}

-- what is said by what filling the buffer answered
abbrev pub said_of_filled : Option ℕ → Outcome ℕ
said_of_filled (Some bytes) = gives bytes
said_of_filled None = refuses 11 0

-- so says the question, where no room is refused by 11
pub said_by : (r : Option ℕ) → said_of (ok_or r (record { refusal = Room; place = 0 })) ≡ said_of_filled r
said_by (Some bytes) = refl
said_by None = refl

module _ (table : Table) (core : ℕ) (buffer : List ℕ) where
  -- what is said, and what the buffer then holds
  abbrev pub Said : Outcome ℕ → List ℕ → Type 0
  Said said after =
      (said ≡ bytes_listed (core_listed table core (length buffer)))
      × (after ≡ lent_after (core_listed table core (length buffer)) buffer)

  refused : (number : ℕ) → core_listed table core (length buffer) ≡ refuses number 0 → Said (refuses number 0) buffer
  unfolding bytes_listed lent_after
  refused number is = rw is (refl, refl)

  pub core_unknown : table.cores ≤ core → Said (refuses 12 0) buffer
  unfolding core_listed
  core_unknown unknown = refused 12 (rw (le-ltb _ _ unknown))

  pub core_filled : core < table.cores → (r : Option ℕ) {left : List ℕ} → Fills table core buffer r left
      → Said (said_of_filled r) left
  unfolding core_listed bytes_listed lent_after
  core_filled known None (short, same) =
      rw same (refused 11 (rw (lt-ltb _ _ known, lt-leb _ _ short)))
  core_filled known (Some bytes) (enough, many, over) =
      rw (lt-ltb _ _ known, le-leb _ _ enough, many, over)
      (refl, over_appended (listing_of table core) buffer enough)
