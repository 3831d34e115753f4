-- The three questions, asked of the table image itself. Document 01: "Each question is asked of the table image
-- itself; a refused image gets the same refusal whichever question is asked." Of Numbers that say no the rows 11 to
-- 13, each at place 0 and in the order 12, 13, 11. Any image and any numbers may be asked. Assumes nothing.
use Rattle.std.specs.Prelude.{ℕ, List, ◌++◌, leb, ltb, length, drop}
use Rattle.outcomes.specs.Outcome.{Outcome, gives, refuses, asked_of, refused_unless}
use Rattle.table.specs.Table.{Rows}
use Rattle.table.specs.Image.{read_image}
use Rattle.table.specs.declared.Table.{Table}
use Rattle.copies.specs.Listing.{listing_of}
use Rattle.ages.specs.Ages.{Ages, ages_of_chain}
-- passed on from crates/pair_points, specs/PairPoints.antt: the points of a pair, asked of a table (12, then 13, then P(n)
-- and Q(n))
pub use Rattle.pair_points.specs.PairPoints.{Points}
unfoldable pub use Rattle.pair_points.specs.PairPoints.{points_of}

-- the points of a pair, asked of the image: its own refusal first
unfoldable pub points : (image : List ℕ) (writer reader n : ℕ) → Outcome Points
points image writer reader n = asked_of (read_image image) (λ whole. points_of whole.table writer reader n)

-- 12: "asked core .. not in the table"; 11: "lent buffer shorter than the listing"; else the listing's bytes
unfoldable pub core_listed : (table : Table) (core room : ℕ) → Outcome (List ℕ)
core_listed table core room =
    refused_unless 12 (ltb core table.cores)
    (refused_unless 11 (leb (length (listing_of table core)) room)
    (gives (listing_of table core)))

-- the listing of a core, asked of the image: its own refusal first
unfoldable pub listing : (image : List ℕ) (core room : ℕ) → Outcome (List ℕ)
listing image core room = asked_of (read_image image) (λ whole. core_listed whole.table core room)

-- "On success a listing fills the first bytes of the buffer, .. and the bytes after them keep their values"; after a
-- refusal "each lent buffer then holds what it held"
unfoldable pub lent_after : Outcome (List ℕ) → List ℕ → List ℕ
lent_after (gives bytes) buffer = bytes ++ drop (length bytes) buffer
lent_after (refuses number place) buffer = buffer

-- "the answer says how many" bytes it fills
unfoldable pub bytes_listed : Outcome (List ℕ) → Outcome ℕ
bytes_listed outcome = asked_of outcome (λ bytes. gives (length bytes))

-- 12: "asked .. chain .. not in the table"; else the answer for the chain
abbrev pub chain_aged : (table : Table) (rows : Rows) (chain : ℕ) → Outcome Ages
chain_aged table rows chain =
    refused_unless 12 (ltb chain table.chains)
    (gives (ages_of_chain table rows chain))

-- the ages of a chain, asked of the image: its own refusal first
unfoldable pub ages : (image : List ℕ) (chain : ℕ) → Outcome Ages
ages image chain = asked_of (read_image image) (λ whole. chain_aged whole.table whole.rows chain)
