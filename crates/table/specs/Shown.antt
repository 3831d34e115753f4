-- What reading an image shows: the answer, the table and the rows. Document 01, Numbers that say no: a refusal
-- "carries no other value"; so of a refused image the table and the rows hold nothing but 0. Assumes nothing.
use Rattle.std.specs.Prelude.{ℕ, List, []}
use Rattle.outcomes.specs.Outcome.{Outcome, gives, refuses, asked_of}
use Rattle.table.specs.Image.{Whole, table_of, rows_of, read_image}

-- accepted, or the refusal's number and place
unfoldable pub answer_of : List ℕ → Outcome (Unit {0})
answer_of image = asked_of (read_image image) (λ whole. gives tt)

-- the table and rows with nothing in them
unfoldable pub nothing : Whole
nothing = record {
  table = table_of (record { cores = 0; tasks = 0; labels = 0; chains = 0 }) [] [] [];
  rows = rows_of [];
}

-- what was accepted, or something else in its place
unfoldable pub accepted_or : Whole → Outcome Whole → Whole
accepted_or other (gives whole) = whole
accepted_or other (refuses number place) = other

-- the table and the rows that an image shows
unfoldable pub shown_of : List ℕ → Whole
shown_of image = accepted_or nothing (read_image image)
