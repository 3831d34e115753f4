-- What a reader of one chain answers: the periods of the chain's tasks. No contract of a question cites this file.
-- Assumes nothing.
use Rattle.std.specs.Prelude.{ℕ, cond, ◌≡◌, List, [], map, ltb, length, Result}
use Rattle.lists.specs.Lists.{over}
use Rattle.outcomes.specs.Outcome.{gives, asked_of}
use Rattle.table.specs.Refusals.{said_of}
use Rattle.table.specs.Table.{period_of, chain_of}
use Rattle.table.specs.Image.{Whole, read_image}
use Rattle.table.specs.Shown.{shown_of}
use Rattle.table.specs.declared.Refused.{Refused}

-- the periods of the tasks of chain k, in the chain's order; none where the chain is not in the table
unfoldable pub periods_in : Whole → ℕ → List ℕ
periods_in whole k =
    cond (ltb k whole.table.chains) (map (period_of whole.table) (chain_of whole.table whole.rows k)) []

-- how many tasks the chain of an accepted image has, or the image's refusal; and their periods over the first entries that
-- were lent; of a refused image there are none, so "each lent buffer then holds what it held"
pub record PeriodsShown (image : List ℕ) (k : ℕ) (r : Result ℕ Refused) (held left : List ℕ) : Type 0 where
  pub answer : said_of r ≡ asked_of (read_image image) (λ whole. gives (length (periods_in whole k)))
  pub periods : left ≡ over (periods_in (shown_of image) k) held
