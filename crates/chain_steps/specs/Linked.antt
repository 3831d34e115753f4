-- The labels of a table linked by their writers: what the search for a step's label goes through. The reader's own
-- contract does not cite this file. Assumes nothing.
use Rattle.std.specs.Prelude.{ℕ, suc, ◌<◌, ◌≤◌, ◌≡◌, List, eqb, get_or, Option, None, Some}
use Rattle.lists.specs.Lists.{last_below}
use Rattle.table.specs.declared.Table.{Table}
use Rattle.chain_steps.specs.declared.links.Links.{Links}

-- the last of the first n labels that task w writes, as its number plus one; 0 where it writes none of them
abbrev pub last_written : (writer : List ℕ) (n w : ℕ) → ℕ
last_written writer n w = last_below n (λ l. eqb (get_or writer l 0) w)

-- a label as its number plus one, and 0 for none
abbrev pub counted : Option ℕ → ℕ
counted None = 0
counted (Some l) = suc l

-- of task w the last label that it writes; and of label l the one before it
abbrev pub latest_of : Links → ℕ → ℕ
latest_of links w = counted (get_or links.latest w None)

abbrev pub before_of : Links → ℕ → ℕ
before_of links l = counted (get_or links.before l None)

-- of each task the last label that it writes, and of each label that a task writes the one before it that the same task
-- writes
pub record Linked (writer : List ℕ) (labels : ℕ) (links : Links) : Type 0 where
  pub of_tasks : (w : ℕ) → w < 32 → latest_of links w ≡ last_written writer labels w
  pub of_labels : (l : ℕ) → l < labels → get_or writer l 0 < 32
      → before_of links l ≡ last_written writer l (get_or writer l 0)

-- every way along the links begins at a label of the arrays and falls, so that it ends
pub record Falling (links : Links) : Type 0 where
  pub begins : (w : ℕ) → w < 32 → latest_of links w ≤ 64
  pub falls : (l : ℕ) → l < 64 → before_of links l ≤ l

-- what the search for a step's label is given of a table: how many tasks it has, its readers, and its labels linked by
-- their writers
pub record Searched (tasks : ℕ) (readers : List ℕ) (links : Links) (table : Table) : Type 0 where
  pub tasks_same : table.tasks ≡ tasks
  pub readers_same : table.readers ≡ readers
  pub linked : Linked table.writer table.labels links

-- so in each table of which this is given
abbrev pub InEachSearched : (tasks : ℕ) (readers : List ℕ) (links : Links) → (Table → Type 0) → Type 0
InEachSearched tasks readers links P = (table : Table) → Searched tasks readers links table → P table
