-- The search for a step's label along the links: where it begins, what it finds, how it goes on and how it ends. No
-- contract cites this file. Assumes nothing.
use Prim.Native.Nat.{ℕ, suc, ◌<◌, ◌≤◌}
use mathlib.Core.Path.{◌≡◌, refl, ap, ◌∙◌}
use mathlib.Core.Bool.{Bool, true, false, ◌&&◌, or-false}
use native.Mathlib.Omega.{arith}
use lib.Dec.{eqb}
use lib.ListN.{get_or}
use borrow.Author.Tests.{eqb-true}
use Rattle.lists.specs.Lists.{some_below}
use Rattle.lists.proofs.Lists.{some_below_found}
use Rattle.lists.proofs.Last.{last_within, last_passes, last_enough}
use Rattle.table.specs.Table.{writer_of, readers_of, marks, reads, joins}
use Rattle.chain_steps.specs.Linked.{last_written, latest_of, before_of, Linked}
use Rattle.chain_steps.specs.declared.links.Links.{Links}
use Rattle.table.specs.declared.Table.{Table}

module _ (table : Table) (w r : ℕ) where
  abbrev goes_to : ℕ → Bool
  goes_to l = eqb (writer_of table l) w && reads table l r

  -- the first l labels decide whether one goes from w to r, and the last of them is one that w writes
  pub record Searching (l : ℕ) : Type 0 where
    pub decide : joins table w r ≡ some_below l goes_to
    pub written : (k : ℕ) → l ≡ suc k → eqb (writer_of table k) w ≡ true
    pub few : l ≤ table.labels

  -- labels up to the last that w writes, of labels that decide
  latest_decide : (n : ℕ) → n ≤ table.labels
      → joins table w r ≡ some_below n goes_to
      → Searching (last_written table.writer n w)
  unfolding writer_of
  latest_decide n few decide =
      let test : ℕ → Bool = λ l. eqb (get_or table.writer l 0) w in
      let within = last_within n test in
      record {
        decide = decide ∙ last_enough n test (λ l. reads table l r);
        written = last_passes n test;
        few = omega arith;
      }

  module _ {links : Links} (linked : Linked table.writer table.labels links) where
    pub search_begins : w < 32 → Searching (latest_of links w)
    unfolding joins
    search_begins known = rw (linked.of_tasks w known) (latest_decide table.labels (omega arith) refl)

    -- the last label of those does not go to r
    pub search_goes_on : w < 32 → {l : ℕ} (k : ℕ) → l ≡ suc k → Searching l → marks (readers_of table k) r ≡ false
        → Searching (before_of links k)
    unfolding some_below reads writer_of
    search_goes_on known k last searching unmarked =
        let writes = searching.written k last in
        let less : some_below (suc k) goes_to ≡ some_below k goes_to = rw (writes, unmarked) (or-false _) in
        let few = searching.few in
        let own = eqb-true _ w writes in
        rw (linked.of_labels k (omega arith) (omega arith), own)
        (latest_decide k (omega arith) (searching.decide ∙ ap (λ n. some_below n goes_to) last ∙ less))

  -- the last label of those goes to r
  pub search_finds : {l : ℕ} (k : ℕ) → l ≡ suc k → Searching l → marks (readers_of table k) r ≡ true
      → joins table w r ≡ true
  unfolding reads
  search_finds k last searching marked =
      searching.decide ∙ some_below_found _ _ k (omega arith) (rw (searching.written k last) marked)

  -- no label is left
  pub search_ends : {l : ℕ} → l ≡ 0 → Searching l → joins table w r ≡ false
  unfolding some_below
  search_ends none searching = searching.decide ∙ ap (λ n. some_below n goes_to) none
