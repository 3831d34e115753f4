-- How long the text of an accepted image is: no more than 2,447,876 bytes, so a buffer of 2,621,440 has room for it; and
-- the line of a refusal. No contract cites this file. Assumes nothing.
use Prim.Native.Nat.{ℕ, suc, ◌+◌, ◌*◌, ◌^◌, ◌<◌, ◌≤◌}
use mathlib.Core.Bool.{Bool, false}
use mathlib.Core.Logic.{⊎_elim}
use mathlib.Core.Path.{◌≡◌}
use mathlib.Core.List.{List, [], ◌∷◌, ◌++◌}
use native.Mathlib.Nat.{le_trans}
use native.Mathlib.Omega.{arith}
use lib.Dec.{ltb}
use lib.ListN.{length, length-append}
use borrow.Author.Tests.{ltb-false}
use Rattle.lists.specs.Lists.{some_below, each_below}
use Rattle.lists.proofs.Bools.{true_or_false}
use Rattle.lists.proofs.Each.{length_each_below}
use Rattle.lists.proofs.Lists.{some_below_none_passes}
use Rattle.outcomes.specs.Outcome.{gives, refuses}
use Rattle.table.specs.Image.{Whole, read_image}
use Rattle.table.specs.Table.{hyperperiod_of}
use Rattle.table.proofs.Accepted.{accepted_sound}
use Rattle.table.proofs.MeetsRules.{accepted_meets_rules}
use Rattle.copies.specs.Listing.{core_listing, listing_of}
use Rattle.ages.specs.Ages.{Ages, ages_of_chain}
use Rattle.printing.specs.Printed.{core_text, chain_text, whole_text, printable, text_of, printed}
use Rattle.printing.specs.Words.{hyperperiod_word, refused_word, chain_word, paths_word, long_word, worst_word, best_word}
use Rattle.printing.specs.Words.{jitter_word, space, newline, decimal, named}
use Rattle.texts.proofs.DecimalsShort.{decimal_short}
use Rattle.table_texts.proofs.Room.{core_short}
use Rattle.whole_texts.proofs.AgesSmall.{NumbersSmall}
use Rattle.whole_texts.proofs.ChainsSmall.{chain_numbers_small}

-- a word of a few letters and a number of a few digits
named_short : (word : List ℕ) (k n : ℕ) → n < 10 ^ suc k → length (named word n) ≤ length word + 1 + suc k
unfolding named
named_short word k n below =
    omega (arith, decimal_short k n below, length-append word (space ∷ decimal n))

-- a chain's line
chain_short : (chain : ℕ) (ages : Ages) → chain < 16 → NumbersSmall ages → length (chain_text chain ages) ≤ 83
unfolding chain_text
chain_short chain ages few small =
    let first = named chain_word chain in
    let paths = first ++ space ∷ named paths_word ages.paths in
    let long = paths ++ space ∷ named long_word ages.longest in
    let worst = long ++ space ∷ named worst_word ages.worst in
    let best = worst ++ space ∷ named best_word ages.best in
    let jitter = best ++ space ∷ named jitter_word ages.jitter in
    omega (
      arith,
      named_short chain_word 1 chain (omega arith),
      named_short paths_word 7 ages.paths small.paths,
      named_short long_word 7 ages.longest small.longest,
      named_short worst_word 7 ages.worst small.worst,
      named_short best_word 7 ages.best small.best,
      named_short jitter_word 7 ages.jitter small.jitter,
      length-append first (space ∷ named paths_word ages.paths),
      length-append paths (space ∷ named long_word ages.longest),
      length-append long (space ∷ named worst_word ages.worst),
      length-append worst (space ∷ named best_word ages.best),
      length-append best (space ∷ named jitter_word ages.jitter),
      length-append jitter (newline ∷ []),
    )

-- the line of a refusal
pub refusal_short : (number place : ℕ) → number < 10 ^ 2 → place < 10 ^ 20 → length (text_of (refuses number place)) ≤ 32
unfolding text_of
refusal_short number place few within =
    omega (
      arith,
      named_short refused_word 1 number few,
      decimal_short 19 place within,
      length-append (named refused_word number ++ space ∷ decimal place) (newline ∷ []),
      length-append (named refused_word number) (space ∷ decimal place),
    )

module _ (image : List ℕ) (whole : Whole) (accepted : read_image image ≡ gives whole) where
  abbrev long : ℕ → Bool
  long core = ltb 65536 (length (listing_of whole.table core))

  -- the texts of the cores, and the lines of the chains
  abbrev of_cores : List ℕ
  of_cores = each_below whole.table.cores (λ core. core_text (core_listing whole.table core))

  abbrev of_chains : List ℕ
  of_chains = each_below whole.table.chains (λ k. chain_text k (ages_of_chain whole.table whole.rows k))

  cores_short : some_below whole.table.cores long ≡ false → length of_cores ≤ 2446528
  cores_short none =
      let meets = accepted_meets_rules image whole accepted in
      let cores = meets.cores.1 in
      let all : length of_cores ≤ 305816 * whole.table.cores =
      length_each_below 305816 whole.table.cores _ (λ core known.
      core_short whole meets core known
      (ltb-false 65536 _ (some_below_none_passes whole.table.cores long none core known))) in
      omega arith

  chains_short : length of_chains ≤ 1328
  chains_short =
      let meets = accepted_meets_rules image whole accepted in
      let chains = meets.chains.1 in
      let all : length of_chains ≤ 83 * whole.table.chains =
      length_each_below 83 whole.table.chains _ (λ k known.
      chain_short k _ (omega arith)
      (chain_numbers_small whole meets (accepted_sound image whole accepted) k known)) in
      omega arith

  whole_short : some_below whole.table.cores long ≡ false → length (text_of (gives whole)) ≤ 2447876
  unfolding text_of whole_text
  whole_short none =
      let H = hyperperiod_of whole.table in
      let within = (accepted_meets_rules image whole accepted).hyperperiod in
      omega (
        arith,
        named_short hyperperiod_word 6 H (omega arith),
        cores_short none,
        chains_short,
        length-append (named hyperperiod_word H ++ newline ∷ of_cores) of_chains,
        length-append (named hyperperiod_word H) (newline ∷ of_cores),
      )

  -- what is printed of an accepted image
  pub accepted_short : length (printed image) ≤ 2447876
  unfolding printed printable
  accepted_short =
      rw accepted (⊎_elim
      (λ some. rw some (le_trans (refusal_short 11 0 (omega arith) (omega arith)) (omega arith)))
      (λ none. rw none (whole_short none))
      (true_or_false (some_below whole.table.cores long)))
