-- One pass over the counters: those passed were stepped, the least of them is known, and what is said of those that were
-- due is folded. No contract cites this file. Assumes nothing.
use Prim.Native.Nat.{ℕ, suc, ◌+◌, ◌<◌, ◌≤◌, min}
use mathlib.Core.Path.{◌≡◌, refl, sym, ap, ◌∙◌}
use mathlib.Core.Bool.{Bool}
use mathlib.Core.List.{List, [], ◌∷◌, ◌++◌, map, map-append, append_assoc}
use native.Mathlib.Numerals.{add-one}
use native.Mathlib.Omega.{arith}
use lib.ListN.{length, get_or, set, take, drop, length-map, length-take}
use lib.Seq.{take-suc, drop-cons, get_or_at, set_at}
use lib.ListN.{drop_of_length-le}
use Rattle.gathering.specs.Counters.{tick_in}
use Rattle.counters.specs.Advanced.{stepped, folded, least_of, next_due}

-- what is folded of the counters before i, so that with the rest it comes to the same as from the start
pub record Folding {S : Type 0} (with_one_lem : S → ℕ → S) (start : S) (entry : List ℕ) (state : S) (i : ℕ) : Type 0 where
  pub same : folded with_one_lem state (drop i entry) ≡ folded with_one_lem start entry

pub folding_none : {S : Type 0} (with_one_lem : S → ℕ → S) (start : S) (entry : List ℕ)
    → Folding with_one_lem start entry start 0
folding_none with_one_lem start entry = record { same = refl }

module _ (reads : Bool) (periods : List ℕ) (t : ℕ) (entry : List ℕ) where
  abbrev step : ℕ → ℕ
  step = stepped reads periods t

  -- the counters before i are passed
  pub record Advancing (counters : List ℕ) (least i : ℕ) : Type 0 where
    pub within : i ≤ length entry
    pub stands : counters ≡ map step (take i entry) ++ drop i entry
    pub lowest : least_of least (map step (drop i entry)) ≡ least_of 4294967295 (map step entry)

  pub advancing_none : Advancing entry 4294967295 0
  advancing_none = record { within = omega arith; stands = refl; lowest = refl }

  module _ {counters : List ℕ} {least i : ℕ} (so_far : Advancing counters least i) where
    long : length (map step (take i entry)) ≡ i
    long = omega (arith, length-map (take i entry) step, length-take i entry, so_far.within)

    module _ (inside : i < length entry) where
      rest : drop i entry ≡ get_or entry i 0 ∷ drop (suc i) entry
      rest = drop-cons entry i 0 inside

      own : get_or counters i 0 ≡ get_or entry i 0
      own =
          ap (λ l. get_or l i 0) so_far.stands
          ∙ rw rest (get_or_at (map step (take i entry)) (get_or entry i 0) (drop (suc i) entry) 0 i long)

      -- one more turn
      pub advancing_more : {next lower : ℕ} → next ≡ step (get_or counters i 0) → lower ≡ min least next
          → Advancing (set counters i next) lower (i + 1)
      unfolding least_of
      advancing_more stepped less = rw add-one (record {
        within = omega (arith, inside);
        stands =
            rw (stepped, own, so_far.stands, rest, take-suc entry i 0 inside, map-append)
            (set_at (map step (take i entry)) _ _ _ i long ∙ sym (append_assoc (map step (take i entry)) _ _));
        lowest = rw (less, stepped, own) (rw rest at so_far.lowest);
      })

      pub folding_more : {S : Type 0} {with_one_lem : S → ℕ → S} {start state next : S}
          → Folding with_one_lem start entry state i → next ≡ with_one_lem state (get_or counters i 0)
          → Folding with_one_lem start entry next (i + 1)
      unfolding folded
      folding_more folding new = rw add-one (record { same = rw (new, own) (rw rest at folding.same) })

    -- all are passed
    module _ (over : length entry ≤ i) where
      done : drop i entry ≡ []
      done = drop_of_length-le entry {i = i} over

      pub advanced_next : tick_in least ≡ next_due reads periods t entry
      unfolding next_due least_of
      advanced_next = rw (← so_far.lowest, done)

      pub folded_all : {S : Type 0} {with_one_lem : S → ℕ → S} {start state : S}
          → Folding with_one_lem start entry state i → state ≡ folded with_one_lem start entry
      unfolding folded
      folded_all folding = rw (← folding.same, done)
