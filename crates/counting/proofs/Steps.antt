-- The counters of a core go on: stepped at t, those at t are those after t; they are still those at any tick up to the
-- next one that is due, which is later than t. Assumes nothing.
use Prim.Native.Nat.{ℕ, suc, ◌<◌, ◌≤◌}
use mathlib.Core.Path.{◌≡◌, refl, ap, ap₂, ◌∙◌}
use mathlib.Core.Bool.{Bool}
use mathlib.Core.List.{List, [], ◌∷◌, map, map-map}
use native.Mathlib.Omega.{arith}
use Rattle.lists.proofs.All.{All, all_also, all_map, map_same}
use Rattle.table.specs.Table.{hyperperiod_of}
use Rattle.table.specs.declared.Table.{Table}
use Rattle.table.specs.Image.{Whole}
use Rattle.table.specs.Rules.{MeetsRules}
use Rattle.table.proofs.Sound.{Sound}
use Rattle.gathering.specs.Counters.{tick_in, counter_from}
use Rattle.counters.specs.Advanced.{stepped, least_of, next_due}
use Rattle.counting.specs.Counting.{pairs_in, Counting}
use Rattle.counting.proofs.Least.{least_each, least_has}
use Rattle.counting.proofs.OfTable.{each_joined}
use Rattle.counting.proofs.OnePair.{pair_points, tick_is, counter_stays, counter_steps}

-- of functions that agree where the one gives what has a property
same_where : (P : ℕ → Type 0) (f g : ℕ → ℕ) (xs : List ℕ) → All (λ x. P (f x) → f x ≡ g x) xs → All P (map f xs)
    → map f xs ≡ map g xs
same_where P f g [] same all = refl
same_where P f g (x ∷ xs) same all = ap₂ ◌∷◌ (same.0 all.0) (same_where P f g xs same.1 all.1)

module _ (whole : Whole) (rules : MeetsRules whole) (sound : Sound whole.table) (kind : Bool) (core : ℕ) where
  abbrev table : Table
  table = whole.table

  abbrev H : ℕ
  H = hyperperiod_of table

  -- the pairs that the core counts, their counters at t, and how a counter is stepped
  abbrev pairs : List ℕ
  pairs = pairs_in kind table core

  abbrev from : ℕ → ℕ → ℕ
  from t = counter_from kind table.period t

  abbrev step : ℕ → ℕ → ℕ
  step t = stepped kind table.period t

  module _ {t : ℕ} (soon : t ≤ H) {counters : List ℕ} (counting : Counting kind table core t counters) where
    -- no counter is behind
    pub ticks_from : All (λ counter. t ≤ tick_in counter) counters
    ticks_from =
        rw counting (all_map _ (from t) pairs
        (each_joined whole rules kind core (λ pair. t ≤ tick_in (from t pair)) (λ w r writes reads joined.
        rw (tick_is whole rules sound kind w r writes reads joined t soon)
        ((pair_points whole rules sound kind w r writes reads joined).first t).from_start)))

    -- up to a tick that no counter is before
    pub counting_stays : (u : ℕ) → t ≤ u → All (λ counter. u ≤ tick_in counter) counters
        → Counting kind table core u counters
    counting_stays u late before =
        counting
        ∙ same_where (λ counter. u ≤ tick_in counter) (from t) (from u) pairs
        (each_joined whole rules kind core _ (λ w r writes reads joined.
        counter_stays whole rules sound kind w r writes reads joined t soon u late))
        (rw counting at before)

    -- after t
    pub counting_steps : Counting kind table core (suc t) (map (step t) counters)
    counting_steps =
        ap (map (step t)) counting
        ∙ map-map (step t) (from t) pairs
        ∙ map_same (λ pair. step t (from t pair)) (from (suc t)) pairs
        (each_joined whole rules kind core (λ pair. step t (from t pair) ≡ from (suc t) pair)
        (λ w r writes reads joined. counter_steps whole rules sound kind w r writes reads joined t soon))

  -- the next tick that is due
  module _ {t : ℕ} (inside : t < H) {counters : List ℕ} (counting : Counting kind table core t counters) where
    abbrev next : ℕ
    next = next_due kind table.period t counters

    gone : Counting kind table core (suc t) (map (step t) counters)
    gone = counting_steps (omega arith) counting

    pub next_later : t < next
    unfolding next_due
    next_later =
        least_has (λ counter. t < tick_in counter) 4294967295 (map (step t) counters)
        (omega (arith, rules.hyperperiod)) (ticks_from inside gone)

    -- no counter is before it, and up to it they stay
    pub next_first : All (λ counter. next ≤ tick_in counter) (map (step t) counters)
    unfolding next_due
    next_first =
        let after = map (step t) counters in
        all_also (λ counter. least_of 4294967295 after ≤ counter) (λ counter. next ≤ tick_in counter)
        (λ counter least. omega arith) after (least_each 4294967295 after)

    pub counting_next : (u : ℕ) → t < u → u ≤ next → Counting kind table core u (map (step t) counters)
    counting_next u late before =
        counting_stays inside gone u late
        (all_also (λ counter. next ≤ tick_in counter) (λ counter. u ≤ tick_in counter) (λ counter first. omega arith)
        (map (step t) counters) next_first)
