-- Chains in a row, with the array of their lengths and the rows of their task numbers. No contract cites this file.
-- Assumes nothing.
use Prim.Native.Nat.{ℕ, ◌+◌, ◌*◌, ◌<◌, ◌≤◌}
use mathlib.Core.Path.{◌≡◌, refl, sym}
use mathlib.Core.List.{List, [], ◌∷◌, ◌++◌, map}
use native.Mathlib.Omega.{arith}
use lib.ListN.{length, set, length-append}
use Rattle.lists.specs.Lists.{padded, over}
use Rattle.lists.proofs.Over.{over_none, held_more}
use Rattle.outcomes.specs.Outcome.{gives, refuses}
use Rattle.taking.specs.Reading.{in_row}
use Rattle.table.specs.Refusals.{number_of}
use Rattle.table.specs.Table.{Rows}
use Rattle.table.specs.Image.{chain_fields}
use Rattle.chains.specs.Parts.{ChainsTaken}
use Rattle.std.specs.Prelude.{Ok, Err}
use Rattle.table.specs.declared.Refused.{Refused}
use Rattle.table.specs.declared.Table.{Table}
use Rattle.taking.proofs.Rows.{row_more, row_refused}

module _ (image : List ℕ) (at : ℕ) (table : Table) (rows₀ : Rows) where
  -- k chains were taken; the array holds their lengths and the rows their task numbers
  pub record ChainsPassed (k : ℕ) (lengths : List ℕ) (rows : Rows) (next : ℕ) : Type 0 where
    pub values : List (List ℕ)
    pub long : length values ≡ k
    pub taken_row : in_row k (λ before. chain_fields table) image at ≡ gives (record { value = values; next = next })
    pub near : next ≤ at + 44 * k
    pub lengths_held : lengths ≡ over (map (λ chain. length chain) values) table.length
    pub rows_held : rows ≡ over (map (λ chain. padded 8 0 chain) values) rows₀

  pub no_chain_passed : ChainsPassed 0 table.length rows₀ at
  unfolding in_row
  no_chain_passed = record {
    values = [];
    long = refl;
    taken_row = refl;
    near = omega arith;
    lengths_held = sym (over_none table.length);
    rows_held = sym (over_none rows₀);
  }

  module _ {k : ℕ} {lengths : List ℕ} {rows : Rows} {next : ℕ} (passed : ChainsPassed k lengths rows next) where
    -- one more
    pub chain_passed : (steps : List ℕ) (size : ℕ) (row : List ℕ) → size ≡ length steps → size ≤ 8
        → row ≡ padded 8 0 steps
        → {after : ℕ} → after ≡ next + 4 + 5 * size
        → chain_fields table image next ≡ gives (record { value = steps; next = after })
        → ChainsPassed (k + 1) (set lengths k size) (set rows k row) after
    chain_passed steps size row is few holds ends taken = record {
      values = passed.values ++ steps ∷ [];
      long = simp length-append (omega arith);
      taken_row = row_more (λ before. chain_fields table) image at k _ _ passed.taken_row taken;
      near = omega (arith, passed.near, ends);
      lengths_held = rw (is, passed.lengths_held)
          (held_more (λ chain. length chain) passed.values table.length k steps passed.long);
      rows_held = rw (holds, passed.rows_held)
          (held_more (λ chain. padded 8 0 chain) passed.values rows₀ k steps passed.long);
    }

    -- the next chain is refused
    pub chains_refused : (count after : ℕ) (refused : Refused) → k < count
        → chain_fields table image next ≡ refuses (number_of refused.refusal) refused.place
        → ChainsTaken image at table count after (Err refused) lengths rows₀ rows
    chains_refused count after refused more said = record {
      values = passed.values;
      said = sym (row_refused (λ before. chain_fields table) image at k count _ _ _ more passed.taken_row said);
      near = tt;
      lengths_held = passed.lengths_held;
      held = passed.rows_held;
    }

    -- all were taken
    pub chains_whole : (count : ℕ) → k ≡ count → ChainsTaken image at table count next (Ok tt) lengths rows₀ rows
    chains_whole count all = record {
      values = passed.values;
      said = rw (← all) (sym passed.taken_row);
      near = omega (arith, passed.near);
      lengths_held = passed.lengths_held;
      held = passed.rows_held;
    }
