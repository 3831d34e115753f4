-- The tests of a pair of tasks, by its counter and by its masks. Assumes nothing.
use Prim.Native.Nat.{ℕ, ◌<◌}
use mathlib.Core.Path.{◌≡◌, refl, ◌∙◌}
use mathlib.Core.Bool.{Bool, true, false, ◌&&◌, and-true, and-false}
use lib.ListN.{length, get_or}
use Rattle.lists.specs.Lists.{only_if}
use Rattle.table.specs.Table.{marks, reads}
use Rattle.table.specs.declared.Table.{Table}
use Rattle.table.specs.Image.{Whole}
use Rattle.table.specs.Rules.{MeetsRules}
use Rattle.gathering.specs.Pairs.{code_of}
use Rattle.gathering.specs.Counters.{writer_in, reader_in, counter_from}
use Rattle.gathering.proofs.Codes.{code_writer, code_reader, pair_counter, counter_writer, counter_reader}

-- one thing where a test holds, whichever thing it is
pub as_many : {A B : Type 0} (x : A) (y : B) (one other : Bool) → one ≡ other
    → length (only_if one x) ≡ length (only_if other y)
as_many x y one true is = rw is
as_many x y one false is = rw is

-- the order of the tests of a pair
pub arranged : (joins core tick point marked : Bool) → (joins ≡ true → tick ≡ point)
    → (((joins && core) && tick) && marked) ≡ (marked && ((core && joins) && point))
arranged true true tick point true same = and-true tick ∙ same refl
arranged true true tick point false same = and-false tick
arranged true false tick point true same = refl
arranged true false tick point false same = refl
arranged false true tick point true same = refl
arranged false true tick point false same = refl
arranged false false tick point true same = refl
arranged false false tick point false same = refl

-- the tasks of a pair, by its counter
module _ (whole : Whole) (rules : MeetsRules whole) (t : ℕ) where
  abbrev table : Table
  table = whole.table

  pub writer_of : (w r : ℕ) → w < 32 → r < 32 → writer_in (counter_from true table.period t (code_of w r)) ≡ w
  writer_of w r writes reads =
      rw (pair_counter w r writes reads, counter_writer) (code_writer w r writes reads)

  pub reader_of : (w r : ℕ) → w < 32 → r < 32 → reader_in (counter_from true table.period t (code_of w r)) ≡ r
  reader_of w r writes reads =
      rw (pair_counter w r writes reads, counter_reader) (code_reader w r writes reads)

  pub reader_known : (l r : ℕ) → l < table.labels → marks (get_or table.readers l 0) r ≡ true → r < table.tasks
  unfolding reads
  reader_known l r known marked = (rules.reader l r known marked).0
