-- What is shown of an image that was read into a lent table. No contract cites this file. Assumes nothing.
use Prim.Native.Nat.{ℕ}
use mathlib.Core.Bool.{true, false}
use mathlib.Core.Path.{◌≡◌, sym, ap, ◌∙◌}
use mathlib.Core.List.{List}
use Rattle.std.specs.Prelude.{Result, Ok, Err}
use Rattle.std.specs.Result.{is_err}
use Rattle.lists.specs.Lists.{padded}
use Rattle.table.specs.Table.{Rows}
use Rattle.table.specs.Image.{table_of}
use Rattle.table.specs.Shown.{nothing}
use Rattle.table.specs.declared.Refused.{Refused}
use Rattle.table.specs.declared.Table.{Table}
use Rattle.body.specs.Parts.{head_in}
use Rattle.images.specs.Parts.{WholeRead}
use Rattle.images.proofs.WholeImage.{nothing_shown, whole_shown}
use Rattle.image_arrays.specs.ArraysShown.{NoArrays, ArraysShown}

-- arrays of nothing but 0
pub nothing_held : {table : Table} → table ≡ nothing.table → NoArrays table
unfolding nothing table_of padded
nothing_held is = record {
  no_core = ap (λ table. table.core) is;
  no_period = ap (λ table. table.period) is;
  no_writer = ap (λ table. table.writer) is;
  no_readers = ap (λ table. table.readers) is;
}

module _ (image : List ℕ) {table : Table} {rows : Rows} where
  pub arrays_shown : (r : Result ℕ Refused) → is_err r ≡ false → WholeRead image r table rows → ArraysShown image r table
  arrays_shown (Ok round) accepted whole = record {
    rows = rows;
    whole = whole;
    counts = ap (λ whole. head_in whole.table) (sym (whole_shown image whole));
  }
  arrays_shown (Err refused) accepted whole = absurd (cc)

  -- of a refused image, a table whose counts are 0
  pub none_shown : (r : Result ℕ Refused) (left : Table) → is_err r ≡ true → WholeRead image r table rows
      → head_in left ≡ head_in nothing.table → ArraysShown image r left
  none_shown (Ok round) left refused whole none = absurd (cc)
  none_shown (Err refusal) left refused whole none = record {
    rows = rows;
    whole = record { said = whole.said; round = tt };
    counts = none ∙ sym (ap (λ whole. head_in whole.table) (nothing_shown image whole));
  }
