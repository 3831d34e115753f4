-- The whole image from its fields: refused by one of them, refused by its hyperperiod, or read; and what it shows. No
-- contract cites this file. Assumes nothing.
use Prim.Native.Nat.{ℕ}
use mathlib.Core.Path.{◌≡◌, refl, sym, ap}
use mathlib.Core.List.{List}
use lib.ListN.{replicate}
use borrow.Author.Tests.{le-leb, lt-leb}
use Rattle.std.specs.Option.{ok_or}
use Rattle.std.specs.Prelude.{Result, Option, Ok, Err, Some, None}
use Rattle.lists.specs.Lists.{padded}
use Rattle.outcomes.specs.Outcome.{gives, asked_of}
use Rattle.times.specs.Rounds.{within_limit, said_of_round}
use Rattle.times.proofs.Limit.{within_round, above_round}
use Rattle.taking.specs.Reading.{check}
use Rattle.table.specs.Refusals.{said_of}
use Rattle.table.specs.Table.{Rows, hyperperiod_of}
use Rattle.table.specs.Image.{table_of, rows_of, whole_fields, read_image}
use Rattle.table.specs.Shown.{answer_of, nothing, accepted_or, shown_of}
use Rattle.table.specs.declared.Refused.{Refused}
use Rattle.table.specs.declared.Refusal.TheVariants.{Hyperperiod}
use Rattle.table.specs.declared.Table.{Table}
use Rattle.fields.proofs.Steps.{not_taken}
use Rattle.all_fields.specs.FieldsRead.{HoldNothing, FieldsRead}
use Rattle.images.specs.Parts.{WholeRead}

module _ (image : List ℕ) {table : Table} {rows : Rows} where
  -- the whole image is refused where a field or the fill is
  pub refused_whole : {fields : Result (Unit {0}) Refused} {r : Result ℕ Refused} (refused : Refused)
      → FieldsRead image fields table rows → fields ≡ Err refused → r ≡ Err refused → WholeRead image r table rows
  unfolding read_image whole_fields
  refused_whole refused read told handed =
      rw handed (record { said = sym (rw (not_taken _ _ refused told read.said)); round = tt })

  -- the fields were taken: then the hyperperiod is within its limit, or 10
  pub whole_of_round : (round : Option ℕ) → FieldsRead image (Ok tt) table rows
      → said_of_round round ≡ within_limit (hyperperiod_of table)
      → WholeRead image (ok_or round (record { refusal = Hyperperiod; place = 0 })) table rows
  unfolding read_image whole_fields check
  whole_of_round (Some H) read said =
      let within = within_round _ H (sym said) in
      record { said = rw (← read.said, le-leb _ _ within.1); round = sym within.0 }
  whole_of_round None read said =
      record { said = sym (rw (← read.said, lt-leb _ _ (above_round _ (sym said)))); round = tt }

  -- a refused image shows nothing of its table
  pub nothing_shown : {refused : Refused} → WholeRead image (Err refused) table rows → shown_of image ≡ nothing
  unfolding shown_of accepted_or nothing
  nothing_shown whole = ap (accepted_or nothing) (sym whole.said)

  pub whole_shown : {round : ℕ} → WholeRead image (Ok round) table rows
      → shown_of image ≡ record { table = table; rows = rows }
  unfolding shown_of accepted_or
  whole_shown whole = ap (accepted_or nothing) (sym whole.said)

  -- the answer alone
  pub answer_shown : (r : Result ℕ Refused) → WholeRead image r table rows
      → asked_of (said_of r) (λ round. gives tt) ≡ answer_of image
  unfolding answer_of
  answer_shown (Ok round) whole = ap (λ outcome. asked_of outcome (λ whole. gives tt)) whole.said
  answer_shown (Err refused) whole = ap (λ outcome. asked_of outcome (λ whole. gives tt)) whole.said

-- arrays and rows of nothing but 0
pub nothing_held : {table : Table} → table ≡ nothing.table → HoldNothing table (replicate 16 (replicate 8 0))
unfolding nothing table_of rows_of padded
nothing_held is = record {
  no_core = ap (λ table. table.core) is;
  no_period = ap (λ table. table.period) is;
  no_writer = ap (λ table. table.writer) is;
  no_readers = ap (λ table. table.readers) is;
  no_length = ap (λ table. table.length) is;
  no_rows = refl;
}
