-- `image_arrays::read_arrays` meets its contract: what was read, or no count beside a refusal. Assumes nothing.
use mathlib.Core.Bool.{true, false}
use mathlib.Core.Path.{◌≡◌, refl}
use Rattle.std.specs.Result.{is_err}
use Rattle.std.proofs.Common.{rules}
use Rattle.lists.specs.Lists.{padded}
use Rattle.table.specs.Image.{rows_of, table_of}
use Rattle.table.specs.Shown.{nothing}
use Rattle.image_arrays.proofs.ArraysTaken.{arrays_shown, none_shown}
use Rattle.image_arrays.proofs.read_arrays.Goals as goal

pub read_into-answer-requires : goal.read_into-answer-requires
unfolding rows_of padded
read_into-answer-requires c = record {
  no_core = c.requires.no_core;
  no_period = c.requires.no_period;
  no_writer = c.requires.no_writer;
  no_readers = c.requires.no_readers;
  no_length = refl;
  no_rows = refl;
}

pub returns-then-is_err : goal.returns-then-is_err
unfolding nothing table_of
returns-then-is_err c =
    let refused : is_err c.read_into-answer.result ≡ true = search rules in
    none_shown _ _ _ refused c.read_into-answer.ensures refl

pub returns-else-is_err : goal.returns-else-is_err
returns-else-is_err c =
    let accepted : is_err c.read_into-answer.result ≡ false = search rules in
    arrays_shown _ _ accepted c.read_into-answer.ensures
