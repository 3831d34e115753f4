-- A table is accepted exactly when it meets the rules. Assumes nothing.
use Prim.Native.Nat.{ℕ, ◌<◌}
use mathlib.Core.Path.{◌≡◌, ap, ◌∙◌}
use mathlib.Core.List.{List}
use lib.ListN.{get_or}
use Rattle.outcomes.specs.Outcome.{gives}
use Rattle.table.specs.Image.{Whole, read_image}
use Rattle.table.proofs.MeetsRules.{accepted_meets_rules}
use Rattle.writing.specs.Written.{ImageOfRight}
use Rattle.writing.proofs.ReadOfWritten.{read_of_written}
use Rattle.writing.proofs.WrittenOfRead.{accepted_used, written_of_read}

module _ (image : List ℕ) (whole : Whole) where
  pub only_right_accepted : ((k : ℕ) → get_or image k 0 < 256) → read_image image ≡ gives whole → ImageOfRight image whole
  only_right_accepted are_bytes e = record {
    written = written_of_read image whole e are_bytes;
    meets = accepted_meets_rules image whole e;
    used = accepted_used image whole e;
  }

  pub all_right_accepted : ImageOfRight image whole → read_image image ≡ gives whole
  all_right_accepted right =
      ap read_image right.written ∙ read_of_written whole right.meets ∙ ap gives right.used
