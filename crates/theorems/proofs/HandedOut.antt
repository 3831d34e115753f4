-- The third demand of the bytes that the listing's question gives for all cores. Assumes nothing.
use Prim.Native.Nat.{ℕ, ◌<◌}
use mathlib.Core.Path.{◌≡◌}
use mathlib.Core.List.{List}
use Rattle.outcomes.specs.Outcome.{gives}
use Rattle.table.specs.Image.{Whole, read_image}
use Rattle.copies.specs.Plans.{full_plan}
use Rattle.questions.specs.Questions.{listing}
use Rattle.questions.proofs.Given.{listing_given}
use Rattle.runs.specs.BytesPlan.{bytes_plan}
use Rattle.runs.specs.Runs.{Turns, values_read}
use Rattle.runs.proofs.ByBytes.{no_job_can_tell_by_bytes}

pub by_bytes_handed_out : (image : List ℕ) (whole : Whole) → read_image image ≡ gives whole
    → (bytes : ℕ → List ℕ) (room : ℕ → ℕ)
    → ((core : ℕ) → core < whole.table.cores → listing image core (room core) ≡ gives (bytes core))
    → (Value : Type 0) (initial : ℕ → Value) (turns : Turns Value) (n : ℕ)
    → values_read (bytes_plan whole.table.cores bytes) initial turns n
    ≡ values_read (full_plan whole.table) initial turns n
by_bytes_handed_out image whole accepted bytes room handed =
    no_job_can_tell_by_bytes image whole accepted bytes (λ core known.
    listing_given image whole core (room core) (bytes core) accepted (handed core known))
