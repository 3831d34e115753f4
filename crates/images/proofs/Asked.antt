-- A question that is asked of an image, by what reading the image showed: it is asked of the table, or the image's
-- refusal is handed on. No contract cites this file. Assumes nothing.
use Prim.Native.Nat.{ℕ}
use mathlib.Core.List.{List}
use mathlib.Core.Path.{◌≡◌, sym, ap, ◌∙◌}
use Rattle.std.specs.Prelude.{Ok, Err}
use Rattle.table.specs.Table.{Rows}
use Rattle.outcomes.specs.Outcome.{Outcome, gives, refuses, asked_of}
use Rattle.table.specs.Refusals.{number_of, said_of_image}
use Rattle.table.specs.Image.{Whole, read_image}
use Rattle.table.specs.Shown.{answer_of, nothing, accepted_or, shown_of}
use Rattle.images.specs.Parts.{WholeRead}
use Rattle.images.specs.TableShown.{TableShown}
use Rattle.table.specs.declared.Refused.{Refused}
use Rattle.table.specs.declared.Table.{Table}
use Rattle.images.specs.declared.TableRead.{TableRead}
use Rattle.outcomes.proofs.Outcomes.{refusal_handed_on, something_given}

module _ (image : List ℕ) (read : TableRead) (shown : TableShown image read) where
  -- the image is refused
  pub refused_image : {A : Type 0} {refused : Refused} → read.answer ≡ Err refused
      → (question : Whole → Outcome A)
      → asked_of (read_image image) question ≡ refuses (number_of refused.refusal) refused.place
  unfolding answer_of
  refused_image told question =
      refusal_handed_on (read_image image) question (sym shown.answer ∙ ap said_of_image told)

  -- the image is accepted, and its table was read
  pub shown_whole : read.answer ≡ Ok tt
      → (whole : Whole) × (read_image image ≡ gives whole) × (read.table ≡ whole.table)
  unfolding answer_of shown_of accepted_or
  shown_whole told =
      let (whole, given) = something_given (read_image image) (sym shown.answer ∙ ap said_of_image told) in
      (whole, given, shown.table ∙ ap (λ outcome. (accepted_or nothing outcome).table) given)

  -- the question is one of that table
  pub accepted_image : {A : Type 0} → read.answer ≡ Ok tt
      → (question : Table → Outcome A) → asked_of (read_image image) (λ whole. question whole.table)
      ≡ question read.table
  accepted_image told question =
      let (whole, given, is) = shown_whole told in
      rw given (ap question (sym is))

-- The same, where the table was read into what was lent.
module _ (image : List ℕ) {table : Table} {rows : Rows} where
  pub refused_whole_image : {A : Type 0} {refused : Refused} → WholeRead image (Err refused) table rows
      → (question : Whole → Outcome A)
      → asked_of (read_image image) question ≡ refuses (number_of refused.refusal) refused.place
  refused_whole_image whole question = rw (← whole.said)

  pub accepted_whole_image : {A : Type 0} {round : ℕ} → WholeRead image (Ok round) table rows
      → (question : Whole → Outcome A)
      → asked_of (read_image image) question ≡ question (record { table = table; rows = rows })
  accepted_whole_image whole question = rw (← whole.said)
