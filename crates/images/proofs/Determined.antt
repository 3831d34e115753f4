-- What reading an image shows is determined. Assumes nothing.
use Prim.Native.Nat.{ℕ}
use mathlib.Core.Path.{◌≡◌, sym, ap, ◌∙◌}
use mathlib.Core.List.{List}
use Rattle.std.specs.Prelude.{Result, Ok, Err}
use Rattle.outcomes.specs.Outcome.{Outcome, gives, refuses}
use Rattle.outcomes.proofs.Outcomes.{same_given, gives_no_refusal}
use Rattle.table.specs.Refusals.{said_of, said_of_image}
use Rattle.table.specs.Shown.{answer_of, shown_of}
use Rattle.table.specs.Table.{Rows, hyperperiod_of}
use Rattle.table.specs.declared.Refused.{Refused}
use Rattle.table.specs.declared.Table.{Table}
use Rattle.table.proofs.Refusals.{same_answer}
use Rattle.images.specs.Parts.{WholeRead}
use Rattle.images.specs.declared.TableRead.{TableRead}

-- the answer, each field of the table and each entry of the rows
pub image_determined : (image : List ℕ) (a b : TableRead) (rows_a rows_b : Rows)
    → said_of_image a.answer ≡ answer_of image → a.table ≡ (shown_of image).table → rows_a ≡ (shown_of image).rows
    → said_of_image b.answer ≡ answer_of image → b.table ≡ (shown_of image).table → rows_b ≡ (shown_of image).rows
    → (a.answer ≡ b.answer) × (a.table ≡ b.table) × (rows_a ≡ rows_b)
image_determined image a b rows_a rows_b of_a table_a left_a of_b table_b left_b =
    (same_answer a.answer b.answer (of_a ∙ sym of_b), table_a ∙ sym table_b, left_a ∙ sym left_b)

-- Read into lent arrays: the answer and, where the image is accepted, each field of the table and each entry of the rows.
module _ (image : List ℕ) {table_a table_b : Table} {rows_a rows_b : Rows} where
  pub whole_determined : (a b : Result ℕ Refused) → WholeRead image a table_a rows_a → WholeRead image b table_b rows_b
      → said_of a ≡ said_of b
  whole_determined (Ok s) (Ok t) of_a of_b =
      let same : table_a ≡ table_b = ap (λ whole. whole.table) (same_given (of_a.said ∙ sym of_b.said)) in
      ap gives (of_a.round ∙ ap hyperperiod_of same ∙ sym of_b.round)
  whole_determined (Ok s) (Err refused) of_a of_b = absurd (gives_no_refusal (of_a.said ∙ sym of_b.said))
  whole_determined (Err refused) (Ok t) of_a of_b = absurd (gives_no_refusal (of_b.said ∙ sym of_a.said))
  whole_determined (Err r) (Err s) of_a of_b = refusal (of_a.said ∙ sym of_b.said)
    where
      refusal : {A B : Type 0} {n p m q : ℕ} → ◌≡◌ {A = Outcome A} (refuses n p) (refuses m q)
          → ◌≡◌ {A = Outcome B} (refuses n p) (refuses m q)
      refusal e = cc

  pub table_determined : (s t : ℕ) → WholeRead image (Ok s) table_a rows_a → WholeRead image (Ok t) table_b rows_b
      → (table_a ≡ table_b) × (rows_a ≡ rows_b)
  table_determined s t of_a of_b =
      let same = same_given (of_a.said ∙ sym of_b.said) in
      (ap (λ whole. whole.table) same, ap (λ whole. whole.rows) same)
