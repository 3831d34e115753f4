-- `image_parts::labels::read_label`: the writer and then the readers are taken, or a refusal is handed on.
-- Assumes nothing.
use Prim.Native.Nat.{◌+◌}
use mathlib.Core.Path.{◌≡◌, refl, sym, ap, ◌∙◌}
use native.Mathlib.Omega.{arith}
use borrow.Author.Tests.{ltb-true}
use lib.Dec.{ltb}
use Rattle.std.proofs.Common.{rules, true, Err}
use Rattle.table.specs.Image.{label_bits, label_fields}
use Rattle.taking.proofs.Checks.{field_checks}
use Rattle.fields.specs.TakenTo.{taken_as}
use Rattle.fields.proofs.Steps.{gives_to, step_on, step_off, range_is_below, by_test}
use Rattle.image_parts.specs.Parts.{label_of}
use Rattle.image_parts.proofs.labels.read_label.Goals as goal
use Rattle.image_parts.proofs.labels.read_label.Goals.{In_ok-writer}

writer_is_task : (c : In_ok-writer) → ltb c.in_ok-writer.writer c.args.tasks ≡ true
writer_is_task c = field_checks 5 6 _ _ _ _ (sym (by_test 5 6 _ _ (range_is_below _) c.in_ok-writer.ensures.taken))

pub returns-in_err-writer-clause-taken : goal.returns-in_err-writer-clause-taken
unfolding label_fields
returns-in_err-writer-clause-taken c =
    let handed : c.from_residual.result ≡ Err c.in_err-writer.field-0.0 = search rules in
    ap (taken_as label_of (c.args.reader.now.at + label_bits)) handed
    ∙ sym (step_off 5 6 (range_is_below _) refl refl _ c.in_err-writer.ensures.taken)

pub read_readers-requires : goal.read_readers-requires
read_readers-requires c = (
  omega (arith, c.in_ok-writer.ensures.on, c.requires.0),
  omega arith,
  ltb-true _ _ (writer_is_task (goal.at.read_readers-requires c).In_ok-writer),
)

pub returns-in_err-readers-clause-taken : goal.returns-in_err-readers-clause-taken
unfolding label_fields
returns-in_err-readers-clause-taken c =
    let handed : c.from_residual-in_err-readers.result ≡ Err c.in_err-readers.field-0.0 = search rules in
    ap (taken_as label_of (c.args.reader.now.at + label_bits)) handed
    ∙ sym
    (step_on 5 6 (range_is_below _) refl refl _ c.in_ok-writer.ensures.taken
    ∙ step_off 32 7 refl (ap (λ image. image.now) c.in_ok-writer.ensures.image)
    (omega (arith, c.in_ok-writer.ensures.on, c.requires.0)) _ c.in_err-readers.ensures.taken)

pub returns-clause-taken : goal.returns-clause-taken
unfolding label_fields
returns-clause-taken c =
    sym
    (step_on 5 6 (range_is_below _) refl refl _ c.in_ok-writer.ensures.taken
    ∙ step_on 32 7 refl (ap (λ image. image.now) c.in_ok-writer.ensures.image)
    (omega (arith, c.in_ok-writer.ensures.on, c.requires.0)) _ c.in_ok-readers.ensures.taken
    ∙ gives_to _ (omega arith))
