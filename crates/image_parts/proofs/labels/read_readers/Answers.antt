-- `image_parts::labels::read_readers`: each way out is one of the three ways that taking a field can go. Assumes nothing.
use mathlib.Core.Path.{◌≡◌, sym, ap, ◌∙◌}
use Rattle.std.proofs.Common.{rules, ◌+◌, Err}
use Rattle.taking.proofs.FieldLaws.{field_ends, field_right, field_wrong}
use Rattle.fields.specs.TakenTo.{taken_to}
use Rattle.image_parts.proofs.labels.read_readers.Goals as goal

pub returns-in_err-readers-clause-taken : goal.returns-in_err-readers-clause-taken
returns-in_err-readers-clause-taken c =
    let handed : c.from_residual.result ≡ Err c.in_err-readers.field-0.0 = search rules in
    ap (taken_to (c.args.reader.now.at + 32)) handed ∙ field_ends _ _ _ _ _ (sym c.in_err-readers.ensures.found)

pub returns-then-right_readers-clause-taken : goal.returns-then-right_readers-clause-taken
returns-then-right_readers-clause-taken c =
    field_right _ _ _ _ _ _ (sym c.in_ok-readers.ensures.found) (sym c.right_readers.ensures ∙ c.if-right_readers.true)

pub returns-else-right_readers-clause-taken : goal.returns-else-right_readers-clause-taken
returns-else-right_readers-clause-taken c =
    rw c.place-place.ensures
    (field_wrong _ _ _ _ _ _ (sym c.in_ok-readers.ensures.found) (sym c.right_readers.ensures ∙ c.if-right_readers.false))
