-- `fields::ranged`: each way out is one of the three ways that taking a field can go. Assumes nothing.
use mathlib.Core.Path.{◌≡◌, sym, ap, ◌∙◌}
use Rattle.std.proofs.Common.{rules, ◌+◌, min, Err}
use Rattle.taking.proofs.FieldLaws.{field_ends, field_right, field_wrong}
use Rattle.fields.specs.TakenTo.{taken_to}
use Rattle.fields.proofs.Steps.{range_test}
use Rattle.fields.proofs.ranged.Goals as goal

pub returns-in_err-value-clause-taken : goal.returns-in_err-value-clause-taken
returns-in_err-value-clause-taken c =
    let handed : c.from_residual.result ≡ Err c.in_err-value.field-0.0 = search rules in
    ap (taken_to (c.args.reader.now.at + min c.args.width 32)) handed ∙ field_ends _ _ _ _ _ (sym c.in_err-value.ensures.found)

pub returns-then-contains-clause-taken : goal.returns-then-contains-clause-taken
returns-then-contains-clause-taken c =
    field_right _ _ _ _ _ _ (sym c.in_ok-value.ensures.found)
    (sym (range_test c.args.range.start c.in_ok-value.value c.args.range.end) ∙ sym c.contains.ensures.value ∙ c.if-contains.true)

pub returns-else-contains-clause-taken : goal.returns-else-contains-clause-taken
returns-else-contains-clause-taken c =
    rw c.place-place.ensures
    (field_wrong _ _ _ _ _ _ (sym c.in_ok-value.ensures.found)
    (sym (range_test c.args.range.start c.in_ok-value.value c.args.range.end) ∙ sym c.contains.ensures.value ∙ c.if-contains.false))
