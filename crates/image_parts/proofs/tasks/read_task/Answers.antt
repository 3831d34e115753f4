-- `image_parts::tasks::read_task` meets its contract: the core and then the period are taken, or a refusal is handed on.
-- Assumes nothing.
use Prim.Native.Nat.{◌+◌}
use mathlib.Core.Path.{◌≡◌, refl, sym, ap, ◌∙◌}
use native.Mathlib.Omega.{arith}
use Rattle.std.proofs.Common.{rules, Err}
use Rattle.table.specs.Image.{task_bits, task_fields}
use Rattle.fields.specs.TakenTo.{taken_as}
use Rattle.fields.proofs.Steps.{gives_to, step_on, step_off, range_is_below, range_is_between}
use Rattle.image_parts.specs.Parts.{task_of}
use Rattle.image_parts.proofs.tasks.read_task.Goals as goal

pub returns-in_err-core-clause-taken : goal.returns-in_err-core-clause-taken
unfolding task_fields
returns-in_err-core-clause-taken c =
    let handed : c.from_residual.result ≡ Err c.in_err-core.field-0.0 = search rules in
    ap (taken_as task_of (c.args.reader.now.at + task_bits)) handed
    ∙ sym (step_off 3 4 (range_is_below _) refl refl _ c.in_err-core.ensures.taken)

pub returns-in_err-period-clause-taken : goal.returns-in_err-period-clause-taken
unfolding task_fields
returns-in_err-period-clause-taken c =
    let handed : c.from_residual-in_err-period.result ≡ Err c.in_err-period.field-0.0 = search rules in
    ap (taken_as task_of (c.args.reader.now.at + task_bits)) handed
    ∙ sym
    (step_on 3 4 (range_is_below _) refl refl _ c.in_ok-core.ensures.taken
    ∙ step_off 20 5 (range_is_between 1 1000000) (ap (λ image. image.now) c.in_ok-core.ensures.image) (omega (arith, c.in_ok-core.ensures.on, c.requires)) _ c.in_err-period.ensures.taken)

pub returns-clause-taken : goal.returns-clause-taken
unfolding task_fields
returns-clause-taken c =
    sym
    (step_on 3 4 (range_is_below _) refl refl _ c.in_ok-core.ensures.taken
    ∙ step_on 20 5 (range_is_between 1 1000000) (ap (λ image. image.now) c.in_ok-core.ensures.image) (omega (arith, c.in_ok-core.ensures.on, c.requires)) _ c.in_ok-period.ensures.taken
    ∙ gives_to _ (omega arith))
