-- `body::tasks::read_tasks` meets its contract: a task is taken and stored, or its refusal is the row's. Assumes nothing.
use Prim.Native.Nat.{◌+◌, ◌*◌}
use mathlib.Core.Path.{◌≡◌, refl, sym, ap, ◌∙◌}
use native.Mathlib.Omega.{arith}
use lib.ListN.{set}
use Rattle.std.proofs.Common.{rules, Err}
use Rattle.table.specs.Image.{task_bits, task_fields}
use Rattle.fields.proofs.Steps.{gives_to}
use Rattle.body.specs.Parts.{with_tasks}
use Rattle.body.proofs.ColumnsTaken.{at_place, passed_none, passed_more, row_read_refused}
use Rattle.body.proofs.tasks.read_tasks.Goals as goal
use Rattle.body.proofs.tasks.read_tasks.Goals.{In-loop-i}

-- the task is taken where the tasks passed end
next_task : (c : In-loop-i) → task_fields c.loop-i.table.cores c.loop-i.reader.image.now c.loop-i.reader.at
    ≡ task_fields c.args.table.now.cores c.args.reader.now.image.now (c.args.reader.now.at + task_bits * c.loop-i.i)
next_task c =
    at_place task_fields (ap (λ table. table.cores) c.loop-i.invariant.rest)
    (ap (λ image. image.now) c.loop-i.invariant.image) c.loop-i.invariant.on

pub loop-i-init : goal.loop-i-init
loop-i-init c = record {
  passed = passed_none _ _ _ _ _ _ refl;
  rest = refl;
  on = omega arith;
  image = refl;
}

pub returns-in_err-task-clause-taken : goal.returns-in_err-task-clause-taken
returns-in_err-task-clause-taken c =
    let handed : c.from_residual.result ≡ Err c.in_err-task.field-0.0 = search rules in
    row_read_refused c.loop-i.invariant.passed c.in_err-task.field-0.0 (omega arith) handed
    (sym (next_task (goal.at.returns-in_err-task-clause-taken c).In-loop-i) ∙ sym c.in_err-task.ensures.taken)

pub loop-i-preserved : goal.loop-i-preserved
loop-i-preserved c = record {
  passed = passed_more c.loop-i.invariant.passed
      (sym (next_task (goal.at.loop-i-preserved c).In-loop-i) ∙ sym c.in_ok-task.ensures.taken
      ∙ gives_to _ (ap (λ place. place + task_bits) c.loop-i.invariant.on));
  rest = ap (λ table. with_tasks table (set c.loop-i.table.core c.loop-i.i c.in_ok-task.task.core)
      (set c.loop-i.table.period c.loop-i.i c.in_ok-task.task.period)) c.loop-i.invariant.rest;
  on = omega (arith, c.in_ok-task.ensures.on, c.loop-i.invariant.on);
  image = c.in_ok-task.ensures.image ∙ c.loop-i.invariant.image;
}
