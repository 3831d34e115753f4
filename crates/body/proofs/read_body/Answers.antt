-- `body::read_body` meets its contract: head, tasks and labels are taken in turn, or a refusal is handed on. Assumes
-- nothing.
use mathlib.Core.Path.{◌≡◌, refl, sym, ap, ◌∙◌}
use native.Mathlib.Omega.{arith}
use Rattle.std.proofs.Common.{rules, Err}
use Rattle.table.proofs.FieldRules.{head_counts}
use Rattle.body.proofs.InTurn.{head_refused, of_tasks, tasks_refused, labels_refused, body_read, body_refused}
use Rattle.body.proofs.read_body.Goals as goal

pub returns-in_err-head-clause-read : goal.returns-in_err-head-clause-read
returns-in_err-head-clause-read c =
    let handed : c.from_residual.result ≡ Err c.in_err-head.field-0.0 = search rules in
    body_refused _ _ _ _ c.in_err-head.field-0.0 handed (head_refused _ (sym c.in_err-head.ensures))

-- the counts of the head that was taken are small
pub read_tasks-requires : goal.read_tasks-requires
read_tasks-requires c =
    let few = head_counts _ _ _ (sym c.in_ok-head.ensures) in
    (omega (arith, c.new-reader.ensures.1), few.cores.1, few.tasks.1)

pub returns-in_err-read_tasks-clause-read : goal.returns-in_err-read_tasks-clause-read
returns-in_err-read_tasks-clause-read c =
    let handed : c.from_residual-in_err-read_tasks.result ≡ Err c.in_err-read_tasks.field-0.0 = search rules in
    body_refused _ _ _ _ c.in_err-read_tasks.field-0.0 handed
    (tasks_refused _ c.args.table.now _ (sym c.in_ok-head.ensures) (ap (λ image. image.now) c.new-reader.ensures.0)
    c.new-reader.ensures.1 c.in_err-read_tasks.ensures.taken _ refl)

pub read_labels-requires : goal.read_labels-requires
read_labels-requires c =
    let few = head_counts _ _ _ (sym c.in_ok-head.ensures) in
    let tasks = ap (λ table. table.tasks) c.in_ok-read_tasks.ensures.rest in
    let labels = ap (λ table. table.labels) c.in_ok-read_tasks.ensures.rest in (
      omega (arith, few.tasks.1, c.new-reader.ensures.1, c.in_ok-read_tasks.ensures.on),
      rw tasks few.tasks.1,
      rw labels few.labels.1,
    )

pub returns-in_err-read_labels-clause-read : goal.returns-in_err-read_labels-clause-read
returns-in_err-read_labels-clause-read c =
    let handed : c.from_residual-in_err-read_labels.result ≡ Err c.in_err-read_labels.field-0.0 = search rules in
    let of_head = sym c.in_ok-head.ensures in
    let same = ap (λ image. image.now) c.new-reader.ensures.0 in
    let tasks = of_tasks _ c.args.table.now _ of_head same c.new-reader.ensures.1 c.in_ok-read_tasks.ensures.taken in
    body_refused _ _ _ _ c.in_err-read_labels.field-0.0 handed
    (labels_refused _ c.args.table.now _ of_head tasks (ap (λ image. image.now) c.in_ok-read_tasks.ensures.image ∙ same)
    (omega (arith, c.new-reader.ensures.1, c.in_ok-read_tasks.ensures.on)) c.in_ok-read_tasks.ensures.rest
    c.in_err-read_labels.ensures.taken _ refl)

pub returns-clause-read : goal.returns-clause-read
returns-clause-read c =
    let of_head = sym c.in_ok-head.ensures in
    let same = ap (λ image. image.now) c.new-reader.ensures.0 in
    let tasks = of_tasks _ c.args.table.now _ of_head same c.new-reader.ensures.1 c.in_ok-read_tasks.ensures.taken in
    body_read _ c.args.table.now _ of_head tasks (ap (λ image. image.now) c.in_ok-read_tasks.ensures.image ∙ same)
    (omega (arith, c.new-reader.ensures.1, c.in_ok-read_tasks.ensures.on)) c.in_ok-read_tasks.ensures.rest
    c.in_ok-read_labels.ensures.taken c.read_labels.new.reader refl refl c.in_ok-read_labels.ensures.rest
