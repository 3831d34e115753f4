-- `image_parts::heads::read_head` meets its contract: each field in turn is taken, or its refusal is handed on.
-- Assumes nothing.
use Prim.Native.Nat.{ℕ}
use mathlib.Core.Path.{◌≡◌, sym, ap, ◌∙◌}
use native.Mathlib.Omega.{arith}
use lib.Dec.{eqb}
use Rattle.std.proofs.Common.{rules, Err}
use Rattle.outcomes.specs.Outcome.{Outcome, asked_of}
use Rattle.taking.specs.Reading.{Taken, field}
use Rattle.table.specs.Image.{Head, between, head_bits, head_fields}
use Rattle.fields.specs.TakenTo.{taken_as}
use Rattle.fields.proofs.Steps.{step_on, step_off, range_is_one, range_is_between}
use Rattle.image_parts.specs.Parts.{head_of}
use Rattle.image_parts.proofs.heads.read_head.Goals as goal
use Rattle.image_parts.proofs.heads.read_head.Goals.{In_ok-_version, In_ok-cores, In_ok-tasks, In_ok-labels, In_ok-chains}

-- each field that is taken, whatever follows it
version_on : (c : In_ok-_version) (rest : Taken ℕ → Outcome (Taken Head))
    → asked_of (field 4 2 (λ version. eqb version 1) c.args.image.now 0) rest ≡ rest (record { value = c.in_ok-_version._version; next = 4 })
version_on c rest =
    step_on 4 2 range_is_one (ap (λ image. image.now) c.new-reader.ensures.0)
    (omega (arith, c.new-reader.ensures.1)) rest c.in_ok-_version.ensures.taken

cores_on : (c : In_ok-cores) (rest : Taken ℕ → Outcome (Taken Head))
    → asked_of (field 4 3 (between 1 8) c.args.image.now 4) rest ≡ rest (record { value = c.in_ok-cores.cores; next = 8 })
cores_on c rest =
    step_on 4 3 (range_is_between 1 8) (ap (λ image. image.now) c.in_ok-_version.ensures.image ∙ ap (λ image. image.now) c.new-reader.ensures.0)
    (omega (arith, c.new-reader.ensures.1, c.in_ok-_version.ensures.on)) rest c.in_ok-cores.ensures.taken

tasks_on : (c : In_ok-tasks) (rest : Taken ℕ → Outcome (Taken Head))
    → asked_of (field 6 3 (between 1 32) c.args.image.now 8) rest ≡ rest (record { value = c.in_ok-tasks.tasks; next = 14 })
tasks_on c rest =
    step_on 6 3 (range_is_between 1 32) (ap (λ image. image.now) c.in_ok-cores.ensures.image ∙ ap (λ image. image.now) c.in_ok-_version.ensures.image ∙ ap (λ image. image.now) c.new-reader.ensures.0)
    (omega (arith, c.new-reader.ensures.1, c.in_ok-_version.ensures.on, c.in_ok-cores.ensures.on)) rest c.in_ok-tasks.ensures.taken

labels_on : (c : In_ok-labels) (rest : Taken ℕ → Outcome (Taken Head))
    → asked_of (field 7 3 (between 0 64) c.args.image.now 14) rest ≡ rest (record { value = c.in_ok-labels.labels; next = 21 })
labels_on c rest =
    step_on 7 3 (range_is_between 0 64) (ap (λ image. image.now) c.in_ok-tasks.ensures.image ∙ ap (λ image. image.now) c.in_ok-cores.ensures.image ∙ ap (λ image. image.now) c.in_ok-_version.ensures.image ∙ ap (λ image. image.now) c.new-reader.ensures.0)
    (omega (arith, c.new-reader.ensures.1, c.in_ok-_version.ensures.on, c.in_ok-cores.ensures.on, c.in_ok-tasks.ensures.on)) rest c.in_ok-labels.ensures.taken

chains_on : (c : In_ok-chains) (rest : Taken ℕ → Outcome (Taken Head))
    → asked_of (field 5 3 (between 0 16) c.args.image.now 21) rest ≡ rest (record { value = c.in_ok-chains.chains; next = 26 })
chains_on c rest =
    step_on 5 3 (range_is_between 0 16) (ap (λ image. image.now) c.in_ok-labels.ensures.image ∙ ap (λ image. image.now) c.in_ok-tasks.ensures.image ∙ ap (λ image. image.now) c.in_ok-cores.ensures.image ∙ ap (λ image. image.now) c.in_ok-_version.ensures.image ∙ ap (λ image. image.now) c.new-reader.ensures.0)
    (omega (arith, c.new-reader.ensures.1, c.in_ok-_version.ensures.on, c.in_ok-cores.ensures.on, c.in_ok-tasks.ensures.on, c.in_ok-labels.ensures.on)) rest c.in_ok-chains.ensures.taken

pub returns-in_err-_version : goal.returns-in_err-_version
unfolding head_fields
returns-in_err-_version c =
    let handed : c.from_residual.result ≡ Err c.in_err-_version.field-0.0 = search rules in
    ap (taken_as head_of head_bits) handed
    ∙ sym
    (step_off 4 2 range_is_one (ap (λ image. image.now) c.new-reader.ensures.0)
    (omega (arith, c.new-reader.ensures.1)) _ c.in_err-_version.ensures.taken)

pub returns-in_err-cores : goal.returns-in_err-cores
unfolding head_fields
returns-in_err-cores c =
    let handed : c.from_residual-in_err-cores.result ≡ Err c.in_err-cores.field-0.0 = search rules in
    let at = goal.at.returns-in_err-cores c in
    ap (taken_as head_of head_bits) handed
    ∙ sym
    (version_on at.In_ok-_version _
    ∙ step_off 4 3 (range_is_between 1 8) (ap (λ image. image.now) c.in_ok-_version.ensures.image ∙ ap (λ image. image.now) c.new-reader.ensures.0)
    (omega (arith, c.new-reader.ensures.1, c.in_ok-_version.ensures.on)) _ c.in_err-cores.ensures.taken)

pub returns-in_err-tasks : goal.returns-in_err-tasks
unfolding head_fields
returns-in_err-tasks c =
    let handed : c.from_residual-in_err-tasks.result ≡ Err c.in_err-tasks.field-0.0 = search rules in
    let at = goal.at.returns-in_err-tasks c in
    ap (taken_as head_of head_bits) handed
    ∙ sym
    (version_on at.In_ok-_version _
    ∙ cores_on at.In_ok-cores _
    ∙ step_off 6 3 (range_is_between 1 32) (ap (λ image. image.now) c.in_ok-cores.ensures.image ∙ ap (λ image. image.now) c.in_ok-_version.ensures.image ∙ ap (λ image. image.now) c.new-reader.ensures.0)
    (omega (arith, c.new-reader.ensures.1, c.in_ok-_version.ensures.on, c.in_ok-cores.ensures.on)) _ c.in_err-tasks.ensures.taken)

pub returns-in_err-labels : goal.returns-in_err-labels
unfolding head_fields
returns-in_err-labels c =
    let handed : c.from_residual-in_err-labels.result ≡ Err c.in_err-labels.field-0.0 = search rules in
    let at = goal.at.returns-in_err-labels c in
    ap (taken_as head_of head_bits) handed
    ∙ sym
    (version_on at.In_ok-_version _
    ∙ cores_on at.In_ok-cores _
    ∙ tasks_on at.In_ok-tasks _
    ∙ step_off 7 3 (range_is_between 0 64) (ap (λ image. image.now) c.in_ok-tasks.ensures.image ∙ ap (λ image. image.now) c.in_ok-cores.ensures.image ∙ ap (λ image. image.now) c.in_ok-_version.ensures.image ∙ ap (λ image. image.now) c.new-reader.ensures.0)
    (omega (arith, c.new-reader.ensures.1, c.in_ok-_version.ensures.on, c.in_ok-cores.ensures.on, c.in_ok-tasks.ensures.on)) _ c.in_err-labels.ensures.taken)

pub returns-in_err-chains : goal.returns-in_err-chains
unfolding head_fields
returns-in_err-chains c =
    let handed : c.from_residual-in_err-chains.result ≡ Err c.in_err-chains.field-0.0 = search rules in
    let at = goal.at.returns-in_err-chains c in
    ap (taken_as head_of head_bits) handed
    ∙ sym
    (version_on at.In_ok-_version _
    ∙ cores_on at.In_ok-cores _
    ∙ tasks_on at.In_ok-tasks _
    ∙ labels_on at.In_ok-labels _
    ∙ step_off 5 3 (range_is_between 0 16) (ap (λ image. image.now) c.in_ok-labels.ensures.image ∙ ap (λ image. image.now) c.in_ok-tasks.ensures.image ∙ ap (λ image. image.now) c.in_ok-cores.ensures.image ∙ ap (λ image. image.now) c.in_ok-_version.ensures.image ∙ ap (λ image. image.now) c.new-reader.ensures.0)
    (omega (arith, c.new-reader.ensures.1, c.in_ok-_version.ensures.on, c.in_ok-cores.ensures.on, c.in_ok-tasks.ensures.on, c.in_ok-labels.ensures.on)) _ c.in_err-chains.ensures.taken)

pub returns : goal.returns
unfolding head_fields
returns c =
    let at = goal.at.returns c in
    sym
    (version_on at.In_ok-_version _
    ∙ cores_on at.In_ok-cores _
    ∙ tasks_on at.In_ok-tasks _
    ∙ labels_on at.In_ok-labels _
    ∙ chains_on at.In_ok-chains _)
