-- `body::labels::read_labels` meets its contract: a label is taken and stored, or its refusal is the row's. Assumes nothing.
use Prim.Native.Nat.{◌+◌, ◌*◌}
use mathlib.Core.Path.{◌≡◌, refl, sym, ap, ◌∙◌}
use native.Mathlib.Omega.{arith}
use lib.ListN.{set}
use Rattle.std.proofs.Common.{rules, Err}
use Rattle.table.specs.Image.{label_bits, label_fields}
use Rattle.fields.proofs.Steps.{gives_to}
use Rattle.body.specs.Parts.{with_labels}
use Rattle.body.proofs.ColumnsTaken.{at_place, passed_none, passed_more, row_read_refused}
use Rattle.body.proofs.labels.read_labels.Goals as goal
use Rattle.body.proofs.labels.read_labels.Goals.{In-loop-l}

-- the label is taken where the labels passed end
next_label : (c : In-loop-l) → label_fields c.args.table.now.tasks c.loop-l.reader.image.now c.loop-l.reader.at
    ≡ label_fields c.args.table.now.tasks c.args.reader.now.image.now (c.args.reader.now.at + label_bits * c.loop-l.l)
next_label c =
    at_place label_fields refl (ap (λ image. image.now) c.loop-l.invariant.image) c.loop-l.invariant.on

pub loop-l-init : goal.loop-l-init
loop-l-init c = record {
  passed = passed_none _ _ _ _ _ _ refl;
  rest = refl;
  on = omega arith;
  image = refl;
}

pub returns-in_err-label-clause-taken : goal.returns-in_err-label-clause-taken
returns-in_err-label-clause-taken c =
    let handed : c.from_residual.result ≡ Err c.in_err-label.field-0.0 = search rules in
    row_read_refused c.loop-l.invariant.passed c.in_err-label.field-0.0 (omega arith) handed
    (sym (next_label (goal.at.returns-in_err-label-clause-taken c).In-loop-l) ∙ sym c.in_err-label.ensures.taken)

pub loop-l-preserved : goal.loop-l-preserved
loop-l-preserved c = record {
  passed = passed_more c.loop-l.invariant.passed
      (sym (next_label (goal.at.loop-l-preserved c).In-loop-l) ∙ sym c.in_ok-label.ensures.taken
      ∙ gives_to _ (ap (λ place. place + label_bits) c.loop-l.invariant.on));
  rest = ap (λ table. with_labels table (set c.loop-l.table.writer c.loop-l.l c.in_ok-label.label.writer)
      (set c.loop-l.table.readers c.loop-l.l c.in_ok-label.label.readers)) c.loop-l.invariant.rest;
  on = omega (arith, c.in_ok-label.ensures.on, c.loop-l.invariant.on);
  image = c.in_ok-label.ensures.image ∙ c.loop-l.invariant.image;
}
