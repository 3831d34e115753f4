-- `chains::read_chain`: the length and then the steps are taken, or a refusal is handed on. Assumes nothing.
use Prim.Native.Nat.{ℕ, ◌+◌, ◌≤◌}
use mathlib.Core.Path.{◌≡◌, refl, sym, ap, ◌∙◌}
use mathlib.Core.List.{List, []}
use native.Mathlib.Omega.{arith}
use Rattle.std.proofs.Common.{rules, Err}
use Rattle.outcomes.specs.Outcome.{gives}
use Rattle.taking.specs.Reading.{field}
use Rattle.fields.specs.TakenTo.{in_range}
use Rattle.table.specs.Image.{chain_fields}
use Rattle.taking.proofs.Checks.{checks_nothing, field_checks, row_checks}
use Rattle.table.proofs.Ranges.{between_bounds}
use Rattle.fields.proofs.Steps.{step_on, step_off, gives_to, range_is_between}
use Rattle.chains.proofs.read_chain.Goals as goal

length_few : (image : List ℕ) (at : ℕ) {x next : ℕ} → gives (record { value = x; next = next }) ≡ field 4 8 (in_range 2 9) image at
    → x ≤ 8
length_few image at said =
    (between_bounds 2 8 _ (field_checks 4 8 _ image at _
    (ap (λ test. field 4 8 test image at) (sym (range_is_between 2 8)) ∙ sym said))).1

pub returns-in_err-length-clause-taken : goal.returns-in_err-length-clause-taken
unfolding chain_fields
returns-in_err-length-clause-taken c table searched =
    let handed : c.from_residual.result ≡ Err c.in_err-length.field-0.0 = search rules in
    rw handed (record {
      steps = [];
      said = sym (step_off 4 8 (range_is_between 2 8) refl refl _ c.in_err-length.ensures.taken);
      holds = tt;
    })

pub read_steps-requires : goal.read_steps-requires
read_steps-requires c =
    (omega (arith, c.in_ok-length.ensures.on, c.requires.0), length_few _ _ c.in_ok-length.ensures.taken, c.requires.1)

pub returns-in_err-row-clause-taken : goal.returns-in_err-row-clause-taken
unfolding chain_fields
returns-in_err-row-clause-taken c table searched =
    let handed : c.from_residual-in_err-row.result ≡ Err c.in_err-row.field-0.0 = search rules in
    let of_image = ap (λ image. image.now) c.in_ok-length.ensures.image in
    let on : c.ranged.new.reader.at ≡ c.args.reader.now.at + 4 = omega (arith, c.in_ok-length.ensures.on, c.requires.0) in
    let steps = c.in_err-row.ensures.taken table searched in
    rw handed (record {
      steps = steps.steps;
      said = steps.said ∙ rw (of_image, on) (sym (step_on 4 8 (range_is_between 2 8) refl refl _ c.in_ok-length.ensures.taken));
      holds = tt;
    })

pub returns-clause-taken : goal.returns-clause-taken
unfolding chain_fields
returns-clause-taken c table searched =
    let of_image = ap (λ image. image.now) c.in_ok-length.ensures.image in
    let on : c.ranged.new.reader.at ≡ c.args.reader.now.at + 4 = omega (arith, c.in_ok-length.ensures.on, c.requires.0) in
    let steps = c.in_ok-row.ensures.taken table searched in
    record {
      steps = steps.steps;
      said = gives_to _ c.in_ok-row.ensures.on ∙ steps.said
          ∙ rw (of_image, on) (sym (step_on 4 8 (range_is_between 2 8) refl refl _ c.in_ok-length.ensures.taken));
      holds = record {
        long = sym (row_checks (λ task. Unit {0}) _ (λ before. checks_nothing _) _ _ _ _ (sym steps.said)).0;
        few = length_few _ _ c.in_ok-length.ensures.taken;
        held = steps.held;
      };
    }
