-- `all_fields::endings::read_fill` meets its contract: each bit of the fill is 0 or refused, and then bytes follow or none.
-- Assumes nothing.
use Prim.Native.Nat.{ℕ, ◌+◌, ◌-◌, ◌<◌}
use mathlib.Core.Path.{◌≡◌, refl, sym, ap, ap₂, ◌∙◌}
use mathlib.Core.List.{List}
use native.Mathlib.Omega.{arith}
use lib.Dec.{eqb}
use lib.ListN.{length}
use Rattle.std.proofs.Common.{rules, Err}
use Rattle.outcomes.specs.Outcome.{refuses}
use Rattle.taking.specs.Reading.{field, fill_bits}
use Rattle.taking.proofs.Filling.{no_bit_passed, bit_passed, fill_refused, bytes_follow, nothing_follows_lem}
use Rattle.table.specs.Refusals.{said_of}
use Rattle.table.specs.Image.{fill}
use Rattle.fields.proofs.Steps.{gives_to, range_is_zero}
use Rattle.fields.specs.TakenTo.{in_range}
use Rattle.all_fields.proofs.endings.read_fill.Goals as goal

-- a bit of the fill, where the reader stands
bit_there : {image image' : List ℕ} {at at' : ℕ} → image' ≡ image → at' ≡ at
    → field 1 9 (λ bit. eqb bit 0) image at ≡ field 1 9 (in_range 0 1) image' at'
bit_there {image' = image'} {at' = at'} of_image of_place =
    sym (ap₂ (λ image at. field 1 9 (λ bit. eqb bit 0) image at) of_image of_place)
    ∙ ap (λ test. field 1 9 test image' at') (sym range_is_zero)

pub loop-init : goal.loop-init
loop-init c =
    let at = c.args.reader.now.at in
    let none : c.place-start.result - at ≡ 0 = omega arith in
    record {
      passed = rw none (no_bit_passed _ _ _);
      on = sym c.place-start.ensures;
      image = refl;
    }

pub returns-in_err-ranged : goal.returns-in_err-ranged
unfolding fill
returns-in_err-ranged c =
    let handed : c.from_residual.result ≡ Err c.in_err-ranged.field-0.0 = search rules in
    let passed = c.loop.invariant in
    let at = c.args.reader.now.at in
    let more : c.loop.counter - at < fill_bits at = omega arith in
    let place : c.loop.reader.at ≡ at + (c.loop.counter - at) = omega arith in
    ap said_of handed
    ∙ sym (rw (fill_refused _ _ _ passed.passed more
    (bit_there (ap (λ image. image.now) passed.image) place ∙ sym c.in_err-ranged.ensures.taken)))

pub loop-preserved : goal.loop-preserved
loop-preserved c =
    let passed = c.loop.invariant in
    let at = c.args.reader.now.at in
    let place : c.loop.reader.at ≡ at + (c.loop.counter - at) = omega arith in
    let next : c.loop.counter + 1 - at ≡ c.loop.counter - at + 1 = omega arith in
    record {
      passed = rw next (bit_passed _ _ _ passed.passed c.in_ok-ranged.field-0
          (bit_there (ap (λ image. image.now) passed.image) place ∙ sym c.in_ok-ranged.ensures.taken
          ∙ gives_to _ (ap (λ place. place + 1) place)));
      on = omega (arith, c.in_ok-ranged.ensures.on, passed.on);
      image = c.in_ok-ranged.ensures.image ∙ passed.image;
    }

pub returns-then-place-reader : goal.returns-then-place-reader
unfolding fill
returns-then-place-reader c =
    let passed = c.loop.invariant in
    let at = c.args.reader.now.at in
    let all : c.loop.counter - at ≡ fill_bits at = omega arith in
    let long : length c.loop.reader.image.now ≡ length c.args.reader.now.image.now =
    ap (λ image. length image.now) passed.image in
    let place : c.place-place.result ≡ at + (c.loop.counter - at) = omega arith in
    rw (bytes_follow 9 _ _ passed.passed all (omega arith)) (ap (λ place. refuses 9 place) place)

pub returns : goal.returns
unfolding fill
returns c =
    let passed = c.loop.invariant in
    let at = c.args.reader.now.at in
    let all : c.loop.counter - at ≡ fill_bits at = omega arith in
    let long : length c.loop.reader.image.now ≡ length c.args.reader.now.image.now =
    ap (λ image. length image.now) passed.image in
    rw (nothing_follows_lem 9 _ _ passed.passed all (omega arith))
