-- `chain_steps::read_steps`: of each step, that it was taken, that its label was found or that none is left; all in
-- each table of which the search is given this. Assumes nothing.
use Prim.Native.Nat.{ℕ, ◌+◌, ◌*◌, ◌<◌}
use mathlib.Core.Path.{◌≡◌, refl, sym, ap, ◌∙◌}
use mathlib.Core.List.{List}
use native.Mathlib.Omega.{arith}
use lib.Dec.{ltb}
use lib.ListN.{length, set, length-set}
use Rattle.std.proofs.Common.{rules, Err}
use Rattle.lists.specs.Lists.{padded}
use Rattle.outcomes.specs.Outcome.{gives}
use Rattle.taking.specs.Reading.{field}
use Rattle.taking.proofs.Checks.{field_narrow}
use Rattle.chain_steps.specs.Linked.{counted}
use Rattle.fields.specs.TakenTo.{in_range}
use Rattle.fields.proofs.Steps.{range_is_below}
use Rattle.chain_steps.proofs.ChainSteps.{none_passed}
use Rattle.chain_steps.proofs.StepSearch.{last_of, last_stays, last_stored, begun, gone_on, number_refused}
use Rattle.chain_steps.proofs.StepSearch.{first_passed, step_joined, step_unjoined}
use Rattle.chain_steps.proofs.read_steps.Goals as goal

-- the next number, which starts where the reader stands
number_is : {image image' : List ℕ} {at place : ℕ} (tasks : ℕ) → image' ≡ image → place ≡ at
    → field 5 8 (λ v. ltb v tasks) image at ≡ field 5 8 (in_range 0 tasks) image' place
number_is {image} {at = at} tasks same_image same_place =
    ap (λ test. field 5 8 test image at) (sym (range_is_below tasks)) ∙ rw (same_image, same_place)

-- what it leaves to the next step
module _ {image image' : List ℕ} {at place : ℕ} (tasks : ℕ) (same_image : image' ≡ image) (same_place : place ≡ at) {x : ℕ}
    (said : gives (record { value = x; next = place + 5 }) ≡ field 5 8 (in_range 0 tasks) image' place) where
  number_taken : field 5 8 (λ v. ltb v tasks) image at ≡ gives (record { value = x; next = at + 5 })
  number_taken = number_is tasks same_image same_place ∙ sym said ∙ rw same_place

  next_few : (row : List ℕ) (j : ℕ) → length row ≡ 8 → j < 8 → last_of (set row j x) (j + 1) < 32
  next_few row j long room =
      rw (last_stored row j x (omega arith)) (field_narrow 5 8 (λ v. ltb v tasks) image at _ number_taken)

pub steps-init : goal.steps-init
unfolding padded
steps-init c = (refl, omega arith, refl, omega arith, λ table searched. none_passed _ _ _ _)

pub returns-in_err-task-clause-taken : goal.returns-in_err-task-clause-taken
returns-in_err-task-clause-taken c =
    let handed : c.from_residual.result ≡ Err c.in_err-task.field-0.0 = search rules in
    rw handed (number_refused c.steps.invariant.4 _ (omega arith) _
    (number_is _ (ap (λ image. image.now) c.steps.invariant.0) c.steps.invariant.1 ∙ sym c.in_err-task.ensures.taken))

pub steps-preserved-then-j-eq0 : goal.steps-preserved-then-j-eq0
steps-preserved-then-j-eq0 c =
    let (same_image, at, long, few, passed) = c.steps.invariant in
    let of_image = ap (λ image. image.now) same_image in
    let said = c.in_ok-task.ensures.taken in (
      c.in_ok-task.ensures.image ∙ same_image,
      omega (arith, c.in_ok-task.ensures.on, c.requires.0),
      length-set _ _ _ ∙ long,
      next_few _ of_image at said _ _ long (omega arith),
      first_passed passed (omega arith) long (number_taken _ of_image at said) (omega arith),
    )

-- the earlier task is one of the 32
pub bounds-links-row : goal.bounds-links-row
bounds-links-row c = rw (last_stays c.steps.row c.steps.j c.in_ok-task.task (omega arith)) c.steps.invariant.3

-- where the search begins is a label of the arrays, and where it goes on is one before
pub loop-label-init : goal.loop-label-init
loop-label-init c =
    let known : last_of (set c.steps.row c.steps.j c.in_ok-task.task) c.steps.j < 32 =
    rw (last_stays c.steps.row c.steps.j c.in_ok-task.task (omega arith)) c.steps.invariant.3 in
    (c.requires.2.begins _ known, begun known)

pub steps-preserved : goal.steps-preserved
steps-preserved c =
    let (same_image, at, long, few, passed) = c.steps.invariant in
    let of_image = ap (λ image. image.now) same_image in
    let said = c.in_ok-task.ensures.taken in (
      c.in_ok-task.ensures.image ∙ same_image,
      omega (arith, c.in_ok-task.ensures.on, c.requires.0),
      length-set _ _ _ ∙ long,
      next_few _ of_image at said _ _ long (omega arith),
      step_joined passed (omega arith) long (number_taken _ of_image at said) (omega arith) c.loop-label.invariant.1 _
          c.in-Some.is (rw (← c.from-in-Some.ensures, ← c.from-in-Some-2.ensures) (sym c.marked.ensures ∙ c.if-marked.true)),
    )

pub loop-label-preserved : goal.loop-label-preserved
loop-label-preserved c =
    let known : last_of (set c.steps.row c.steps.j c.in_ok-task.task) c.steps.j < 32 =
    rw (last_stays c.steps.row c.steps.j c.in_ok-task.task (omega arith)) c.steps.invariant.3 in
    let met = ap counted c.in-Some.is in
    let falls = c.requires.2.falls c.in-Some.l (omega (arith, met, c.loop-label.invariant.0)) in (
      omega (arith, met, falls, c.loop-label.invariant.0),
      rw c.from.ensures (gone_on known _ c.in-Some.is c.loop-label.invariant.1
          (rw (← c.from-in-Some.ensures, ← c.from-in-Some-2.ensures) (sym c.marked.ensures ∙ c.if-marked.false))),
    )

pub returns-in-steps-clause-taken : goal.returns-in-steps-clause-taken
returns-in-steps-clause-taken c =
    let (same_image, at, long, few, passed) = c.steps.invariant in
    let place : c.place-place.result ≡ c.args.reader.now.at + 5 * c.steps.j = c.place-place.ensures ∙ at in
    rw place
    (step_unjoined passed (omega arith) long
    (number_taken _ (ap (λ image. image.now) same_image) at c.in_ok-task.ensures.taken) (omega arith)
    c.loop-label.invariant.1 c.in_default.is _ (omega arith))
