-- `following::passed_on` meets its contract. The loop's invariant: what is left to pass leads from each instant to the same
-- end, and each task takes at most 2,000,000 ticks. Assumes nothing.
use Prim.Native.Nat.{◌+◌, ◌*◌, ◌-◌, ◌<◌, ◌≤◌}
use mathlib.Core.Path.{◌≡◌, sym, ap, ◌∙◌}
use native.Mathlib.Omega.{arith}
use lib.ListN.{length, get_or}
use Rattle.std.specs.List.{All, AllZip}
use Rattle.std.proofs.lemmas.Slice.Zip.{AllZip-map}
use Rattle.quotients.specs.declared.pace.Pace.{Pace}
use Rattle.quotients.specs.Paces.{periods_of, tasks_of}
use Rattle.following.specs.Following.{passed, tasks_from}
use Rattle.times.specs.Releases.{every, job_end, first_from}
use Rattle.std.proofs.Common.{rules}
use Rattle.following.proofs.passed_on.Invariants.{Passed}
use Rattle.following.proofs.passed_on.Goals.{After-pace-item}
use Rattle.following.proofs.Each.{each_itself, each_then, each_given, each_also, all_then}
use Rattle.following.proofs.Paces.{period_at, tasks_all}
use Rattle.following.proofs.Tasks.{passed_turn, none_left}
use Rattle.following.proofs.passed_on.Goals as goal

pub loop-pace-init : goal.loop-pace-init
loop-pace-init c =
    let whole : length c.args.paces.now - 0 ≡ length c.args.paces.now = omega arith in
    let start : AllZip (Passed c.args.paces.now 0) c.args.t c.args.t =
    each_itself {P = λ t. t + 2000000 * length c.args.paces.now ≤ 32000000} _
    (λ x near. (ap (λ n. passed (tasks_from (periods_of c.args.paces.now) 0 n) x) whole, omega arith)) _ c.requires in
    start

-- none of them is late
near : (c : After-pace-item) → All (λ y. y ≤ 32000000) c.loop-pace.instants
near c =
    all_then {R = Passed c.args.paces.now c.loop-pace.pace-index} (λ y. y ≤ 32000000) (λ x y gone. omega arith) _ _
    c.loop-pace.invariant

pub each-published-requires : goal.each-published-requires
each-published-requires c = λ k d inside κs pointer given ranges a b. near c k d inside

pub loop-pace-preserved : goal.loop-pace-preserved
loop-pace-preserved c =
    let turn = (goal.at.loop-pace-preserved c).After-pace-item in
    let paces = c.args.paces.now in
    let i = c.loop-pace.pace-index in
    let T = c.pace-item.result.period in
    let published : AllZip (λ t r. (r ≡ job_end (every T) (first_from (every T) t)) × (r ≤ t + 2000000))
    c.loop-pace.instants c.each-published.result =
    each_given {P = λ y. y ≤ 32000000} _ (λ t r soon is. search rules) _ _ (near turn) c.each-published.ensures in
    let inside : i < length paces = c.loop-pace-test.true in
    let own : T ≡ get_or (periods_of paces) i 0 =
    ap (λ (pace : Pace). pace.period) c.pace-item.is ∙ sym (period_at paces i c.pace-item.result inside) in
    let on : AllZip (Passed paces (i + 1)) c.args.t c.each-published.result =
    each_then {R = Passed paces i} {Q = λ t r. (r ≡ job_end (every T) (first_from (every T) t)) × (r ≤ t + 2000000)}
    (Passed paces (i + 1))
    (λ x y z gone next. (
      rw (next.0, own) (passed_turn (periods_of paces) i (length paces) y inside ∙ gone.0),
      omega arith,
    )) _ _ _ c.loop-pace.invariant published in
    on

pub returns : goal.returns
returns c =
    let paces = c.args.paces.now in
    AllZip-map _ _ _
    (each_also {R = Passed paces c.loop-pace.pace-index} (λ x r. r ≡ passed (tasks_of paces) x) (λ x y gone.
    rw (← tasks_all paces) (sym (none_left (periods_of paces) c.loop-pace.pace-index (length paces) y c.loop-pace-test.false) ∙ gone.0))
    _ _ c.loop-pace.invariant)
