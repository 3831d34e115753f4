-- `following::end_from` meets its contract. Assumes nothing.
use Prim.Native.Nat.{◌+◌, ◌-◌, ◌<◌, ◌≤◌}
use mathlib.Core.Path.{◌≡◌, sym, ap₂, ◌∙◌}
use native.Mathlib.Omega.{arith}
use lib.ListN.{length, get_or}
use Rattle.std.specs.List.{All, AllZip}
use Rattle.std.proofs.Common.{rules}
use Rattle.std.proofs.lemmas.Slice.Zip.{AllZip-map}
use Rattle.quotients.specs.Paces.{periods_of}
use Rattle.following.specs.Following.{passed, tasks_from, end_from, PassesOn}
use Rattle.following.proofs.Each.{each_of, each_also, each_given, each_then, all_then}
use Rattle.following.proofs.Ends.{last_period_lem}
use Rattle.following.proofs.Paces.{period_at, tasks_part}
use Rattle.following.proofs.end_from.Goals as goal
use Rattle.following.proofs.end_from.Goals.{After-passed_on-passed}

-- the task that publishes is one of the chain's
inside : (c : After-passed_on-passed) → c.args.at < length c.args.paces.now
inside c = let some : 0 < length c.args.x = search rules in (c.requires 0 0 some).inside

-- the instants at which the last task publishes are those of the whole chain
passed_lem : (c : After-passed_on-passed)
    → let periods = periods_of c.args.paces.now in
    let at = c.args.at in
    AllZip (λ x y. y ≡ passed (tasks_from periods (at + 1) (length c.args.paces.now - (at + 1))) x)
    c.args.x c.passed_on-passed.result
passed_lem c =
    let paces = c.args.paces.now in
    let at = c.args.at in
    let part = tasks_part paces (at + 1) (length paces - (at + 1)) (omega (arith, inside c)) in
    rw (c.passed_on-passed.ensures, part) (each_of _ c.args.x)

-- the last task's period
last_period : (c : After-passed_on-passed)
    → let last = length c.args.paces.now - 1 in
    get_or (periods_of c.args.paces.now) last 0 ≡ (get_or c.args.paces.now last c.index-paces-paces.result).period
last_period c =
    period_at c.args.paces.now (length c.args.paces.now - 1) c.index-paces-paces.result (omega (arith, inside c))

pub each-requires : goal.each-requires
each-requires c =
    let after = (goal.at.each-requires c).After-passed_on-passed in
    let periods = periods_of c.args.paces.now in
    let at = c.args.at in
    let n = length c.args.paces.now in
    let long : All (λ y. get_or periods (n - 1) 0 ≤ y) c.passed_on-passed.result =
    all_then {R = λ x y. get_or periods (n - 1) 0 ≤ y} _ (λ x y long. long) _ _
    (each_given {P = λ x. PassesOn periods at n x} (λ x y. get_or periods (n - 1) 0 ≤ y)
    (λ x y given is.
    omega (arith, last_period_lem periods given.right given.some given.inside x given.since))
    _ _ c.requires (passed_lem after)) in
    λ k d within κs pointer given ranges a. omega (arith, long k d within, last_period after)

pub returns : goal.returns
unfolding end_from
returns c =
    let after = (goal.at.returns c).After-passed_on-passed in
    let periods = periods_of c.args.paces.now in
    let n = length c.args.paces.now in
    let less : AllZip (λ y r. r ≡ y - (get_or c.args.paces.now (n - 1) c.index-paces-paces.result).period)
    c.passed_on-passed.result c.each.result =
    each_also _ (λ y r is. search rules) _ _ c.each.ensures in
    AllZip-map _ _ _
    (each_then (λ x r. r ≡ end_from periods c.args.at n x) (λ x y r is less. less ∙ ap₂ ◌-◌ is (sym (last_period after))) _ _ _
    (passed_lem after) less)
