-- `paths::steps::step` meets its contract: one after the other the four are taken. Assumes nothing.
use Prim.Native.Nat.{◌+◌, ◌*◌, ◌≤◌}
use mathlib.Core.Path.{◌≡◌, sym, ap, subst, ◌∙◌}
use native.Mathlib.Omega.{arith}
use lib.ListN.{length, get_or}
use Rattle.std.specs.List.{All}
use Rattle.std.proofs.lemmas.List.{get_or-map}
use Rattle.quotients.specs.Paces.{periods_of}
use Rattle.following.specs.Following.{last_start, end_from, PublishedAt, PassesOn}
use Rattle.following.proofs.Paces.{period_at}
use Rattle.paths.specs.Walks.{Taking}
use Rattle.paths.proofs.FourInstants.{four_after, instant_of, near_four, published_four, four_pass_on}
use Rattle.paths.proofs.Reached.{reached_none, reached_next, taking_next}
use Rattle.paths.proofs.steps.step.Goals as goal
use Rattle.paths.proofs.steps.step.Goals.{Start, In-loop-i}

-- the last of the four instants is no late one
near : (c : Start) → c.args.walk.instant + 4 * get_or (periods_of c.args.paces.now) c.args.at 0 ≤ 32000000
near c = omega (arith, near_four (periods_of c.args.paces.now) c.requires)

pub overflow_add-a : goal.overflow_add-a
overflow_add-a c =
    omega (arith, near (goal.at.overflow_add-a c).Start, period_at c.args.paces.now c.args.at c.index-paces-at.result c.requires.inside)

pub overflow_add-b : goal.overflow_add-b
overflow_add-b c =
    omega (arith, near (goal.at.overflow_add-b c).Start, period_at c.args.paces.now c.args.at c.index-paces-at.result c.requires.inside)

pub overflow_add-c : goal.overflow_add-c
overflow_add-c c =
    omega (arith, near (goal.at.overflow_add-c c).Start, period_at c.args.paces.now c.args.at c.index-paces-at.result c.requires.inside)

pub overflow_add-d : goal.overflow_add-d
overflow_add-d c =
    omega (arith, near (goal.at.overflow_add-d c).Start, period_at c.args.paces.now c.args.at c.index-paces-at.result c.requires.inside)

pub last_start-starts-requires : goal.last_start-starts-requires
last_start-starts-requires c =
    let periods = periods_of c.args.paces.now in
    let at = c.args.at in
    subst (λ T. All (λ x. PublishedAt periods at x × (x ≤ 32000000)) (four_after c.args.walk.instant T))
    (period_at c.args.paces.now at c.index-paces-at.result c.requires.inside) (published_four periods c.requires)

pub end_from-ends-requires : goal.end_from-ends-requires
end_from-ends-requires c =
    let periods = periods_of c.args.paces.now in
    let at = c.args.at in
    subst (λ T. All (λ x. PassesOn periods at (length c.args.paces.now) x) (four_after c.args.walk.instant T))
    (period_at c.args.paces.now at c.index-paces-at.result c.requires.inside) (four_pass_on periods c.requires)

pub loop-i-init : goal.loop-i-init
loop-i-init c = reached_none (periods_of c.args.paces.now) c.requires

-- the instant that is taken next
next : (c : In-loop-i)
    → let periods = periods_of c.args.paces.now in
    get_or (four_after c.args.walk.instant (get_or c.args.paces.now c.args.at c.index-paces-at.result).period) c.loop-i.i 0
    ≡ c.args.walk.instant + (c.loop-i.i + 1) * get_or periods c.args.at 0
next c =
    let own = period_at c.args.paces.now c.args.at c.index-paces-at.result c.requires.inside in
    instant_of c.args.walk.instant _ c.loop-i.i c.loop-i-test.true
    ∙ ap (λ T. c.args.walk.instant + (c.loop-i.i + 1) * T) (sym own)

-- of the last starts and of the ends it is the one of that instant
taking : (c : In-loop-i)
    → let periods = periods_of c.args.paces.now in
    let instants = four_after c.args.walk.instant (get_or c.args.paces.now c.args.at c.index-paces-at.result).period in
    Taking periods (length c.args.paces.now) c.args.at c.args.round c.loop-i.reached (get_or instants c.loop-i.i 0)
    (get_or c.last_start-starts.result c.loop-i.i 0) (get_or c.end_from-ends.result c.loop-i.i 0)
taking c =
    let periods = periods_of c.args.paces.now in
    let at = c.args.at in
    let n = length c.args.paces.now in
    let i = c.loop-i.i in
    let instants = four_after c.args.walk.instant (get_or c.args.paces.now at c.index-paces-at.result).period in
    taking_next periods c.requires c.loop-i.invariant (next c)
    (ap (λ l. get_or l i 0) c.last_start-starts.ensures
    ∙ get_or-map (λ x. last_start periods at x) instants i 0 0 c.loop-i-test.true)
    (ap (λ l. get_or l i 0) c.end_from-ends.ensures
    ∙ get_or-map (λ x. end_from periods at n x) instants i 0 0 c.loop-i-test.true)

pub take-reached-requires : goal.take-reached-requires
take-reached-requires c = (_, taking (goal.at.take-reached-requires c).In-loop-i)

pub loop-i-preserved : goal.loop-i-preserved
loop-i-preserved c =
    let turn = (goal.at.loop-i-preserved c).In-loop-i in
    reached_next (periods_of c.args.paces.now) c.requires c.loop-i.invariant (next turn)
    (c.take-reached.ensures c.args.at (taking turn))
