-- `following::last_start` meets its contract. Assumes nothing.
use Prim.Native.Nat.{◌+◌, ◌-◌, ◌<◌, ◌≤◌}
use mathlib.Core.List.{List}
use mathlib.Core.Path.{◌≡◌, refl, sym, ap, subst, ◌∙◌}
use native.Mathlib.Omega.{arith}
use lib.ListN.{length, get_or, take, drop, length-take, length-drop}
use Rattle.std.specs.Iterator.Adapters.{rev_source}
use Rattle.std.specs.List.{All, AllZip}
use Rattle.std.specs.Slice.Iter.{iter_rest}
use Rattle.std.proofs.Common.{rules}
use Rattle.std.proofs.lemmas.Slice.Zip.{AllZip-map}
use Rattle.quotients.specs.declared.pace.Pace.{Pace}
use Rattle.quotients.specs.Paces.{periods_of}
use Rattle.times.specs.Releases.{every, last_to}
use Rattle.following.specs.Following.{last_start}
use Rattle.following.proofs.AllBack.{Given, released_before, all_first, all_near, all_long, all_turn, all_gone}
use Rattle.following.proofs.Each.{each_itself, each_given, each_also}
use Rattle.following.proofs.GoneBack.{own_period, start_itself, Back}
use Rattle.following.proofs.Paces.{period_at, inside_of, length_periods, one_less, taken_period, part_before}
use Rattle.following.proofs.last_start.Goals as goal
use Rattle.following.proofs.last_start.Goals.{Start, After-each-instants, In-Some}

-- the task is one of the chain's
inside : (c : Start) → c.args.at < length c.args.paces.now
inside c =
    let paces = c.args.paces.now in
    let some : 0 < length c.args.x = search rules in
    let published = (c.requires 0 0 some).0 in
    omega (arith, length_periods paces, inside_of (periods_of paces) c.args.at (omega (arith, published.right.each c.args.at (omega arith))))

pub returns-then-at-eq0 : goal.returns-then-at-eq0
returns-then-at-eq0 c =
    AllZip-map _ _ _
    (each_itself {P = Given (periods_of c.args.paces.now) c.args.at} (λ x r. r ≡ last_start (periods_of c.args.paces.now) c.args.at x)
    (λ x given. start_itself (periods_of c.args.paces.now) given.0 c.if-at-eq0.true) _ c.requires)

pub bounds-paces-at : goal.bounds-paces-at
bounds-paces-at c = inside (goal.at.bounds-paces-at c).Start

pub bounds-paces-at-else-at-eq0 : goal.bounds-paces-at-else-at-eq0
bounds-paces-at-else-at-eq0 c = λ _. inside (goal.at.bounds-paces-at-else-at-eq0 c).Start

pub each-instants-requires : goal.each-instants-requires
each-instants-requires c =
    let paces = c.args.paces.now in
    let at = c.args.at in
    let own = period_at paces at c.index-paces-at.result (inside (goal.at.each-instants-requires c).Start) in
    λ k d within κs pointer given ranges a.
    let long = own_period (periods_of paces) (c.requires k d within).0 (omega arith) in
    omega (arith, long, own)

pub slice_bounds-iter-end : goal.slice_bounds-iter-end
slice_bounds-iter-end c =
    let own : c.args.at < length c.args.paces.now = inside (goal.at.slice_bounds-iter-end c).Start in
    omega arith

-- the task's own releases, one period before
released : (c : After-each-instants)
    → AllZip (λ x r. x ≡ r + get_or (periods_of c.args.paces.now) c.args.at 0) c.args.x c.each-instants.result
released c =
    let paces = c.args.paces.now in
    let at = c.args.at in
    let own = period_at paces at c.index-paces-at.result (inside (goal.at.After-each-instants c).Start) in
    let less : AllZip (λ x r. r ≡ x - (get_or paces at c.index-paces-at.result).period) c.args.x c.each-instants.result =
    each_also _ (λ x r is. search rules) _ _ c.each-instants.ensures in
    released_before (periods_of paces) at (omega arith) _ _ c.requires (rw own less)

-- the tasks that are left: at first those between the first one and the one that publishes
pub loop-pace-init : goal.loop-pace-init
loop-pace-init c =
    let paces = c.args.paces.now in
    let at = c.args.at in
    let before = (goal.at.loop-pace-init c).After-each-instants in
    let between : List Pace = take (at - 1) (drop 1 paces) in
    let left : iter_rest (rev_source c.into_iter-pace-iterator.result) ≡ between =
    ap (λ (s : _). iter_rest (rev_source s)) c.into_iter-pace-iterator.ensures.into_iter_gives
    ∙ ap iter_rest c.rev-pace-items.ensures.source ∙ c.iter.ensures.rest in
    let many : length between ≡ at - 1 =
    omega (arith, length-take (at - 1) (drop 1 paces), length-drop 1 paces, inside (goal.at.loop-pace-init c).Start) in
    rw (left, many) (all_first (periods_of paces) at (omega arith) _ _ c.requires (released before), refl)

-- one of them is taken
module _ (c : In-Some) where
  abbrev left : List Pace
  left = iter_rest (rev_source c.loop-pace.pace-iterator)

  abbrev rest : List Pace
  rest = iter_rest (rev_source c.next.new.self)

  number : length left ≡ length rest + 1
  number = one_less c.args.paces.now left rest c.in-Some.pace.now c.in-Some.ensures.steps c.loop-pace.invariant.1

  period : get_or (periods_of c.args.paces.now) (length left) 0 ≡ c.in-Some.pace.now.period
  period = taken_period c.args.paces.now left rest c.in-Some.pace.now c.in-Some.ensures.steps c.loop-pace.invariant.1

  long : All (λ y. (c.in-Some.pace.now.period ≤ y) × (y ≤ 32000000)) c.loop-pace.instants
  long = all_long (periods_of c.args.paces.now) c.args.at (length left) _ _ c.loop-pace.invariant.0 period (omega (arith, number))

pub each-taken-requires : goal.each-taken-requires
each-taken-requires c = λ k d within κs pointer given ranges a b. long (goal.at.each-taken-requires c).In-Some k d within

pub loop-pace-preserved : goal.loop-pace-preserved
loop-pace-preserved c =
    let paces = c.args.paces.now in
    let turn = (goal.at.loop-pace-preserved c).In-Some in
    let T = c.in-Some.pace.now.period in
    let taken : AllZip (λ x r. r ≡ last_to (every T) (x - T)) c.loop-pace.instants c.each-taken.result =
    each_given {P = λ y. (T ≤ y) × (y ≤ 32000000)} _ (λ x r fits is. search rules) _ _ (long turn) c.each-taken.ensures in
    let before : length (left turn) - 1 ≡ length (rest turn) = omega (arith, number turn) in
    let on : AllZip (Back (periods_of paces) c.args.at (length (left turn) - 1)) c.each-instants.result c.each-taken.result =
    all_turn (periods_of paces) c.args.at (length (left turn)) _ _ c.loop-pace.invariant.0 (period turn)
    (omega (arith, number turn)) _ taken in (
      subst (λ n. AllZip (Back (periods_of paces) c.args.at n) c.each-instants.result c.each-taken.result) before on,
      part_before paces (left turn) (rest turn) c.in-Some.pace.now c.in-Some.ensures.steps c.loop-pace.invariant.1,
    )

pub each-requires : goal.each-requires
each-requires c =
    λ k d within κs pointer given ranges a b.
    all_near (periods_of c.args.paces.now) c.args.at (length (iter_rest (rev_source c.loop-pace.pace-iterator))) _ _ c.loop-pace.invariant.0 k d within

-- the first task is left
pub returns : goal.returns
returns c =
    let paces = c.args.paces.now in
    let periods = periods_of paces in
    let known = (goal.at.returns c).Start in
    let first : get_or periods 0 0 ≡ c.index-paces-0.result.period =
    period_at paces 0 c.index-paces-0.result (omega (arith, inside known))
    ∙ ap (λ (pace : Pace). pace.period) (sym c.index-paces-0.is) in
    let last : AllZip (λ y r. r ≡ last_to (every c.index-paces-0.result.period) y) c.loop-pace.instants c.each.result =
    each_also _ (λ y r is. search rules) _ _ c.each.ensures in
    AllZip-map _ _ _
    (all_gone periods c.args.at (length (iter_rest (rev_source c.loop-pace.pace-iterator))) _ _ _ _ (released (goal.at.returns c).After-each-instants) c.loop-pace.invariant.0
    c.in-None.ensures.steps.0 (rw first last))
