-- `paths::begun` meets its contract. Assumes nothing.
use Prim.Native.Nat.{ℕ, ◌+◌, ◌-◌, ◌≤◌}
use mathlib.Core.Path.{◌≡◌, refl}
use mathlib.Core.List.{[], ◌∷◌}
use native.Mathlib.Omega.{arith}
use lib.ListN.{length}
use Rattle.std.specs.List.{All}
use Rattle.quotients.specs.Paces.{periods_of}
use Rattle.following.specs.Following.{passed, tasks_from, PublishedAt, PassesOn}
use Rattle.following.proofs.Each.{all_four}
use Rattle.following.proofs.Paces.{tasks_part}
use Rattle.paths.proofs.Begins.{first_published, first_passes_on, first_near}
use Rattle.paths.proofs.begun.Goals as goal
use Rattle.paths.proofs.begun.Goals.{After-passed_on-instants}

-- each of the four is the instant at which the first start is published
module _ (c : After-passed_on-instants) where
  abbrev first : ℕ
  first = passed (tasks_from (periods_of c.args.paces.now) 1 c.args.at) 0

  four : c.passed_on-instants.result ≡ first ∷ first ∷ first ∷ first ∷ []
  four =
      let part = tasks_part c.args.paces.now 1 c.args.at (omega (arith, c.requires.1)) in
      let own : c.args.at + 1 - 1 ≡ c.args.at = omega arith in
      rw (c.passed_on-instants.ensures, own, part) refl

  -- what holds of the first of them
  module _ (P : ℕ → Type 0) where
    of_four : P first → All P c.passed_on-instants.result
    of_four own =
        rw four (all_four P first first first first own own own own)

pub last_start-starts-requires : goal.last_start-starts-requires
last_start-starts-requires c =
    let periods = periods_of c.args.paces.now in
    let right = c.requires.0.1 in
    of_four (goal.at.last_start-starts-requires c).After-passed_on-instants
    (λ x. PublishedAt periods c.args.at x × (x ≤ 32000000))
    (first_published periods right c.requires.1, first_near periods right c.requires.1)

pub end_from-ends-requires : goal.end_from-ends-requires
end_from-ends-requires c =
    let periods = periods_of c.args.paces.now in
    of_four (goal.at.end_from-ends-requires c).After-passed_on-instants
    (λ x. PassesOn periods c.args.at (length c.args.paces.now) x)
    (first_passes_on periods c.requires.0.1 c.requires.1)

pub returns : goal.returns
returns c =
    rw (c.end_from-ends.ensures, c.last_start-starts.ensures, four (goal.at.returns c).After-passed_on-instants) refl
