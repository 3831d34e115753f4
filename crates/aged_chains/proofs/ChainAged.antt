-- The ages of a chain by the test that comes before them, and by what was counted of its basic paths. No contract cites
-- this file. Assumes nothing.
use Prim.Native.Nat.{ℕ, ◌-◌, ◌<◌, ◌≤◌, min}
use mathlib.Core.Path.{◌≡◌, sym, ap, ◌∙◌}
use mathlib.Core.List.{List}
use native.Mathlib.Omega.{arith}
use lib.ListN.{length}
use lib.Seq.{take-length}
use borrow.Author.Tests.{lt-ltb}
use Rattle.times.specs.Hyperperiod.{lcm_of}
use Rattle.times.proofs.Hyperperiod.{period_divides_hyperperiod}
use Rattle.outcomes.specs.Outcome.{gives}
use Rattle.ages.specs.Ages.{round_of, basic_paths, worst_age, best_age, ages_of}
use Rattle.ages.proofs.Reached.{best_at_most_worst}
use Rattle.following.specs.Following.{chain_by}
use Rattle.following.proofs.Chains.{chain_round}
use Rattle.following.proofs.Ends.{chain_timed}
use Rattle.paths.specs.Walks.{paths_below, RightChain, SumsOfRound}
use Rattle.path_sums.specs.declared.Walk.{Walk}
use Rattle.aged_chains.specs.Parts.{aged_by, RightAsked}

module _ (periods : List ℕ) (asked : RightAsked periods) (known : 0 < length periods) {round : ℕ}
    (held : round ≡ min (lcm_of periods) 1000001)
  where
    -- the chain's own round, which is within the limit
    is_round : round ≡ lcm_of periods
    is_round = omega (arith, asked.short)

    pub right_chain : RightChain periods (length periods) round
    right_chain =
        rw is_round (record {
          right = asked.right;
          some = asked.some known;
          short = asked.short;
          whole = period_divides_hyperperiod periods 0 known;
        })

    -- what was counted is the answer
    module _ {walk : Walk} (sums : SumsOfRound periods (length periods) round walk) where
      of_round : round ≡ round_of (chain_by periods (length periods))
      of_round =
          is_round ∙ ap lcm_of (sym (take-length periods))
          ∙ sym (chain_round periods (length periods) known (omega arith))

      counted : ages_of (chain_by periods (length periods)) ≡ record {
        paths = walk.paths;
        longest = walk.longest;
        worst = walk.worst;
        best = walk.best;
        jitter = walk.worst - walk.best;
      }
      unfolding ages_of worst_age best_age basic_paths paths_below
      counted =
          let of_paths = rw of_round at sums in
          rw (of_paths.paths, of_paths.longest, of_paths.worst, of_paths.best)

      -- the jitter is not cut off at 0
      pub best_first : walk.best ≤ walk.worst
      best_first =
          let timed = chain_timed periods asked.right (asked.some known) known in
          rw counted at (best_at_most_worst (chain_by periods (length periods)) timed)

      pub chain_aged_lem : gives (record {
        paths = walk.paths;
        longest = walk.longest;
        worst = walk.worst;
        best = walk.best;
        jitter = walk.worst - walk.best;
      }) ≡ aged_by periods
      chain_aged_lem = rw (lt-ltb _ _ known) (ap gives (sym counted))
