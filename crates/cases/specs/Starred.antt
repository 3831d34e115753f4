-- The starred cases of document 01, Numbers to test against: one table. "A star marks one case of the proved set."
-- Assumes nothing.
use Rattle.std.specs.Prelude.{ℕ, List, [], ◌∷◌, map}
use Rattle.times.specs.Releases.{every}
use Rattle.outcomes.specs.Outcome.{gives}
use Rattle.ages.specs.Ages.{Chain}
use Rattle.cases.specs.Example.{example, example_listing, periods999and1001, periods1000and1001}
use Rattle.cases.specs.Kinds.{Case, points_by, hyperperiod, refused, end, answer, listing, aged}

-- a chain of the periods T1, T2 and so on
abbrev pub chain : ℕ → List ℕ → Chain
chain T1 others = record { first = every T1; others = map every others }

-- thirteen stars, thirteen cases
abbrev pub starred : List Case
starred =
    -- "Tw 2, Tr 5, n 1: P 4, Q 5." "n 2: 10, 10."
    points_by 2 5 1 4 5
    ∷ points_by 2 5 2 10 10
    -- "Tw 5, Tr 2, n 1: P 5, Q 6." "Tw 3, Tr 3, n 4: 12, 12."
    ∷ points_by 5 2 1 5 6
    ∷ points_by 3 3 4 12 12
    -- "Periods 999 and 1001: H 999,999." "1000 and 1001: refused 10."
    ∷ hyperperiod periods999and1001 999999
    ∷ refused periods1000and1001 10 0
    -- "Chain 3, 7, 3: E(21) 30," "E(24) 36," "E(36) 51." "Answer: paths 3, long 9, worst 21, best 18, jitter 3.", where
    -- "chain 3, 7, 3 becomes worst 24, best 21" (document 02, C-11)
    ∷ end (chain 3 (7 ∷ 3 ∷ [])) 21 30
    ∷ end (chain 3 (7 ∷ 3 ∷ [])) 24 36
    ∷ end (chain 3 (7 ∷ 3 ∷ [])) 36 51
    ∷ answer (chain 3 (7 ∷ 3 ∷ [])) (aged 3 9 24 21 3)
    -- "Chain 5, 10, 20: paths 1, long 10, worst 35, best 35, jitter 0."; "the other ages in 01 move likewise"
    ∷ answer (chain 5 (10 ∷ 20 ∷ [])) (aged 1 10 55 55 0)
    -- "Core 0 of the image above: `00 00 14 00 00 40 00 00 00 20 00 00 00 80 02 00 00`."
    ∷ listing example 0 17 (gives example_listing)
    -- "Empty image: refused 1, place 0."
    ∷ refused [] 1 0
    ∷ []
