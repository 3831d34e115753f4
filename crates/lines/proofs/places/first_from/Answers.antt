-- `lines::places::first_from` meets its contract: the byte stands at no place that was passed. Assumes nothing.
use Rattle.std.proofs.Common.{◌≡◌, ℕ, ◌+◌, ◌-◌, ◌<◌, ◌≤◌, List, length, length-drop, drop, get_or, slice_index, arith, rules, ap, ◌∙◌}
use Rattle.std.proofs.lemmas.List.{get_or-drop}
use Rattle.std.proofs.lemmas.Iterator.{IsFirst-from_position, YieldsList-from_slice}
use Rattle.std.proofs.lemmas.Slice.{between_to_end}
use Rattle.std.specs.Prelude.{◌≢◌}
use Rattle.std.specs.Option.{MatchOption}
use Rattle.std.specs.List.{AllWithin, HoldsAt}
use borrow.Author.Tests.{tests}
use Rattle.lines.proofs.places.first_from.Goals as goal
use Rattle.lines.proofs.places.first_from.Goals.{After-position}

-- what `position` says of the text from the first place on
first : (c : After-position) → let rest = drop c.args.from c.args.text.now in
    MatchOption c.position.result (AllWithin (λ x. x ≢ c.args.byte) rest 0 (length rest))
    (λ i. (i < length rest) × HoldsAt (λ x. x ≡ c.args.byte) rest i × AllWithin (λ x. x ≢ c.args.byte) rest 0 i)
first c =
    IsFirst-from_position _ _ _ (λ x. x ≡ c.args.byte) (λ x. x ≢ c.args.byte) c.position.ensures.ran
    (YieldsList-from_slice (drop c.args.from c.args.text.now)
    (c.iter.ensures.rest ∙ between_to_end c.args.text.now c.args.from (length c.args.text.now) (omega arith)))
    (λ x q k. search (rules, tests)) (λ x q k. search (rules, tests))

-- a byte that stands at no place of that rest stands at none from the first place on
not_there : (text : List ℕ) (from k byte : ℕ) → from ≤ k → get_or (drop from text) (k - from) 0 ≢ byte
    → slice_index text k ≢ byte
not_there text from k byte later none there =
    let same : from + (k - from) ≡ k = omega arith in
    none (get_or-drop from text (k - from) 0 ∙ ap (λ i. get_or text i 0) same ∙ there)

pub returns-in-Some-clause-none_before : goal.returns-in-Some-clause-none_before
returns-in-Some-clause-none_before c k later before =
    let found = rw c.in-Some.is at (first (goal.at.returns-in-Some-clause-none_before c).After-position) in
    not_there c.args.text.now c.args.from k c.args.byte later
    (found.2 (k - c.args.from) 0 (omega arith) (omega arith))

pub returns-in-None-clause-none_before : goal.returns-in-None-clause-none_before
returns-in-None-clause-none_before c k later inside =
    let none = rw c.in-None.is at (first (goal.at.returns-in-None-clause-none_before c).After-position) in
    not_there c.args.text.now c.args.from k c.args.byte later
    (none (k - c.args.from) 0 (omega arith) (simp length-drop (omega arith)))
