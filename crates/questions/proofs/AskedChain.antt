-- The ages of a chain, asked of an image, by what reading the image showed of the chain. No contract cites this file.
-- Assumes nothing.
use Prim.Native.Nat.{ℕ, ◌≤◌}
use mathlib.Core.Path.{◌≡◌, refl, sym, ap, ◌∙◌}
use mathlib.Core.Logic.{by_cases}
use mathlib.Core.List.{List}
use native.Mathlib.Decide.{dec_lt}
use native.Mathlib.Omega.{arith}
use lib.ListN.{length, take, replicate}
use Rattle.std.specs.Prelude.{Result, Ok, Err}
use Rattle.std.proofs.Math.Seq.{take-append_seam}
use Rattle.lists.specs.Lists.{over}
use Rattle.lists.proofs.Over.{over_appended, length_over}
use Rattle.outcomes.specs.Outcome.{Outcome, gives, refuses, asked_of}
use Rattle.outcomes.proofs.Outcomes.{same_given, gives_no_refusal}
use Rattle.table.specs.Refusals.{number_of, said_of}
use Rattle.table.specs.Image.{Whole, read_image}
use Rattle.table.specs.Shown.{accepted_or, shown_of}
use Rattle.table.specs.declared.Refused.{Refused}
use Rattle.table.proofs.Accepted.{accepted_sound}
use Rattle.table.proofs.MeetsRules.{accepted_meets_rules}
use Rattle.image_chains.specs.PeriodsShown.{periods_in, PeriodsShown}
use Rattle.aged_chains.specs.Parts.{aged_by, RightAsked}
use Rattle.questions.specs.Questions.{ages}
use Rattle.questions.proofs.ChainShown.{none_few, none_asked, none_aged, known_few, known_asked, known_aged}

-- what was asked of an outcome, by what it gives
refused_of : {A B : Type 0} (f : A → B) (outcome : Outcome A) {n p : ℕ} → asked_of outcome (λ a. gives (f a)) ≡ refuses n p
    → outcome ≡ refuses n p
refused_of f (gives a) e = absurd (gives_no_refusal e)
refused_of f (refuses m q) e = cc

given_of : {A B : Type 0} (f : A → B) (outcome : Outcome A) {b : B} → asked_of outcome (λ a. gives (f a)) ≡ gives b
    → (a : A) × (outcome ≡ gives a) × (f a ≡ b)
given_of f (gives a) e = (a, refl, same_given e)
given_of f (refuses m q) e = absurd (gives_no_refusal (sym e))

-- the first entries are those that were laid over
first_entries : (entries held : List ℕ) {left : List ℕ} {n : ℕ} → left ≡ over entries held → length entries ≡ n
    → length entries ≤ length held → take n left ≡ entries
first_entries entries held {left} is many room =
    ap (λ n. take n left) (sym many) ∙ ap (take (length entries)) (is ∙ over_appended entries held room)
    ∙ take-append_seam entries _

module _ (image : List ℕ) (k : ℕ) {r : Result ℕ Refused} {periods : List ℕ}
    (shown : PeriodsShown image k r (replicate 32 0) periods)
  where
    -- the image is refused
    pub refused_chain : {refused : Refused} → r ≡ Err refused → ages image k ≡ refuses (number_of refused.refusal) refused.place
    unfolding ages
    refused_chain told =
        rw (refused_of (λ whole. length (periods_in whole k)) (read_image image) (sym shown.answer ∙ ap said_of told))

    module _ {count : ℕ} (told : r ≡ Ok count) where
      -- the first entries are the periods of the chain's tasks
      accepted : (whole : Whole) × (read_image image ≡ gives whole) × (take count periods ≡ periods_in whole k)
          × (count ≤ length periods)
      unfolding shown_of accepted_or
      accepted =
          let (whole, given, many) =
          given_of (λ whole. length (periods_in whole k)) (read_image image) (sym shown.answer ∙ ap said_of told) in
          let left : periods ≡ over (periods_in whole k) (replicate 32 0) = rw given at shown.periods in
          let few : length (periods_in whole k) ≤ 8 = by_cases (dec_lt k whole.table.chains)
          (λ known. known_few whole (accepted_meets_rules image whole given) (accepted_sound image whole given) k known)
          (λ unknown. none_few whole k (omega arith)) in
          let long : length periods ≡ 32 = ap length left ∙ length_over _ (replicate 32 0) in
          let room : length (periods_in whole k) ≤ length (replicate {A = ℕ} 32 0) = omega (arith, few) in (
            whole,
            given,
            first_entries _ (replicate 32 0) left many room,
            omega (arith, few, long, many),
          )

      pub many_lent : count ≤ length periods
      many_lent = let (whole, given, are, many) = accepted in many

      pub asked_chain : RightAsked (take count periods)
      asked_chain =
          let (whole, given, are, many) = accepted in
          rw are (by_cases (dec_lt k whole.table.chains)
          (λ known. known_asked whole (accepted_meets_rules image whole given) (accepted_sound image whole given) k known)
          (λ unknown. none_asked whole k (omega arith)))

      pub aged_chain : ages image k ≡ aged_by (take count periods)
      unfolding ages
      aged_chain =
          let (whole, given, are, many) = accepted in
          rw (given, are) (by_cases (dec_lt k whole.table.chains)
          (λ known. known_aged whole (accepted_meets_rules image whole given) (accepted_sound image whole given) k known)
          (λ unknown. none_aged whole k (omega arith)))
