-- Each question has one answer. Document 01, How much a contract has to say: "that two answers under it coincide is
-- proved"; and "a refused image gets the same refusal whichever question is asked". Assumes nothing.
use Prim.Native.Nat.{ℕ}
use mathlib.Core.Path.{◌≡◌, refl, sym, ap, ◌∙◌}
use mathlib.Core.List.{List}
use lib.ListN.{length}
use Rattle.std.specs.Prelude.{Result, Ok, Err}
use Rattle.outcomes.specs.Outcome.{gives, refuses, asked_of}
use Rattle.ages.specs.Ages as spec
use Rattle.table.specs.Refusals.{said_of}
use Rattle.table.specs.Image.{read_image}
use Rattle.table.specs.Shown.{answer_of}
use Rattle.outcomes.proofs.Outcomes.{refusal_handed_on}
use Rattle.table.proofs.Refusals.{same_answer}
use Rattle.table.specs.declared.Refused.{Refused}
use Rattle.aged_chains.specs.declared.Ages.{Ages}
use Rattle.pair_points.specs.PairPoints.{Points}
use Rattle.questions.specs.Questions.{points, listing, bytes_listed, lent_after, ages}
use Rattle.questions.specs.Answers.{said_of_points, said_of_listing, said_of_ages}

-- the ages of a chain, as the program holds them
abbrev held : spec.Ages → Ages
held said = record {
  paths = said.paths;
  longest = said.longest;
  worst = said.worst;
  best = said.best;
  jitter = said.jitter;
}

told : (answer : Result Ages Refused) → said_of answer ≡ asked_of (said_of_ages answer) (λ said. gives (held said))
told (Ok a) = refl
told (Err refused) = refl

-- two answers for a chain that say the same are the same
pub same_ages : (a b : Result Ages Refused) → said_of_ages a ≡ said_of_ages b → a ≡ b
same_ages a b same = same_answer a b (told a ∙ ap (λ said. asked_of said (λ said. gives (held said))) same ∙ sym (told b))

-- the points of a pair are determined
pub points_determined : (image : List ℕ) (writer reader n : ℕ) (a b : Result Points Refused)
    → said_of_points a ≡ points image writer reader n → said_of_points b ≡ points image writer reader n → a ≡ b
points_determined image writer reader n a b of_a of_b = same_answer a b (of_a ∙ sym of_b)

-- the listing of a core is determined: the answer, and each byte of the lent buffer afterwards
pub listing_determined : (image : List ℕ) (core : ℕ) (buffer : List ℕ) (a b : Result ℕ Refused) (after_a after_b : List ℕ)
    → said_of_listing a ≡ bytes_listed (listing image core (length buffer))
    → after_a ≡ lent_after (listing image core (length buffer)) buffer
    → said_of_listing b ≡ bytes_listed (listing image core (length buffer))
    → after_b ≡ lent_after (listing image core (length buffer)) buffer
    → (a ≡ b) × (after_a ≡ after_b)
listing_determined image core buffer a b after_a after_b of_a left_a of_b left_b =
    (same_answer a b (of_a ∙ sym of_b), left_a ∙ sym left_b)

-- the ages of a chain are determined
pub ages_determined : (image : List ℕ) (chain : ℕ) (a b : Result Ages Refused)
    → said_of_ages a ≡ ages image chain → said_of_ages b ≡ ages image chain → a ≡ b
ages_determined image chain a b of_a of_b = same_ages a b (of_a ∙ sym of_b)

-- a refused image gets the same refusal whichever question is asked, and a lent buffer then holds what it held
pub same_refusal_whichever_question : (image : List ℕ) (number place : ℕ) → answer_of image ≡ refuses number place
    → ((writer reader n : ℕ) → points image writer reader n ≡ refuses number place)
    × ((core : ℕ) (buffer : List ℕ)
    → (listing image core (length buffer) ≡ refuses number place)
    × (lent_after (listing image core (length buffer)) buffer ≡ buffer))
    × ((chain : ℕ) → ages image chain ≡ refuses number place)
unfolding answer_of points listing ages lent_after
same_refusal_whichever_question image number place refused = (
  (λ writer reader n. refusal_handed_on (read_image image) _ refused),
  (λ core buffer.
      let handed = refusal_handed_on (read_image image) _ refused in
      (handed, ap (λ outcome. lent_after outcome buffer) handed)),
  (λ chain. refusal_handed_on (read_image image) _ refused),
)
