-- What is printed of an accepted image and of a refused one, by what its reader and the questions answer. No contract
-- cites this file. Assumes nothing.
use Prim.Native.Nat.{ℕ, ◌<◌}
use mathlib.Core.Bool.{Bool, true, false}
use mathlib.Core.Path.{◌≡◌, sym, ap, ◌∙◌}
use mathlib.Core.List.{List, ◌∷◌, ◌++◌}
use lib.Dec.{leb, ltb}
use lib.ListN.{length}
use borrow.Author.Tests.{lt-ltb}
use Rattle.std.specs.Prelude.{Option, Some, None, Result, Ok, Err}
use Rattle.lists.specs.Lists.{some_below, each_below}
use Rattle.outcomes.specs.Outcome.{gives, refuses, asked_of}
use Rattle.outcomes.proofs.Outcomes.{same_given, gives_no_refusal}
use Rattle.times.specs.Rounds.{within_limit, said_of_round}
use Rattle.table.specs.Image.{Whole, read_image}
use Rattle.table.specs.Table.{hyperperiod_of}
use Rattle.table.specs.declared.Refused.{Refused}
use Rattle.table.specs.declared.Table.{Table}
use Rattle.table.proofs.Accepted.{accepted_sound, accepted_within}
use Rattle.table.proofs.MeetsRules.{accepted_meets_rules}
use Rattle.copies.specs.Listing.{core_listing, listing_of}
use Rattle.frames.specs.Counts.{RightRound}
use Rattle.ages.specs.Ages.{ages_of_chain}
use Rattle.questions.specs.Answers.{said_of_ages}
use Rattle.questions.specs.Questions.{ages}
use Rattle.aged_chains.specs.declared.Ages.{Ages}
use Rattle.printing.specs.Printed.{core_text, chain_text, whole_text, printable, text_of, printed}
use Rattle.printing.specs.Words.{hyperperiod_word, named, newline}
use Rattle.texts.specs.Puts.{Puts}
use Rattle.texts.specs.declared.Text.{Text}
use Rattle.texts.proofs.Putting.{put_then}

-- the table of an accepted image is right, with its own round
pub right_round : (image : List ℕ) (whole : Whole) → read_image image ≡ gives whole → (table : Table)
    → table ≡ whole.table → (round : ℕ) → round ≡ hyperperiod_of table → RightRound table round
right_round image whole accepted table is round own =
    rw is (record {
      right = record {
        rows = whole.rows;
        meets = accepted_meets_rules image whole accepted;
        sound = accepted_sound image whole accepted;
      };
      is = own ∙ ap hyperperiod_of is;
    })

-- the round of such a table that is answered is its hyperperiod, and never above the limit
module _ (image : List ℕ) (whole : Whole) (accepted : read_image image ≡ gives whole) (table : Table)
    (is : table ≡ whole.table) (round : Option ℕ) (said : said_of_round round ≡ within_limit (hyperperiod_of table))
  where
    given_round : said_of_round round ≡ gives (hyperperiod_of table)
    unfolding within_limit
    given_round =
        let within : leb (hyperperiod_of table) 1000000 ≡ true =
        ap (λ t. leb (hyperperiod_of t) 1000000) is ∙ accepted_within image whole accepted in
        said ∙ rw within

    pub is_round : {ticks : ℕ} → round ≡ Some ticks → ticks ≡ hyperperiod_of table
    is_round {ticks} told =
        let same : gives ticks ≡ gives (hyperperiod_of table) = ap said_of_round (sym told) ∙ given_round in
        cc

    pub never_above : round ≡ None → ⊥
    never_above told = gives_no_refusal (sym given_round ∙ ap said_of_round told)

module _ (whole : Whole) (table : Table) (is : table ≡ whole.table) {long : Bool}
    (tested : long ≡ some_below table.cores (λ core. ltb 65536 (length (listing_of table core))))
  where
    same_test : long ≡ some_below whole.table.cores (λ core. ltb 65536 (length (listing_of whole.table core)))
    same_test = rw is at tested

    -- a listing is too long
    pub too_long_text : long ≡ true → printable whole ≡ refuses 11 0
    unfolding printable
    too_long_text true_is = rw (sym same_test ∙ true_is)

    -- none is: the first part of the text, and then the chains' lines
    pub whole_text_lem : long ≡ false → {held middle made : Text}
        → Puts held middle (named hyperperiod_word (hyperperiod_of table)
        ++ newline ∷ each_below table.cores (λ core. core_text (core_listing table core)))
        → Puts middle made (each_below table.chains (λ k. chain_text k (ages_of_chain whole.table whole.rows k)))
        → Puts held made (text_of (printable whole))
    unfolding printable text_of whole_text
    whole_text_lem false_is first chains =
        rw (sym same_test ∙ false_is) (put_then (rw is at first) (rw (ap (λ t. t.chains) is) at chains))

-- of an image: accepted, or refused
pub of_accepted : (image : List ℕ) (whole : Whole) → read_image image ≡ gives whole
    → printed image ≡ text_of (printable whole)
unfolding printed
of_accepted image whole accepted = rw accepted

pub of_refused : (image : List ℕ) {number place : ℕ} → asked_of (read_image image) printable ≡ refuses number place
    → printed image ≡ text_of (refuses number place)
unfolding printed
of_refused image refused = ap text_of refused

-- a chain of an accepted image, asked for its ages
module _ (image : List ℕ) (whole : Whole) (accepted : read_image image ≡ gives whole) (chain : ℕ)
    (known : chain < whole.table.chains) (answer : Result Ages Refused) (said : said_of_ages answer ≡ ages image chain)
  where
    aged : said_of_ages answer ≡ gives (ages_of_chain whole.table whole.rows chain)
    unfolding ages
    aged = said ∙ rw (accepted, lt-ltb _ _ known)

    pub never_refused : {refused : Refused} → answer ≡ Err refused → ⊥
    never_refused told = gives_no_refusal (sym aged ∙ ap said_of_ages told)

    pub ages_told : {told : Ages} → answer ≡ Ok told
        → record {
          paths = told.paths;
          longest = told.longest;
          worst = told.worst;
          best = told.best;
          jitter = told.jitter;
        }
        ≡ ages_of_chain whole.table whole.rows chain
    ages_told told = same_given (ap said_of_ages (sym told) ∙ aged)
