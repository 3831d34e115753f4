-- What is given to a question: bytes that are given for a core are its listing. Assumes nothing.
use Prim.Native.Nat.{ℕ}
use mathlib.Core.Bool.{Bool, true, false}
use mathlib.Core.Path.{◌≡◌, sym}
use mathlib.Core.List.{List}
use lib.Dec.{leb, ltb}
use lib.ListN.{length}
use Rattle.outcomes.specs.Outcome.{Outcome, gives, refused_unless}
use Rattle.outcomes.proofs.Outcomes.{same_given, gives_no_refusal}
use Rattle.table.specs.Image.{Whole, read_image}
use Rattle.copies.specs.Listing.{listing_of}
use Rattle.questions.specs.Questions.{core_listed, listing}

-- what is given was not refused before
past : {A : Type 0} (number : ℕ) (right : Bool) {rest : Outcome A} {a : A} → refused_unless number right rest ≡ gives a
    → rest ≡ gives a
past number true e = e
past number false e = absurd (gives_no_refusal (sym e))

pub listing_given : (image : List ℕ) (whole : Whole) (core room : ℕ) (bytes : List ℕ) → read_image image ≡ gives whole
    → listing image core room ≡ gives bytes → bytes ≡ listing_of whole.table core
unfolding listing core_listed
listing_given image whole core room bytes accepted e =
    let asked = rw accepted at e in
    let known = ltb core whole.table.cores in
    let enough = leb (length (listing_of whole.table core)) room in
    sym (same_given (past 11 enough (past 12 known asked)))
