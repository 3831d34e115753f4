-- A refused image is refused by one of the numbers 1 to 10, at a bit of the image or at its end. Document 01, Numbers
-- that say no: 11 to 13 belong to what is asked of an accepted table. Assumes nothing.
use Prim.Native.Nat.{ℕ, ◌≤◌}
use mathlib.Core.Bool.{Bool}
use mathlib.Core.Path.{◌≡◌}
use mathlib.Core.List.{List}
use native.Mathlib.Omega.{arith}
use Rattle.outcomes.specs.Outcome.{Outcome, gives, refuses, asked_of}
use Rattle.outcomes.proofs.Outcomes.{same_number, gives_no_refusal}
use Rattle.bits.specs.Bits.{bit_count}
use Rattle.taking.specs.Reading.{Taker, Taken, ◌then◌, field, in_row}
use Rattle.taking.proofs.Stays.{Within, Stays, done_stays, then_stays, check_stays, field_stays, row_stays, ends_stays}
use Rattle.table.specs.Image.{Whole, head_fields, task_fields, label_fields, chain_fields, fill, all_fields}
use Rattle.table.specs.Image.{whole_fields, read_image}

-- a number of the image's refusals
abbrev pub OfImage : ℕ → Type 0
OfImage number = (1 ≤ number) × (number ≤ 10)

ends : OfImage 1
ends = (omega arith, omega arith)

-- a field that is refused by such a number
one_stays : (width number : ℕ) (right : ℕ → Bool) → OfImage number → Stays OfImage (field width number right)
one_stays = field_stays OfImage ends

-- and then the rest
next_stays : {B : Type 0} (width number : ℕ) (right : ℕ → Bool) (rest : ℕ → Taker B) → OfImage number
    → ((value : ℕ) → Stays OfImage (rest value)) → Stays OfImage (field width number right then rest)
next_stays width number right rest allowed of_rest =
    then_stays OfImage (field width number right) rest (one_stays width number right allowed) of_rest

all_stays : Stays OfImage all_fields
unfolding all_fields head_fields task_fields label_fields chain_fields fill
all_stays =
    then_stays OfImage head_fields _
    (next_stays 4 2 _ _ (omega arith) (λ version.
    next_stays 4 3 _ _ (omega arith) (λ cores.
    next_stays 6 3 _ _ (omega arith) (λ tasks.
    next_stays 7 3 _ _ (omega arith) (λ labels.
    next_stays 5 3 _ _ (omega arith) (λ chains. done_stays OfImage _)))))) (λ head.
    then_stays OfImage (in_row head.tasks _) _ (row_stays OfImage ends _ (λ before.
    next_stays 3 4 _ _ (omega arith) (λ core.
    next_stays 20 5 _ _ (omega arith) (λ period. done_stays OfImage _))) _) (λ tasks.
    then_stays OfImage (in_row head.labels _) _ (row_stays OfImage ends _ (λ before.
    next_stays 5 6 _ _ (omega arith) (λ writer.
    next_stays 32 7 _ _ (omega arith) (λ readers. done_stays OfImage _))) _) (λ labels.
    then_stays OfImage (in_row head.chains _) _ (row_stays OfImage ends _ (λ before.
    next_stays 4 8 _ _ (omega arith) (λ length.
    row_stays OfImage ends _ (λ before. one_stays 5 8 _ (omega arith)) length)) _) (λ chains.
    then_stays OfImage fill _ (ends_stays OfImage ends 9 (omega arith)) (λ filled. done_stays OfImage _)))))

whole_stays : Stays OfImage whole_fields
unfolding whole_fields
whole_stays =
    then_stays OfImage all_fields _ all_stays (λ whole.
    then_stays OfImage _ _ (check_stays OfImage _ 10 (omega arith)) (λ checked. done_stays OfImage whole))

-- a refused image: its number, and its place
pub image_refusal : (image : List ℕ) (number place : ℕ) → read_image image ≡ refuses number place
    → (1 ≤ number) × (number ≤ 10) × (place ≤ bit_count image)
unfolding read_image
image_refusal image number place e = go (whole_fields image 0) (whole_stays.from image 0 (omega arith)) e
  where
    go : (outcome : Outcome (Taken Whole)) → Within OfImage image outcome
        → asked_of outcome (λ taken. gives taken.value) ≡ refuses number place
        → (1 ≤ number) × (number ≤ 10) × (place ≤ bit_count image)
    go (gives taken) within e = absurd (gives_no_refusal e)
    go (refuses m q) refused e = let same = same_number e in omega (arith, refused)
