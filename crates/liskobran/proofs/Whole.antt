-- What is printed of as many bytes as are read is what is printed of the whole image, and it is written whole. No contract
-- cites this file. Assumes nothing.
use Rattle.std.proofs.Common.{ℕ, ◌≡◌, ◌+◌, ◌<◌, ◌≤◌, List, ◌++◌, length, take, drop, refl, sym, ap, ◌∙◌, arith, length-append}
use Rattle.std.specs.Prelude.{None, Some, IfSome, OnOk, Ok, Err}
use Rattle.std.specs.declared.option.Option.{Option}
use Rattle.std.specs.declared.result.Result.{Result}
use Rattle.std.specs.Io.KnownBytes.{Appends, Consumes, IsAtEnd}
use Rattle.std.proofs.lemmas.List.Edits.{sets-eq}
use Rattle.std.proofs.Math.Seq.{take-append_seam}
use mathlib.Core.List.{append-nil}
use mathlib.Core.Logic.{by_cases}
use native.Mathlib.Decide.{dec_lt}
use Rattle.outcomes.specs.Outcome.{Outcome, gives, refuses, asked_of}
use Rattle.bits.specs.Bits.{bit_count}
use Rattle.table.specs.Image.{Whole, read_image}
use Rattle.table.proofs.FirstBytes.{first_bytes_decide}
use Rattle.table.proofs.Numbers.{image_refusal}
use Rattle.printing.specs.Printed.{printed, printable, text_of}
use Rattle.texts.specs.Puts.{PutsText}
use Rattle.whole_texts.proofs.Lengths.{accepted_short, refusal_short}
use Rattle.whole_texts.proofs.Outcomes.{of_refused}

-- images that are read alike are printed alike
alike : (a b : List ℕ) → read_image a ≡ read_image b → printed a ≡ printed b
unfolding printed
alike a b same = rw same

-- a text that fits the bytes stands in them whole
pub stands_whole : {held bytes text : List ℕ} {next : ℕ} → PutsText held bytes 0 next text → length text ≤ length held
    → take next bytes ≡ text
stands_whole {held} {bytes} {text} {next} put fits =
    let long : next ≡ length text = omega (arith, put.place) in
    let same : bytes ≡ text ++ drop (0 + length text) held = put.written ∙ sets-eq text held 0 (omega arith) in
    rw (long, same) (take-append_seam text (drop (0 + length text) held))

-- where the input ended or 1,024 bytes were read
pub read_enough : (image : List ℕ) (rest : Option (List ℕ)) (read : List ℕ) → Consumes (Some image) rest read
    → length read ≤ 1024 → (length read < 1024 → IsAtEnd rest) → printed read ≡ printed image
read_enough image None read taken few end = absurd taken
read_enough image (Some rest) read taken few end =
    by_cases (dec_lt (length read) 1024)
    (λ less. ap printed (sym (append-nil read) ∙ ap (λ l. read ++ l) (sym (end less)) ∙ sym taken))
    (λ full.
    let all : length read ≡ 1024 = omega arith in
    let first : take 1024 image ≡ read = rw (taken, ← all) (take-append_seam read rest) in
    let long : 1024 ≤ length image = omega (arith, ap length taken, length-append read rest) in
    ap printed (sym first) ∙ alike (take 1024 image) image (first_bytes_decide image 1024 (omega arith) long))

-- what a write said of a text it says of an image's
pub written_of : {T E : Type 0} (r : Result T E) (known held now : Option (List ℕ)) (text : List ℕ)
    → ((image : List ℕ) → known ≡ Some image → text ≡ printed image) → OnOk r (Appends held now text)
    → OnOk r (IfSome known (λ image. Appends held now (printed image)))
written_of (Err _) known held now text is wrote = tt
written_of (Ok _) None held now text is wrote = tt
written_of (Ok _) (Some image) held now text is wrote = rw (is image refl) at wrote

-- what is printed of so many bytes has room in the buffer
pub text_short : (image : List ℕ) → length image ≤ 1024 → length (printed image) ≤ 2621440
unfolding bit_count
text_short image few = go (read_image image) refl
  where
    go : (outcome : Outcome Whole) → read_image image ≡ outcome → length (printed image) ≤ 2621440
    go (gives whole) accepted = omega (arith, accepted_short image whole accepted)
    go (refuses number place) refused =
        let known = image_refusal image number place refused in
        let short : length (text_of (refuses number place)) ≤ 32 =
        refusal_short number place (omega arith) (omega arith) in
        rw (of_refused image (ap (λ outcome. asked_of outcome printable) refused)) (omega arith)
