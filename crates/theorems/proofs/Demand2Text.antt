-- DEMAND 2, continued: what is printed. To be read before: printing/specs/Words and Printed, texts/specs/Puts (under
-- crates/). How a contract is quoted: Demand1.antt. Assumes nothing.
use Prim.Native.Nat.{ℕ, ◌≤◌}
use mathlib.Core.Path.{◌≡◌}
use mathlib.Core.List.{List}
use lib.ListN.{length}
use Rattle.outcomes.specs.Outcome.{gives}
use Rattle.table.specs.Image.{Whole, read_image}
use Rattle.printing.specs.Printed.{printed}
use Rattle.whole_texts.proofs.put_text.Met as text_met
use Rattle.whole_texts.proofs.put_text.Statement as asked_text
use Rattle.whole_texts.proofs.Lengths.{accepted_short}

-- What is printed of any bytes, accepted or refused, is put into lent bytes as document 01's definition `printed` says
-- (crates/whole_texts, src/lib.rt):  PutsText held bytes 0 r (printed image)
pub text_put : {M : Type 1} → asked_text.statement M
text_put = text_met.met

-- A buffer of 2,447,876 bytes has room for every text of an accepted image.
pub text_has_room : (image : List ℕ) (whole : Whole) → read_image image ≡ gives whole → length (printed image) ≤ 2447876
text_has_room = accepted_short
