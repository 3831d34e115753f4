-- Text put into lent bytes from a place on. Assumes nothing.
use Rattle.std.specs.Prelude.{ℕ, ◌+◌, min, max, ◌≡◌, List, length}
use Rattle.std.proofs.lemmas.List.Edits.{sets}
use Rattle.texts.specs.declared.Text.{Text}

-- the text stands in the bytes from `at` on, as far as they go, and every other byte is the one that was held; the next
-- place is the one after the text, and where there is no room for all of it the end of the bytes
pub record PutsText (held bytes : List ℕ) (at next : ℕ) (text : List ℕ) : Type 0 where
  pub written : bytes ≡ sets held at text
  pub place : next ≡ max at (min (at + length text) (length held))

-- the same of a text that is being made, in the bytes it began with
pub record Puts (held made : Text) (text : List ℕ) : Type 0 where
  pub in_place : made.bytes.ghost_name ≡ held.bytes.ghost_name
  pub put : PutsText held.bytes.now made.bytes.now held.at made.at text
