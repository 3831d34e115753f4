-- `whole_texts::room` meets its contract. The level and the type are written out: without them the two lists are
-- compared entry by entry. Assumes nothing.
use Prim.Native.Nat.{ℕ}
use mathlib.Core.Path.{sym}
use lib.ListN.{length-replicate}
use Rattle.whole_texts.proofs.room.Goals as goal

pub returns : goal.returns
returns c = sym (length-replicate {0} {A = ℕ} 2621440 0)
