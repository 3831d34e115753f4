-- `stored_words::store` meets its contract: past the end a store changes nothing. Assumes nothing.
use mathlib.Core.Path.{sym}
use lib.Seq.{set_out}
use Rattle.stored_words.proofs.store.Goals as goal

pub returns-else-place-bytes : goal.returns-else-place-bytes
returns-else-place-bytes c = sym (set_out _ _ _ c.if-place-bytes.false)
