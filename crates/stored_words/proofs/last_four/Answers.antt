-- `stored_words::last_four` meets its contract. Assumes nothing.
use mathlib.Core.Path.{◌∙◌}
use Rattle.stored_words.proofs.FourStored.{last_bytes}
use Rattle.stored_words.proofs.last_four.Goals as goal

pub returns : goal.returns
returns c = c.to_be_bytes.ensures ∙ last_bytes c.args.word
