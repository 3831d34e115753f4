-- `texts::Text::put_word` meets its contract. The loop's invariant: the bytes passed were put. Assumes nothing.
use lib.ListN.{take}
use Rattle.texts.specs.Puts.{Puts}
use Rattle.texts.proofs.Text.put_word.Given as goal

abbrev pub invariant-loop-byte : goal.invariant-loop-byte
invariant-loop-byte l = Puts l.initial.self l.self (take l.byte-index l.word)
