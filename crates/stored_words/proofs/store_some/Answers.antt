-- `stored_words::store_some` meets its contract. The loop's invariant: the bytes passed were stored one after the other.
-- Assumes nothing.
use mathlib.Core.Path.{◌≡◌, refl, ◌∙◌}
use native.Mathlib.Omega.{arith}
use Rattle.lists.proofs.Over.{stored_last}
use Rattle.bits.specs.Packing.{bytes_of}
use Rattle.bits.proofs.BytesOf.{length_bytes}
use Rattle.stored_words.proofs.FourStored.{bytes_more}
use Rattle.stored_words.proofs.store_some.Goals as goal

pub loop-i-init : goal.loop-i-init
unfolding bytes_of
loop-i-init c = refl

pub loop-i-preserved : goal.loop-i-preserved
loop-i-preserved c =
    let loop = c.loop-i in
    c.store.ensures
    ∙ rw (c.last_four-four.ensures, bytes_more c.args.word loop.i (omega arith), stored_last, length_bytes, loop.invariant)

pub returns : goal.returns
returns c =
    let all : c.loop-i.i ≡ c.args.count = omega arith in
    rw (← all) c.loop-i.invariant
