-- `put` of `packing::Pen` meets its contract: the field is joined to the bits that wait, and four bytes go out once there are
-- 32 bits. Assumes nothing.
use Prim.Native.Nat.{◌+◌, ◌-◌, ◌%◌}
use mathlib.Core.Path.{◌≡◌}
use native.Mathlib.Omega.{arith}
use Rattle.packing.proofs.Inking.{inked_length, inked_waiting, inked_out}
use Rattle.packing.proofs.Words.{joined_bits}
use Rattle.packing.proofs.Pen.put.Goals as goal

pub returns-then-filled-lt32 : goal.returns-then-filled-lt32
returns-then-filled-lt32 c held bits inked counted narrow small =
    let a = c.args in
    let waits = inked.few in
    let wide : a.width % 64 ≡ a.width = omega arith in
    let all : a.self.filled % 32 + a.width % 64 ≡ a.self.filled + a.width = omega arith in
    inked_waiting held _ bits a.self inked _ _ _ c.if-filled-lt32.true
    (rw (c.from.ensures, all, wide) (joined_bits a.self.word a.self.filled a.width (omega arith) a.value small))

pub returns : goal.returns
returns c held bits inked counted narrow small =
    let a = c.args in
    let waits = inked.few in
    let long = inked_length held _ bits a.self inked in
    let wide : a.width % 64 ≡ a.width = omega arith in
    let all : 32 + (a.self.filled % 32 + a.width % 64 - 32) ≡ a.self.filled + a.width = omega arith in
    let stored = c.store_four-next.ensures (omega arith) in
    rw (stored.0, stored.1)
    (inked_out held _ bits a.self inked _ _ _ (omega arith)
    (rw (c.from.ensures, all, wide) (joined_bits a.self.word a.self.filled a.width (omega arith) a.value small)))
