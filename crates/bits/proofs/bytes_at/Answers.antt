-- `bits::bytes_at` meets its contract. Assumes nothing.
use Prim.Native.Nat.{◌+◌, ◌*◌, ◌<◌}
use mathlib.Core.Path.{◌≡◌, refl, sym, ap, ◌∙◌}
use native.Mathlib.Omega.{arith}
use Rattle.std.proofs.Common.{slice_index_or}
use Rattle.bits.specs.Bits.{field_at}
use Rattle.bits.proofs.Bytes.{field_one_byte_more, four_bytes_below, part_at, part_long}
use Rattle.bits.proofs.bytes_at.Goals as goal
use Rattle.bits.proofs.bytes_at.Goals.{After-from, In-loop-byte}

-- the next byte is one of the few
inside : (c : In-loop-byte) → c.loop-byte.byte-index < c.args.count
inside c = omega (arith, part_long c.args.bytes.now c.args.from c.args.count c.requires.0, c.loop-byte-test.true)

-- the bytes passed are few, so their number is small
few_below : (c : In-loop-byte) → c.loop-byte.number < 4294967296
few_below c = rw c.loop-byte.invariant (four_bytes_below c.args.bytes.now _ _ (omega (arith, inside c)))

byte_is : (c : After-from) → c.from.result ≡ slice_index_or c.args.bytes.now (c.args.from + c.loop-byte.byte-index) 0
byte_is c =
    c.from.ensures ∙ part_at c.args.bytes.now c.args.from c.args.count c.requires.0 c.loop-byte.byte-index
    (inside (goal.at.overflow_add-number c).In-loop-byte)

byte_below : (c : After-from) → c.from.result < 256
byte_below c = rw (byte_is c) (omega (arith, c.type_inv.bytes (c.args.from + c.loop-byte.byte-index)))

pub loop-byte-init : goal.loop-byte-init
unfolding field_at
loop-byte-init c = refl

pub overflow_mul-number : goal.overflow_mul-number
overflow_mul-number c = omega (arith, few_below c)

pub overflow_add-number : goal.overflow_add-number
overflow_add-number c = omega (arith, byte_below c, few_below (goal.at.overflow_add-number c).In-loop-byte)

pub loop-byte-preserved : goal.loop-byte-preserved
loop-byte-preserved c =
    rw (c.loop-byte.invariant, byte_is c)
    (sym (field_one_byte_more _ _ _ (rw (← byte_is c) (byte_below c))))

pub returns : goal.returns
returns c =
    let all : c.loop-byte.byte-index ≡ c.args.count =
    omega (arith, part_long c.args.bytes.now c.args.from c.args.count c.requires.0, c.loop-byte-test.false, c.loop-byte.auto.byte-index-end) in
    c.loop-byte.invariant ∙ ap (λ i. field_at c.args.bytes.now (8 * c.args.from) (8 * i)) all
