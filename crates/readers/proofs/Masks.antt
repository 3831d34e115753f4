-- Readers fields as masks of 32 bits: `and` and `or` task by task, and one task's own mask. No contract cites this
-- file. Assumes nothing.
use Prim.Native.Nat.{ℕ, suc, ◌-◌, ◌/◌, ◌%◌, ◌^◌, ◌<◌}
use mathlib.Core.Path.{◌≡◌, sym, ap, ap₂, ◌∙◌}
use mathlib.Core.Bool.{◌&&◌, ◌||◌}
use native.Mathlib.Omega.{arith}
use lib.Bits.{bit_and, bit_or}
use lib.Dec.{eqb, ltb}
use Rattle.masks.specs.Masks.{holds}
use Rattle.masks.proofs.Bitwise.{and_holds, or_holds, shifted_alone, alone_holds}
use Rattle.table.specs.Table.{marks}

-- a task is marked where the mask holds it
pub marks_holds : (mask i : ℕ) → marks mask i ≡ holds 32 mask i
unfolding marks holds
marks_holds mask i =
    let place : 31 - i ≡ 32 - suc i = omega arith in ap (λ k. ltb i 32 && eqb (mask / 2 ^ k % 2) 1) place

-- a task is marked by an `and` where both mark it
pub and_marks : (a b i : ℕ) → marks (bit_and a b) i ≡ (marks a i && marks b i)
and_marks a b i =
    marks_holds (bit_and a b) i ∙ and_holds 32 a b i ∙ sym (ap₂ ◌&&◌ (marks_holds a i) (marks_holds b i))

-- and by an `or` where one of them marks it
pub or_marks : (a b i : ℕ) → marks (bit_or a b) i ≡ (marks a i || marks b i)
or_marks a b i = marks_holds (bit_or a b) i ∙ or_holds 32 a b i ∙ sym (ap₂ ◌||◌ (marks_holds a i) (marks_holds b i))

-- the mask that marks one task
pub own_marks : (r i : ℕ) → r < 32 → marks (2147483648 / 2 ^ r) i ≡ eqb i r
own_marks r i known =
    ap (λ mask. marks mask i) (shifted_alone 32 r known) ∙ marks_holds (2 ^ (32 - suc r)) i ∙ alone_holds 32 r i known

-- a mask with one more task
pub one_more_marks : (mask r i : ℕ) → r < 32 → marks (bit_or mask (2147483648 / 2 ^ r)) i ≡ (marks mask i || eqb i r)
one_more_marks mask r i known = or_marks mask _ i ∙ rw (own_marks r i known)
