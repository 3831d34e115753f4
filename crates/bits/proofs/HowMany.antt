-- How many bits fields have: none, one more, and those of each of a list. Assumes nothing.
use Prim.Native.Nat.{ℕ, ◌+◌, ◌*◌}
use mathlib.Core.Path.{◌≡◌, refl, ap, ◌∙◌}
use mathlib.Core.List.{List, [], ◌∷◌, ◌++◌}
use native.Mathlib.Omega.{arith}
use lib.ListN.{length, length-append}
use Rattle.lists.specs.Lists.{each_of}
use Rattle.bits.specs.Packing.{Field, bits, bits_of, bits_of_all}
use Rattle.bits.proofs.Held.{bits_in}
use Rattle.bits.proofs.ReadBack.{all_written_append}
use Rattle.bits.proofs.Written.{written_length}

pub bits_none : bits_in [] ≡ 0
unfolding bits_of_all each_of
bits_none = refl

pub bits_more : (w v : ℕ) (fields : List Field) → bits_in (bits w v ∷ fields) ≡ w + bits_in fields
unfolding bits_of_all each_of
bits_more w v fields =
    length-append (bits_of w v) (bits_of_all fields) ∙ ap (λ n. n + bits_in fields) (written_length w v)

pub bits_both : (fs gs : List Field) → bits_in (fs ++ gs) ≡ bits_in fs + bits_in gs
bits_both fs gs = ap length (all_written_append fs gs) ∙ length-append (bits_of_all fs) (bits_of_all gs)

-- things whose fields have as many bits each
pub bits_each : {A : Type 0} (f : A → List Field) (size : ℕ) → ((x : A) → bits_in (f x) ≡ size)
    → (xs : List A) → bits_in (each_of xs f) ≡ size * length xs
unfolding each_of
bits_each f size each [] = omega (arith, bits_none)
bits_each f size each (x ∷ xs) =
    omega (arith, bits_both (f x) (each_of xs f), each x, bits_each f size each xs)
