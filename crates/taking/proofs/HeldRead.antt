-- Fields that an image holds are read: one field, one thing after the other, and a row. Assumes nothing.
use Prim.Native.Nat.{ℕ, zero, suc, ◌+◌, ◌<◌, ◌≤◌, ◌^◌}
use mathlib.Core.Bool.{Bool, true}
use mathlib.Core.Path.{◌≡◌, sym, ap, ◌∙◌, subst}
use mathlib.Core.List.{List, [], ◌∷◌, ◌++◌, append-nil}
use native.Mathlib.Nat.{add-zero, add_assoc}
use native.Mathlib.Omega.{arith}
use borrow.Author.Tests.{le-leb}
use lib.ListN.{length, get_or, take}
use lib.Seq.{take-suc, take-length}
use Rattle.lists.specs.Lists.{each_of}
use Rattle.lists.proofs.Each.{each_of_append}
use Rattle.bits.specs.Bits.{bit_count}
use Rattle.bits.specs.Found.{found_at}
use Rattle.bits.specs.Packing.{Field, bits, bits_of, bits_of_all}
use Rattle.bits.proofs.Written.{written_length}
use Rattle.bits.proofs.ReadBack.{all_written_append}
use Rattle.bits.proofs.Held.{Held, held_first, held_rest, bits_in}
use Rattle.bits.proofs.HowMany.{bits_both}
use Rattle.bits.proofs.FieldLaws.{field_read_of_written}
use Rattle.outcomes.specs.Outcome.{gives}
use Rattle.taking.specs.Reading.{Taker, done, ◌then◌, field, in_row}

-- fields in two parts
module _ (fs gs : List Field) where
  pub held_parts : (image : List ℕ) (at : ℕ) → Held image at (bits_of_all (fs ++ gs))
      → Held image at (bits_of_all fs) × Held image (at + bits_in fs) (bits_of_all gs)
  held_parts image at held =
      let both = subst (Held image at) (all_written_append fs gs) held in
      (held_first image at (bits_of_all fs) (bits_of_all gs) both, held_rest image at (bits_of_all fs) (bits_of_all gs) both)

-- wherever the fields are held, the taker takes them and gives the value
pub record Reads {A : Type 0} (taker : Taker A) (fields : List Field) (value : A) : Type 0 where
  pub taken : (image : List ℕ) (at : ℕ) → Held image at (bits_of_all fields)
      → taker image at ≡ gives (record { value = value; next = at + bits_in fields })

pub done_reads : {A : Type 0} (value : A) → Reads (done value) [] value
unfolding bits_of_all each_of
done_reads value = record {
  taken = λ image at held. ap (λ next. gives (record { value = value; next = next })) (sym (add-zero at));
}

pub then_reads : {A B : Type 0} {first : Taker A} (rest : A → Taker B) {fs gs : List Field} {a : A} {b : B}
    → Reads first fs a → Reads (rest a) gs b → Reads (first then rest) (fs ++ gs) b
then_reads {A} {B} {first} rest {fs} {gs} {a} {b} of_first of_rest = record {
  taken = λ image at held.
      let parts = held_parts fs gs image at held in
      let one = of_first.taken image at parts.0 in
      let other = of_rest.taken image (at + bits_in fs) parts.1 in
      rw (one, other, bits_both fs gs, add_assoc at (bits_in fs) (bits_in gs));
}

pub field_reads : (w number v : ℕ) (right : ℕ → Bool) → v < 2 ^ w → right v ≡ true
    → Reads (field w number right) (bits w v ∷ []) v
unfolding field found_at bits_of_all each_of
field_reads w number v right small passes = record {
  taken = λ image at held.
      let whole = append-nil (bits_of w v) in
      let own = subst (Held image at) whole held in
      let long = written_length w v in
      let value = field_read_of_written image at w v small own in
      let most = own.inside in
      let within = le-leb (at + w) (bit_count image) (omega arith) in
      rw (within, value, passes, whole, long);
}

-- a row, each of it read after those before it
pub row_reads : {A : Type 0} (one : List A → Taker A) (f : A → List Field) (d : A) (xs : List A)
    → ((k : ℕ) → k < length xs → Reads (one (take k xs)) (f (get_or xs k d)) (get_or xs k d))
    → Reads (in_row (length xs) one) (each_of xs f) xs
unfolding in_row each_of
row_reads {A} one f d xs each = subst (λ l. Reads (in_row (length xs) one) (each_of l f) l) (take-length xs)
    (first (length xs) (omega arith))
  where
    first : (n : ℕ) → n ≤ length xs → Reads (in_row n one) (each_of (take n xs) f) (take n xs)
    first zero all = done_reads []
    first (suc n) all =
        let more = take-suc xs n d all in
        let x = get_or xs n d in
        let adds : each_of (take (suc n) xs) f ≡ each_of (take n xs) f ++ (f x ++ []) =
        ap (λ l. each_of l f) more ∙ each_of_append f (take n xs) (x ∷ []) in
        subst (λ fs. Reads (in_row (suc n) one) fs (take (suc n) xs)) (sym adds)
        (subst (Reads (in_row (suc n) one) _) (sym more)
        (then_reads (λ before. one before then λ next. done (before ++ next ∷ [])) (first n (omega arith))
        (then_reads (λ next. done (take n xs ++ next ∷ [])) (each n all) (done_reads (take n xs ++ x ∷ [])))))
