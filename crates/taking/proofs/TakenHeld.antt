-- What was taken is held: of one field, of one thing after the other, and of a row, the fields that the image holds
-- there. Assumes nothing.
use Prim.Native.Nat.{ℕ, zero, suc, ◌+◌, ◌≤◌}
use mathlib.Core.Bool.{Bool, true}
use mathlib.Core.Path.{◌≡◌, refl, sym, ap, ◌∙◌, subst}
use mathlib.Core.List.{List, [], ◌∷◌, ◌++◌, append-nil}
use native.Mathlib.Nat.{add-zero}
use native.Mathlib.Numerals.{add-one}
use native.Mathlib.Omega.{arith}
use lib.ListN.{length, length-append}
use Rattle.lists.specs.Lists.{each_of}
use Rattle.lists.proofs.Each.{each_of_append}
use Rattle.bits.specs.Bits.{bit_count, field_at}
use Rattle.bits.specs.Packing.{Field, bits, bits_of, bits_of_all}
use Rattle.bits.proofs.Written.{written_length}
use Rattle.bits.proofs.ReadBack.{all_written_append}
use Rattle.bits.proofs.Held.{Held, held_both, bits_in}
use Rattle.bits.proofs.FieldLaws.{field_written_of_read}
use Rattle.outcomes.specs.Outcome.{Outcome, gives, refuses, asked_of}
use Rattle.taking.specs.Reading.{Taker, Taken, done, ◌then◌, field, in_row}
use Rattle.taking.proofs.FieldLaws.{taken_field}
use Rattle.outcomes.proofs.Outcomes.{same_given, gives_no_refusal}
use Rattle.bits.proofs.HowMany.{bits_both}

-- what was taken of two, one after the other
pub record Both {A B : Type 0} (first : Taker A) (rest : A → Taker B) (image : List ℕ) (at : ℕ) (given : Taken B)
    : Type 0 where
  pub taken : Taken A
  pub one : first image at ≡ gives taken
  pub other : rest taken.value image taken.next ≡ gives given

pub then_both : {A B : Type 0} (first : Taker A) (rest : A → Taker B) (image : List ℕ) (at : ℕ) (given : Taken B)
    → (first then rest) image at ≡ gives given → Both first rest image at given
then_both {A} {B} first rest image at given e = go (first image at) refl e
  where
    go : (outcome : Outcome (Taken A)) → first image at ≡ outcome
        → asked_of outcome (λ taken. rest taken.value image taken.next) ≡ gives given
        → Both first rest image at given
    go (gives taken) is e = record { taken = taken; one = is; other = e }
    go (refuses number place) is e = absurd (gives_no_refusal (sym e))

-- the fields of what was taken, as the image holds them; the next bit is the one after them
pub record FieldsOf {A : Type 0} (As : A → List Field → Type 0) (image : List ℕ) (at : ℕ) (given : Taken A) : Type 0
  where
    pub fields : List Field
    pub own : As given.value fields
    pub held : Held image at (bits_of_all fields)
    pub next : given.next ≡ at + bits_in fields

abbrev pub Holds : {A : Type 0} → (A → List Field → Type 0) → Taker A → Type 0
Holds As taker = (image : List ℕ) (at : ℕ) (given : Taken _) → at ≤ bit_count image → taker image at ≡ gives given
    → FieldsOf As image at given

pub done_holds : {A : Type 0} (As : A → List Field → Type 0) (a : A) → As a [] → Holds As (done a)
unfolding bits_of_all each_of
done_holds As a of_a image at given inside e = record {
  fields = [];
  own = subst (λ taken. As taken.value []) (same_given e) of_a;
  held = record { inside = omega arith; each = λ j below. absurd (omega arith) };
  next = sym (ap (λ taken. taken.next) (same_given e)) ∙ sym (add-zero at);
}

pub then_holds : {A B : Type 0} (As : A → List Field → Type 0) (Bs : B → List Field → Type 0)
    (first : Taker A) (rest : A → Taker B) → Holds As first
    → ((a : A) (fs : List Field) → As a fs → Holds (λ b gs. Bs b (fs ++ gs)) (rest a))
    → Holds Bs (first then rest)
then_holds As Bs first rest of_first of_rest image at given inside e =
    let both = then_both first rest image at given e in
    let fs = of_first image at both.taken inside both.one in
    let most = fs.held.inside in
    let after = fs.next in
    let gs = of_rest both.taken.value fs.fields fs.own image both.taken.next given (omega arith)
    both.other in
    let last = gs.next in
    record {
      fields = fs.fields ++ gs.fields;
      own = gs.own;
      held = subst (Held image at) (sym (all_written_append fs.fields gs.fields))
          (held_both image at (bits_of_all fs.fields) (bits_of_all gs.fields) fs.held
          (subst (λ place. Held image place (bits_of_all gs.fields)) fs.next gs.held));
      next = omega (arith, bits_both fs.fields gs.fields);
    }

pub field_holds : (As : ℕ → List Field → Type 0) (w number : ℕ) (right : ℕ → Bool)
    → ((v : ℕ) → right v ≡ true → As v (bits w v ∷ [])) → Holds As (field w number right)
unfolding bits_of_all each_of
field_holds As w number right of_right image at given inside e =
    let of_field = taken_field w number right at image given e in
    let v : ℕ = field_at image at w in
    subst (FieldsOf As image at) of_field.is (record {
      fields = bits w v ∷ [];
      own = of_right v of_field.passed;
      held = subst (Held image at) (sym (append-nil (bits_of w v)))
          (field_written_of_read image at w of_field.inside);
      next = ap (λ n. at + n) (sym (ap length (append-nil (bits_of w v)) ∙ written_length w v));
    })

-- a row: so many, each with its own fields
pub row_holds : {A : Type 0} (f : A → List Field) (one : List A → Taker A)
    → ((before : List A) → Holds (λ a fs. fs ≡ f a) (one before))
    → (n : ℕ) → Holds (λ row fs. (length row ≡ n) × (fs ≡ each_of row f)) (in_row n one)
unfolding in_row each_of
row_holds f one each zero = done_holds (λ row fs. (length row ≡ 0) × (fs ≡ each_of row f)) [] (refl, refl)
row_holds {A} f one each (suc n) =
    then_holds (λ row fs. (length row ≡ n) × (fs ≡ each_of row f)) Whole (in_row n one)
    (λ before. one before then λ next. done (before ++ next ∷ [])) (row_holds f one each n)
    (λ before fs so_far.
    then_holds (λ a gs. gs ≡ f a) (λ row gs. Whole row (fs ++ gs)) (one before) (λ next. done (before ++ next ∷ []))
    (each before)
    (λ next gs own.
    done_holds (λ row hs. Whole row (fs ++ (gs ++ hs))) (before ++ next ∷ []) (
      length-append before (next ∷ []) ∙ add-one (length before) ∙ ap suc so_far.0,
      rw (so_far.1, own) (sym (each_of_append f before (next ∷ []))),
    )))
  where
    Whole : List A → List Field → Type 0
    Whole row fs = (length row ≡ suc n) × (fs ≡ each_of row f)
