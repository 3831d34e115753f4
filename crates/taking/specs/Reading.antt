-- How an image is read. Document 01, Numbers that say no: "Fields are taken in image order; each is read whole and
-- then checked, and the first that fails decides." A `Taker` takes an image and the bit at which it stands, and gives
-- a value with the bit after it, or the refusal's number and place. Assumes nothing.
use Rattle.std.specs.Prelude.{ℕ, zero, suc, ◌+◌, ◌-◌, ◌%◌, Bool, cond, List, [], ◌∷◌, ◌++◌, eqb, leb}
use Rattle.bits.specs.Bits.{bit_count}
use Rattle.bits.specs.Found.{found_at}
use Rattle.outcomes.specs.Outcome.{Outcome, gives, refuses, asked_of}

-- a value that was taken, and the next bit
pub record Taken (A : Type 0) : Type 0 where
  pub value : A
  pub next : ℕ

abbrev pub Taker : Type 0 → Type 0
Taker A = List ℕ → ℕ → Outcome (Taken A)

-- nothing is taken
abbrev pub done : {A : Type 0} → A → Taker A
done value image at = gives (record { value = value; next = at })

-- one after the other, each handed what was taken before it: the first refusal decides
infixl 20 ◌then◌
abbrev pub ◌then◌ : {A B : Type 0} → Taker A → (A → Taker B) → Taker B
◌then◌ first rest image at = asked_of (first image at) (λ taken. rest taken.value image taken.next)

-- the next field, of `width` bits, "read whole and then checked": refused by 1 where the image ends inside or before
-- it, by `number` where the value read is not right, both at the start of the field
unfoldable pub field : (width number : ℕ) → (ℕ → Bool) → Taker ℕ
field width number right image at =
    asked_of (found_at image at width) (λ value.
    cond (right value) (gives (record { value = value; next = at + width })) (refuses number at))

-- so many in a row; each is handed those before it
unfoldable pub in_row : {A : Type 0} → ℕ → (List A → Taker A) → Taker (List A)
in_row zero one = done []
in_row (suc n) one = in_row n one then λ before. one before then λ next. done (before ++ next ∷ [])

-- one check more of what was taken: refused by `number`, at the bit where its taking began, unless it is right
unfoldable pub also_by : {A : Type 0} → (number : ℕ) → (A → Bool) → Taker A → Taker A
also_by number right first image at =
    asked_of (first image at) (λ taken. cond (right taken.value) (gives taken) (refuses number at))

-- a check that takes no field
unfoldable pub check : (right : Bool) (number place : ℕ) → Taker (Unit {0})
check right number place image at = cond right (done tt image at) (refuses number place)

-- how many bits there are from bit `at` to the end of its byte; none where a byte begins
abbrev pub fill_bits : ℕ → ℕ
fill_bits at = (8 - at % 8) % 8

-- "Zero bits fill the last byte": each is a field of one bit that has to be 0, else refused by `number` at that bit
unfoldable pub zero_bits : (number : ℕ) → Taker (List ℕ)
zero_bits number image at = in_row (fill_bits at) (λ before. field 1 number (λ bit. eqb bit 0)) image at

-- "nothing follows": else refused by `number` at the first bit that follows
unfoldable pub nothing_follows : (number : ℕ) → Taker (Unit {0})
nothing_follows number image at = check (leb (bit_count image) at) number at image at
