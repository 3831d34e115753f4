-- What a test says, as equations: of one that is true together with another, of "and" and of "or". Assumes nothing.
use mathlib.Core.Path.{◌≡◌, refl, sym}
use mathlib.Core.Logic.{◌⊎◌, inl, inr}
use mathlib.Core.Bool.{Bool, true, false, ◌&&◌, ◌||◌, false≢true}

-- a test is true or false
pub true_or_false : (a : Bool) → (a ≡ true) ⊎ (a ≡ false)
true_or_false true = inl refl
true_or_false false = inr refl

-- a test that cannot be true is false
pub false_unless_true : (a : Bool) → ¬ (a ≡ true) → a ≡ false
false_unless_true true h = absurd (h refl)
false_unless_true false h = refl

-- a false test is not true
pub not_both : (a : Bool) → a ≡ true → a ≡ false → ⊥
not_both true h k = false≢true (sym k)
not_both false h k = false≢true h

-- two tests of which each is true where the other is
pub same_test : (a b : Bool) → (a ≡ true → b ≡ true) → (b ≡ true → a ≡ true) → a ≡ b
same_test true b f g = sym (f refl)
same_test false true f g = g refl
same_test false false f g = refl

-- both parts of an "and"
pub and_parts : (a b : Bool) → (a && b) ≡ true → (a ≡ true) × (b ≡ true)
and_parts true b h = (refl, h)
and_parts false b h = absurd (false≢true h)

pub and_of_parts : (a b : Bool) → a ≡ true → b ≡ true → (a && b) ≡ true
and_of_parts true b h k = k
and_of_parts false b h k = h

-- a part of an "or"
pub or_part : (a b : Bool) → (a || b) ≡ true → (a ≡ true) ⊎ (b ≡ true)
or_part true b h = inl refl
or_part false b h = inr h

pub or_of_left : (a b : Bool) → a ≡ true → (a || b) ≡ true
or_of_left true b h = refl
or_of_left false b h = absurd (false≢true h)

pub or_of_right : (a b : Bool) → b ≡ true → (a || b) ≡ true
or_of_right true b h = refl
or_of_right false b h = h
