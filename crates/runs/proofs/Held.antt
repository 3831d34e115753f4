-- A place that takes a new value at the ticks that pass a test and keeps it at the others: what it holds after n ticks.
-- Assumes nothing.
use Prim.Native.Nat.{ℕ, zero, suc, ◌≤◌, ◌<◌}
use mathlib.Core.Bool.{Bool, true, false, cond}
use mathlib.Core.Path.{◌≡◌, refl, ap, ◌∙◌}
use mathlib.Core.Logic.{◌≢◌}
use native.Mathlib.Decide.{dec_le}
use native.Mathlib.Omega.{arith}
use Rattle.lists.proofs.Bools.{not_both, false_unless_true}
use Rattle.runs.specs.Sufficing.{LastUpTo}

-- what is held after n ticks, where `given t` is what tick t has to give
unfoldable pub held : {Value : Type 0} → (test : ℕ → Bool) (given : ℕ → Value) → Value → ℕ → Value
held test given first zero = first
held test given first (suc t) = cond (test t) (given t) (held test given first t)

-- a test that passes only where another does fails where the other does
pub not_so : (a : Bool) {b : Bool} → (a ≡ true → b ≡ true) → b ≡ false → a ≡ false
not_so a {b} so e = false_unless_true a (λ is. not_both b (so is) e)

module _ {Value : Type 0} (test : ℕ → Bool) (given : ℕ → Value) (first : Value) where
  pub held_taken : (t : ℕ) → test t ≡ true → held test given first (suc t) ≡ given t
  unfolding held
  held_taken t e = rw e

  pub held_kept : (t : ℕ) → test t ≡ false → held test given first (suc t) ≡ held test given first t
  unfolding held
  held_kept t e = rw e

  -- what every passing tick since one of them gives
  pub held_since : (x : Value) (w n : ℕ) → w < n → test w ≡ true
      → ((t : ℕ) → w ≤ t → t < n → test t ≡ true → given t ≡ x) → held test given first n ≡ x
  held_since x w zero early passes gives = absurd (omega arith)
  held_since x w (suc n) early passes gives =
      go (test n) refl (λ earlier. held_since x w n earlier passes (λ t from before. gives t from (omega arith)))
    where
      go : (b : Bool) → test n ≡ b → (w < n → held test given first n ≡ x) → held test given first (suc n) ≡ x
      go true e before = held_taken n e ∙ gives n (omega arith) (omega arith) e
      go false e before =
          let other : w ≢ n = λ same. not_both (test w) passes (ap test same ∙ e) in
          held_kept n e ∙ before (omega arith)

  -- what it held at first, where no passing tick gives anything else
  pub held_first : (n : ℕ) → ((t : ℕ) → t < n → test t ≡ true → given t ≡ first) → held test given first n ≡ first
  unfolding held
  held_first zero gives = refl
  held_first (suc n) gives = go (test n) refl (held_first n (λ t early. gives t (omega arith)))
    where
      go : (b : Bool) → test n ≡ b → held test given first n ≡ first → held test given first (suc n) ≡ first
      go true e before = held_taken n e ∙ gives n (omega arith) e
      go false e before = held_kept n e ∙ before

-- up to a tick, either no tick passes the test or one is the last
pub data Latest (test : ℕ → Bool) (end : ℕ) : Type 0 where
  never : ((t : ℕ) → t ≤ end → test t ≡ false) → Latest test end
  last : (w : ℕ) → LastUpTo test end w → Latest test end

pub latest : (test : ℕ → Bool) (end : ℕ) → Latest test end
latest test zero = go (test 0) refl
  where
    go : (b : Bool) → test 0 ≡ b → Latest test 0
    go true e =
        last 0 (record { passes = e; in_time = omega arith; none_later = λ u later early. absurd (omega arith) })
    go false e = never (λ t early. ap test (omega arith) ∙ e)
latest test (suc n) = go (test (suc n)) refl (latest test n)
  where
    later : (u : ℕ) → u ≤ suc n → (u ≤ n → test u ≡ false) → test (suc n) ≡ false → test u ≡ false
    later u early below e = elim (dec_le u n) [ yes h ↦ below h | no h ↦ ap test (omega arith) ∙ e ]

    go : (b : Bool) → test (suc n) ≡ b → Latest test n → Latest test (suc n)
    go true e before =
        last (suc n) (record { passes = e; in_time = omega arith; none_later = λ u later early. absurd (omega arith) })
    go false e (never none) = never (λ t early. later t early (λ below. none t below) e)
    go false e (last w is) =
        last w (record {
          passes = is.passes;
          in_time = omega (arith, is.in_time);
          none_later = λ u after early. later u early (λ below. is.none_later u after below) e;
        })
