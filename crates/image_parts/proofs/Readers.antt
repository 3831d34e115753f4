-- The readers field by arithmetic: the bits past the last task's are a remainder, the writer's own bit a quotient's. No
-- contract cites this file. Assumes nothing.
use Prim.Native.Nat.{ℕ, zero, suc, ◌+◌, ◌-◌, ◌*◌, ◌/◌, ◌%◌, ◌^◌, ◌<◌, ◌≤◌}
use mathlib.Core.Path.{◌≡◌, refl, sym, ap, ◌∙◌}
use mathlib.Core.Bool.{Bool, true, false, not, ◌&&◌, ◌||◌}
use mathlib.Core.Logic.{⊎_elim}
use native.Mathlib.Nat.{add-zero, eq_of_mul-eq-mul_right, mod-one, pow-zero, zero-mul, zero-div, mod-lt, mul-mod_left}
use native.Mathlib.Omega.{arith}
use borrow.Author.Tests.{le-ltb, lt-ltb, eq-eqb, eqb-false, eqb-true, ltb-false}
use lib.Dec.{eqb, ltb, lit<}
use lib.Pow.{mod-pow-add, field, mod-mod-pow, shl_exact, shl-shr, pow_pos}
use Rattle.lists.proofs.Bools.{true_or_false}
use Rattle.lists.proofs.Lists.{some_below_none_passes, some_below_nothing, some_below_found}
use Rattle.lists.specs.Lists.{some_below}
use Rattle.table.specs.Table.{marks}
use Rattle.table.specs.Image.{right_readers}

-- a remainder by 2 ^ k is 0 where the lowest k bits are 0
low_bits_zero : (x k : ℕ) → ((j : ℕ) → j < k → x / 2 ^ j % 2 ≡ 0) → x % 2 ^ k ≡ 0
low_bits_zero x zero bits = rw pow-zero (mod-one x)
low_bits_zero x (suc k) bits =
    let rest = low_bits_zero x k (λ j h. bits j (omega arith)) in
    let top : x / 2 ^ k % 2 ^ 1 ≡ 0 = bits k (omega arith) in
    let one_more : suc k ≡ 1 + k = omega arith in
    rw (one_more, mod-pow-add x 1 k, rest, top, zero-mul)

-- and then each of them is 0
low_bit_zero : (x k j : ℕ) → j < k → x % 2 ^ k ≡ 0 → x / 2 ^ j % 2 ≡ 0
low_bit_zero x k j below none =
    let d : ℕ = k - suc j in
    let width : k ≡ (d + 1) + j = omega arith in
    let cut : x / 2 ^ j % 2 ^ (d + 1) ≡ 0 = sym (field x (d + 1) j) ∙ rw (← width, none, zero-div) refl in
    sym (mod-mod-pow (x / 2 ^ j) d 1) ∙ rw cut refl

-- what is left within 32 bits of a field shifted by t places: its lowest 32 - t bits, shifted
pub shifted_past : (x t : ℕ) → t ≤ 32 → x < 2 ^ 32 → x * 2 ^ t % 2 ^ 64 % 4294967296 ≡ x % 2 ^ (32 - t) * 2 ^ t
shifted_past x t few small =
    let parts : 32 ≡ 32 - t + t = omega arith in
    let within : x * 2 ^ t % 2 ^ 64 ≡ x * 2 ^ t = shl_exact 32 t 64 small (omega arith) in
    let cut : x * 2 ^ t % 2 ^ (32 - t + t) ≡ x % 2 ^ (32 - t) * 2 ^ t =
    rw (mod-pow-add (x * 2 ^ t) (32 - t) t, shl-shr x t, mul-mod_left, add-zero) in
    ap (λ n. n % 2 ^ 32) within ∙ ap (λ w. x * 2 ^ t % 2 ^ w) parts ∙ cut

pub none_past : (x t : ℕ) → t ≤ 32 → x < 2 ^ 32 → x * 2 ^ t % 2 ^ 64 % 4294967296 ≡ 0 → x % 2 ^ (32 - t) ≡ 0
none_past x t few small none =
    eq_of_mul-eq-mul_right (2 ^ t) (pow_pos t) _ 0 (sym (shifted_past x t few small) ∙ none ∙ sym (zero-mul _))

and-false : (a : Bool) → (a && false) ≡ false
and-false true = refl
and-false false = refl

and-true : (a : Bool) → (a && true) ≡ false → a ≡ false
and-true true e = e
and-true false e = refl

-- a task is marked by a 1 in its bit
unmarked_by_zero : (readers i : ℕ) → readers / 2 ^ (31 - i) % 2 ≡ 0 → marks readers i ≡ false
unfolding marks
unmarked_by_zero readers i none = rw none (and-false (ltb i 32))

zero_where_unmarked : (readers i : ℕ) → i < 32 → marks readers i ≡ false → readers / 2 ^ (31 - i) % 2 ≡ 0
unfolding marks
zero_where_unmarked readers i small none =
    let odd = eqb-false (readers / 2 ^ (31 - i) % 2) 1 (rw (lt-ltb i 32 small) at none) in
    let bit = mod-lt (readers / 2 ^ (31 - i)) {m = 2} (lit< tt) in
    omega (arith, odd)

module _ (tasks writer readers : ℕ) (few : tasks ≤ 32) (own : writer < tasks) where
  -- what document 01 forbids of task i
  abbrev wrong : ℕ → Bool
  wrong i = marks readers i && (not (ltb i tasks) || eqb i writer)

  unmarked_past : some_below 32 wrong ≡ false → (i : ℕ) → tasks ≤ i → i < 32 → marks readers i ≡ false
  unmarked_past none i past small =
      and-true (marks readers i) (rw (le-ltb i tasks past) at (some_below_none_passes 32 wrong none i small))

  past_zero : some_below 32 wrong ≡ false → readers % 2 ^ (32 - tasks) ≡ 0
  past_zero none =
      low_bits_zero readers (32 - tasks)
      (λ j below.
      let back : 31 - (31 - j) ≡ j = omega arith in
      rw back at (zero_where_unmarked readers (31 - j) (omega arith) (unmarked_past none (31 - j) (omega arith)
      (omega arith))))

  -- where no bit past the last task's is 1, only the writer itself can be wrong
  never_wrong : readers % 2 ^ (32 - tasks) ≡ 0 → readers / 2 ^ (31 - writer) % 2 ≡ 0 → (i : ℕ) → i < 32
      → wrong i ≡ false
  never_wrong past self i small =
      ⊎_elim
      (λ (inside : ltb i tasks ≡ true). ⊎_elim
      (λ same. rw (unmarked_by_zero readers i (rw (eqb-true i writer same) self)))
      (λ (other : eqb i writer ≡ false). rw (inside, other) (and-false (marks readers i)))
      (true_or_false (eqb i writer)))
      (λ outside.
      let late = ltb-false i tasks outside in
      rw (unmarked_by_zero readers i (low_bit_zero readers (32 - tasks) (31 - i) (omega arith) past)))
      (true_or_false (ltb i tasks))

  wrong_self : readers / 2 ^ (31 - writer) % 2 ≡ 1 → wrong writer ≡ true
  unfolding marks
  wrong_self odd =
      rw (lt-ltb writer 32 (omega arith), odd, lt-ltb writer tasks own, eq-eqb writer writer refl)

  -- a task past the last one is marked
  pub readers_past : (readers % 2 ^ (32 - tasks) ≡ 0 → ⊥) → false ≡ right_readers tasks writer readers
  unfolding right_readers
  readers_past some = ⊎_elim (λ found. rw found) (λ none. absurd (some (past_zero none))) (true_or_false
      (some_below 32 wrong))

  -- no task past the last one is marked: the writer's own bit decides
  pub readers_own : readers % 2 ^ (32 - tasks) ≡ 0
      → eqb (readers / 2 ^ (31 - writer) % 2) 0 ≡ right_readers tasks writer readers
  unfolding right_readers
  readers_own past =
      ⊎_elim
      (λ (none : eqb (readers / 2 ^ (31 - writer) % 2) 0 ≡ true).
      rw (none, some_below_nothing 32 wrong (never_wrong past (eqb-true _ 0 none))))
      (λ (one : eqb (readers / 2 ^ (31 - writer) % 2) 0 ≡ false).
      let bit = mod-lt (readers / 2 ^ (31 - writer)) {m = 2} (lit< tt) in
      let odd : readers / 2 ^ (31 - writer) % 2 ≡ 1 = omega (
        arith,
        eqb-false (readers / 2 ^
            (31 - writer) % 2) 0 one,
      ) in
      rw (one, some_below_found 32 wrong writer (omega arith) (wrong_self odd)))
      (true_or_false (eqb (readers / 2 ^ (31 - writer) % 2) 0))
