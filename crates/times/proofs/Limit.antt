-- What the program answers for the hyperperiod: H itself exactly where it is at most 1,000,000. A running least common
-- multiple may be held at 1,000,001 once it is larger, and the answer stays the same. Assumes nothing.
use Prim.Native.Nat.{ℕ, ◌+◌, ◌<◌, ◌≤◌, min}
use mathlib.Core.Path.{◌≡◌, sym, ap, ◌∙◌}
use mathlib.Core.Logic.{⊎_elim, by_cases}
use mathlib.Core.Bool.{Bool, cond}
use mathlib.Core.List.{List, [], ◌∷◌}
use native.Mathlib.Nat.{eq-zero-or-pos, le_of_dvd, min-eq_left}
use native.Mathlib.Decide.{dec_le}
use native.Mathlib.Numerals.{add-one}
use native.Mathlib.Omega.{arith}
use lib.ListN.{length, get_or, take}
use lib.Seq.{take_all, take-suc}
use borrow.Author.Tests.{le-leb, lt-leb}
use Rattle.outcomes.specs.Outcome.{gives, refuses}
use Rattle.outcomes.proofs.Outcomes.{same_given, gives_no_refusal}
use Rattle.times.specs.Hyperperiod.{lcm, lcm_from, lcm_of}
use Rattle.times.specs.Rounds.{within_limit}
use Rattle.times.proofs.Hyperperiod.{lcm_from_append}
use Rattle.times.proofs.Lcm.{left_divides_lcm, lcm_positive, lcm_zero_right}

-- H where it is at most 1,000,000
pub round_within : (H : ℕ) → H ≤ 1000000 → within_limit H ≡ gives H
unfolding within_limit
round_within H h = ap (λ (b : Bool). cond b (gives H) (refuses 10 0)) (le-leb H 1000000 h)

-- above where it is larger
pub round_above : (H : ℕ) → 1000000 < H → within_limit H ≡ refuses 10 0
unfolding within_limit
round_above H h = ap (λ (b : Bool). cond b (gives H) (refuses 10 0)) (lt-leb H 1000000 h)

-- and in no other case
pub within_round : (H h : ℕ) → within_limit H ≡ gives h → (H ≡ h) × (H ≤ 1000000)
within_round H h e =
    by_cases (dec_le H 1000000) (λ small. (same_given (sym (round_within H small) ∙ e), small))
    (λ large. absurd (gives_no_refusal (sym e ∙ round_above H (omega arith))))

pub above_round : (H : ℕ) {n p : ℕ} → within_limit H ≡ refuses n p → 1000000 < H
above_round H e =
    by_cases (dec_le H 1000000) (λ small. absurd (gives_no_refusal (sym (round_within H small) ∙ e)))
    (λ large. omega arith)

-- a least common multiple with a number above 0 is no smaller than the other
lcm_grows : (a b : ℕ) → 0 < a → 0 < b → a ≤ lcm a b
lcm_grows a b ha hb = le_of_dvd (lcm_positive a b ha hb) (left_divides_lcm a b)

-- the number, or 1,000,001 where it is larger
abbrev pub held : ℕ → ℕ
held n = min n 1000001

-- with a number that is held, the held least common multiple is the same
pub lcm_held : (a b : ℕ) → held (lcm (held a) b) ≡ held (lcm a b)
lcm_held a b = ⊎_elim with_zero (λ hb. by_cases (dec_le a 1000001) small (large hb)) (eq-zero-or-pos b)
  where
    with_zero : b ≡ 0 → held (lcm (held a) b) ≡ held (lcm a b)
    with_zero e =
        let left : lcm (held a) b ≡ 0 = ap (lcm (held a)) e ∙ lcm_zero_right (held a) in
        let right : lcm a b ≡ 0 = ap (lcm a) e ∙ lcm_zero_right a in
        omega arith

    small : a ≤ 1000001 → held (lcm (held a) b) ≡ held (lcm a b)
    small h = ap (λ (k : ℕ). held (lcm k b)) (omega arith)

    large : 0 < b → ¬ (a ≤ 1000001) → held (lcm (held a) b) ≡ held (lcm a b)
    large hb h =
        let left : held a ≤ lcm (held a) b = lcm_grows (held a) b (omega arith) hb in
        let right : a ≤ lcm a b = lcm_grows a b (omega arith) hb in
        omega arith

-- so the answer may be taken from the held value
pub round_held : (H : ℕ) → within_limit (held H) ≡ within_limit H
round_held H = by_cases (dec_le H 1000000) small large
  where
    small : H ≤ 1000000 → within_limit (held H) ≡ within_limit H
    small h = ap within_limit (omega arith)

    large : ¬ (H ≤ 1000000) → within_limit (held H) ≡ within_limit H
    large h = round_above (held H) (omega arith) ∙ sym (round_above H (omega arith))

-- one more period, with what the running value held of those before it
pub held_more
    : (periods : List ℕ) (i running : ℕ)
    → i < length periods
    → running ≡ held (lcm_of (take i periods))
    → held (lcm running (get_or periods i 0)) ≡ held (lcm_of (take (i + 1) periods))
unfolding lcm_of lcm_from
held_more periods i running h e =
    let p = get_or periods i 0 in
    let more : lcm_of (take (i + 1) periods) ≡ lcm (lcm_of (take i periods)) p
    = ap (λ (k : ℕ). lcm_from 1 (take k periods)) (add-one i)
    ∙ ap (lcm_from 1) (take-suc periods i 0 h)
    ∙ lcm_from_append 1 (take i periods) (p ∷ []) in
    ap (λ (k : ℕ). held (lcm k p)) e ∙ lcm_held (lcm_of (take i periods)) p ∙ sym (ap held more)

-- a count above the number of entries takes them all
pub take_at_most : (n : ℕ) (l : List ℕ) → take (min n (length l)) l ≡ take n l
take_at_most n l = by_cases (dec_le n (length l)) within past
  where
    within : n ≤ length l → take (min n (length l)) l ≡ take n l
    within h = ap (λ (k : ℕ). take k l) (min-eq_left h)

    past : ¬ (n ≤ length l) → take (min n (length l)) l ≡ take n l
    past h = take_all (min n (length l)) l (omega arith) ∙ sym (take_all n l (omega arith))
