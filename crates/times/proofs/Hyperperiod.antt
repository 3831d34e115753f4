-- The hyperperiod: every period divides it, and it divides, and so is at most, every number that all periods divide.
-- Document 01, Table image: "the least common multiple of the periods of all tasks". Assumes nothing.
use Prim.Native.Nat.{ℕ, zero, suc, ◌<◌, ◌≤◌, ◌∣◌}
use mathlib.Core.Path.{◌≡◌, refl, ap, ◌∙◌}
use mathlib.Core.List.{List, [], ◌∷◌, ◌++◌}
use native.Mathlib.Nat.{dvd_refl, dvd_trans, one-dvd, le_of_dvd, le_of_suc-le-suc, zero-lt-suc, suc-le-suc_iff}
use native.Mathlib.Nat.{eq-zero_of_zero-dvd}
use native.Mathlib.Omega.{arith}
use lib.ListN.{length, get_or}
use Rattle.times.specs.Hyperperiod.{lcm, lcm_from, lcm_of}
use Rattle.times.proofs.Lcm.{left_divides_lcm, right_divides_lcm, lcm_divides_common_multiple, lcm_positive}
use Rattle.times.proofs.Lcm.{lcm_zero_left}

-- each number of the list has the property
abbrev pub Each : (ℕ → Type 0) → List ℕ → Type 0
Each P ps = (i : ℕ) → i < length ps → P (get_or ps i 0)

each_head : (P : ℕ → Type 0) (p : ℕ) (ps : List ℕ) → Each P (p ∷ ps) → P p
each_head P p ps each = each 0 (zero-lt-suc (length ps))

each_tail : (P : ℕ → Type 0) (p : ℕ) (ps : List ℕ) → Each P (p ∷ ps) → Each P ps
each_tail P p ps each i h = each (suc i) (suc-le-suc_iff.1 h)

-- of 0 and whatever follows it is 0
pub lcm_from_zero : (ps : List ℕ) → lcm_from 0 ps ≡ 0
unfolding lcm_from
lcm_from_zero [] = refl
lcm_from_zero (p ∷ ps) = ap (λ (k : ℕ). lcm_from k ps) (lcm_zero_left p) ∙ lcm_from_zero ps

-- the numbers of two lists, one list after the other
pub lcm_from_append : (running : ℕ) (ps qs : List ℕ) → lcm_from running (ps ++ qs) ≡ lcm_from (lcm_from running ps) qs
unfolding lcm_from
lcm_from_append running [] qs = refl
lcm_from_append running (p ∷ ps) qs = lcm_from_append (lcm running p) ps qs

-- it is a multiple of the number begun with
pub running_divides_lcm_from : (running : ℕ) (ps : List ℕ) → running ∣ lcm_from running ps
unfolding lcm_from
running_divides_lcm_from running [] = dvd_refl running
running_divides_lcm_from running (p ∷ ps) =
    dvd_trans running (left_divides_lcm running p) (running_divides_lcm_from (lcm running p) ps)

-- each number of the list divides it
pub member_divides_lcm_from : (running : ℕ) (ps : List ℕ) → Each (λ p. p ∣ lcm_from running ps) ps
unfolding lcm_from
member_divides_lcm_from running [] i h = absurd (omega arith)
member_divides_lcm_from running (p ∷ ps) zero h =
    dvd_trans p (right_divides_lcm running p) (running_divides_lcm_from (lcm running p) ps)
member_divides_lcm_from running (p ∷ ps) (suc i) h =
    member_divides_lcm_from (lcm running p) ps i (le_of_suc-le-suc h)

-- it divides every number that the one begun with and each of the list divide
pub lcm_from_divides_common_multiple
    : (running : ℕ) (ps : List ℕ) (m : ℕ) → running ∣ m → Each (λ p. p ∣ m) ps → lcm_from running ps ∣ m
unfolding lcm_from
lcm_from_divides_common_multiple running [] m d each = d
lcm_from_divides_common_multiple running (p ∷ ps) m d each =
    lcm_from_divides_common_multiple
    (lcm running p)
    ps
    m
    (lcm_divides_common_multiple running p m d (each_head (λ k. k ∣ m) p ps each))
    (each_tail (λ k. k ∣ m) p ps each)

-- of numbers above 0 it is above 0
pub lcm_from_positive : (running : ℕ) (ps : List ℕ) → 0 < running → Each (λ p. 0 < p) ps → 0 < lcm_from running ps
unfolding lcm_from
lcm_from_positive running [] h each = h
lcm_from_positive running (p ∷ ps) h each =
    lcm_from_positive
    (lcm running p)
    ps
    (lcm_positive running p h (each_head (λ k. 0 < k) p ps each))
    (each_tail (λ k. 0 < k) p ps each)

-- every period divides the hyperperiod
pub period_divides_hyperperiod : (periods : List ℕ) → Each (λ p. p ∣ lcm_of periods) periods
unfolding lcm_of
period_divides_hyperperiod periods = member_divides_lcm_from 1 periods

-- with a period of 0 among the periods it is 0
pub hyperperiod_of_zero
    : (periods : List ℕ) (i : ℕ) → i < length periods → get_or periods i 0 ≡ 0 → lcm_of periods ≡ 0
hyperperiod_of_zero periods i h e = eq-zero_of_zero-dvd (rw e at (period_divides_hyperperiod periods i h))

-- the hyperperiod divides every number that all periods divide
pub hyperperiod_divides_common_multiple : (periods : List ℕ) (m : ℕ) → Each (λ p. p ∣ m) periods → lcm_of periods ∣ m
unfolding lcm_of
hyperperiod_divides_common_multiple periods m each = lcm_from_divides_common_multiple 1 periods m (one-dvd m) each

-- it is the least number above 0 that all periods divide
pub hyperperiod_positive : (periods : List ℕ) → Each (λ p. 0 < p) periods → 0 < lcm_of periods
unfolding lcm_of
hyperperiod_positive periods each = lcm_from_positive 1 periods (omega arith) each

pub hyperperiod_least : (periods : List ℕ) (m : ℕ) → 0 < m → Each (λ p. p ∣ m) periods → lcm_of periods ≤ m
hyperperiod_least periods m h each = le_of_dvd h (hyperperiod_divides_common_multiple periods m each)
