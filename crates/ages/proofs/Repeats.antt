-- The chain's own round: the end of a start a round later is a round later, so a basic path comes again with every
-- round, and its length and its age with it. Document 01, Age of a chain. Assumes nothing.
use Prim.Native.Nat.{ℕ, zero, suc, ◌+◌, ◌*◌, ◌<◌, ◌∣◌}
use mathlib.Core.Path.{◌≡◌, refl, ap, ◌∙◌}
use mathlib.Core.List.{List, [], ◌∷◌, map}
use native.Mathlib.Nat.{suc-mul}
use native.Mathlib.Omega.{arith}
use lib.Dec.{ltb}
use borrow.Author.Tests.{ltb-true, lt-ltb}
use Rattle.lists.proofs.All.{All, all_within, all_map, all_of_map}
use Rattle.lists.proofs.Bools.{same_test}
use Rattle.times.specs.Hyperperiod.{lcm_of}
use Rattle.times.specs.Releases.{Timing, first_from}
use Rattle.times.proofs.Hyperperiod.{period_divides_hyperperiod, hyperperiod_positive}
use Rattle.times.proofs.ReleasesRepeat.{first_from_repeats}
use Rattle.times.proofs.ReleasesRise.{job_end_repeats}
use Rattle.ages.specs.Ages.{Chain, first_period, follow, end_of, is_basic, length_of, age_at_release, age_of, round_of}
use Rattle.ages.proofs.Rising.{HasPeriod, Timed, all_by_number}

-- H is a multiple of the task's period
abbrev pub Repeats : ℕ → Timing → Type 0
Repeats H task = task.period ∣ H

follow_repeats : (H : ℕ) (tasks : List Timing) → All HasPeriod tasks → All (Repeats H) tasks
    → (t : ℕ) → follow tasks (t + H) ≡ follow tasks t + H
unfolding follow
follow_repeats H [] timed repeat t = refl
follow_repeats H (last ∷ []) timed repeat t = first_from_repeats last H repeat.0 timed.0 t
follow_repeats H (middle ∷ next ∷ more) timed repeat t =
    rw (first_from_repeats middle H repeat.0 timed.0 t, job_end_repeats middle (first_from middle t) H)
    (follow_repeats H (next ∷ more) timed.1 repeat.1 _)

same_order : (a b c d : ℕ) → (a < b → c < d) → (c < d → a < b) → ltb a b ≡ ltb c d
same_order a b c d to from =
    same_test (ltb a b) (ltb c d) (λ h. lt-ltb c d (to (ltb-true a b h))) (λ h. lt-ltb a b (from (ltb-true c d h)))

-- what comes again after a round comes again after any number of rounds
in_rounds : {A : Type 0} (R : ℕ) (f : ℕ → A) → ((t : ℕ) → f (t + R) ≡ f t) → (t n : ℕ) → f (t + n * R) ≡ f t
in_rounds R f again t zero = ap f (omega arith)
in_rounds R f again t (suc n) =
    let later : t + suc n * R ≡ t + n * R + R = omega (arith, suc-mul n R) in
    ap f later ∙ again (t + n * R) ∙ in_rounds R f again t n

module _ (chain : Chain) (timed : Timed chain) where
  pub round_divided : All (Repeats (round_of chain)) (chain.first ∷ chain.others)
  unfolding round_of
  round_divided =
      let tasks = chain.first ∷ chain.others in
      let periods = map (λ task. task.period) tasks in
      all_of_map (λ T. T ∣ lcm_of periods) (λ task. task.period) tasks
      (all_by_number (λ T. T ∣ lcm_of periods) 0 periods (period_divides_hyperperiod periods))

  pub round_positive : 0 < round_of chain
  unfolding round_of
  round_positive =
      let tasks = chain.first ∷ chain.others in
      let periods = map (λ task. task.period) tasks in
      hyperperiod_positive periods (all_within (λ T. 0 < T) periods 0
      (all_map (λ T. 0 < T) (λ task. task.period) tasks (timed.first_timed, timed.others_timed)))

  -- the end of a start a round later is a round later
  pub end_repeats : (t : ℕ) → end_of chain (t + round_of chain) ≡ end_of chain t + round_of chain
  unfolding end_of
  end_repeats t = follow_repeats (round_of chain) chain.others timed.others_timed round_divided.1 t

  next_end_repeats : (t : ℕ)
      → end_of chain (t + round_of chain + first_period chain) ≡ end_of chain (t + first_period chain) + round_of chain
  next_end_repeats t =
      let later : t + round_of chain + first_period chain ≡ t + first_period chain + round_of chain = omega arith in
      ap (end_of chain) later ∙ end_repeats (t + first_period chain)

  -- so basic paths come again, each with its length and its age
  pub basic_repeats : (t : ℕ) → is_basic chain (t + round_of chain) ≡ is_basic chain t
  unfolding is_basic
  basic_repeats t =
      let E = end_of chain in
      let R = round_of chain in
      let T = first_period chain in
      same_order (E (t + R)) (E (t + R + T)) (E t) (E (t + T))
      (λ less. omega (arith, end_repeats t, next_end_repeats t))
      (λ less. omega (arith, end_repeats t, next_end_repeats t))

  pub length_repeats : (t : ℕ) → length_of chain (t + round_of chain) ≡ length_of chain t
  unfolding length_of
  length_repeats t = omega (arith, end_repeats t)

  pub age_repeats : (t : ℕ) → age_of chain (t + round_of chain) ≡ age_of chain t
  unfolding age_of age_at_release
  age_repeats t = omega (arith, next_end_repeats t)

  -- and in every round
  pub basic_in_rounds : (t n : ℕ) → is_basic chain (t + n * round_of chain) ≡ is_basic chain t
  basic_in_rounds = in_rounds (round_of chain) (is_basic chain) basic_repeats

  pub length_in_rounds : (t n : ℕ) → length_of chain (t + n * round_of chain) ≡ length_of chain t
  length_in_rounds = in_rounds (round_of chain) (length_of chain) length_repeats

  pub age_in_rounds : (t n : ℕ) → age_of chain (t + n * round_of chain) ≡ age_of chain t
  age_in_rounds = in_rounds (round_of chain) (age_of chain) age_repeats
