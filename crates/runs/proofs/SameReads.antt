-- No job can tell: under a plan that suffices, every job reads what it reads under full copying. Assumes nothing.
use Prim.Native.Nat.{ℕ, zero, suc, ◌<◌}
use mathlib.Core.Bool.{cond}
use mathlib.Core.Path.{◌≡◌, refl, sym, ap, ap₂, ◌∙◌, fun_ext}
use native.Mathlib.Omega.{arith}
use Rattle.copies.specs.Plans.{Plan}
use Rattle.runs.specs.Runs.{Turns, after_turns, after_writes, after_reads, after_acts}
use Rattle.runs.specs.Runs.{at_start, state_after, values_read}
use Rattle.runs.specs.Sufficing.{Suffices}
use Rattle.runs.proofs.Held.{held}
use Rattle.runs.proofs.Copied.{taken, same_taken}

-- the copies of any plan, from the history of the outgoing copies
module _ {Value : Type 0} (plan : Plan) (initial : ℕ → Value) (turns : Turns Value) (l : ℕ) (outgoing : ℕ → Value) where
  shared_held : (n : ℕ) → ((t : ℕ) → t < n → (state_after plan initial turns t).jobs.outgoing l ≡ outgoing t)
      → (state_after plan initial turns n).shared l ≡ held (plan.writes l) outgoing (initial l) n
  unfolding state_after at_start after_writes after_reads after_acts held
  shared_held zero history = refl
  shared_held (suc n) history =
      ap₂ (cond (plan.writes l n)) (history n (omega arith)) (shared_held n (λ t early. history t (omega arith)))

  incoming_taken : (r n : ℕ) → ((t : ℕ) → t < n → (state_after plan initial turns t).jobs.outgoing l ≡ outgoing t)
      → (state_after plan initial turns n).incoming l r ≡ taken (plan.writes l) (plan.serves l r) outgoing (initial l) n
  unfolding state_after at_start after_writes after_reads after_acts held taken
  incoming_taken r zero history = refl
  incoming_taken r (suc n) history =
      ap₂ (cond (plan.serves l r n)) (shared_held (suc n) history)
      (incoming_taken r n (λ t early. history t (omega arith)))

module _ {Value : Type 0} (plan full : Plan) (enough : Suffices plan full)
    (initial : ℕ → Value) (turns : Turns Value) where
  -- where the jobs left the same behind before each tick below n, the incoming copies are the same after n ticks
  same_incoming : (n : ℕ)
      → ((t : ℕ) → t < n → (state_after plan initial turns t).jobs ≡ (state_after full initial turns t).jobs)
      → (state_after plan initial turns n).incoming ≡ (state_after full initial turns n).incoming
  same_incoming n before = fun_ext (λ l. fun_ext (λ r.
      incoming_taken plan initial turns l (history l) r n (λ t early. ap (λ jobs. jobs.outgoing l) (before t early))
      ∙ same_taken (history l) (initial l) (plan.writes l) (plan.serves l r) (full.writes l) (full.serves l r)
      (enough.writes_at_releases l) (enough.serves_at_releases l r)
      (enough.writes_the_last l r) (enough.serves_since l r) n
      ∙ sym (incoming_taken full initial turns l (history l) r n (λ t early. refl))))
    where
      history : ℕ → ℕ → Value
      history l t = (state_after full initial turns t).jobs.outgoing l

  next_jobs : (n : ℕ)
      → ((t : ℕ) → t < n → (state_after plan initial turns t).jobs ≡ (state_after full initial turns t).jobs)
      → (state_after plan initial turns n).jobs ≡ (state_after full initial turns n).jobs
  unfolding state_after at_start after_writes after_reads after_acts
  next_jobs zero before = refl
  next_jobs (suc n) before =
      ap₂ (λ incoming jobs. after_turns incoming n (turns n) jobs)
      (same_incoming (suc n) before) (before n (omega arith))

  jobs_before : (n t : ℕ) → t < n → (state_after plan initial turns t).jobs ≡ (state_after full initial turns t).jobs
  jobs_before zero t early = absurd (omega arith)
  jobs_before (suc n) t early = next_jobs t (λ u earlier. jobs_before n u (omega arith))

  -- what the jobs leave behind is the same, after any number of ticks
  pub same_jobs : (n : ℕ) → (state_after plan initial turns n).jobs ≡ (state_after full initial turns n).jobs
  same_jobs n = next_jobs n (jobs_before n)

  -- every job reads the same values
  pub same_values_read : (n : ℕ) → values_read plan initial turns n ≡ values_read full initial turns n
  unfolding values_read
  same_values_read n = ap (λ jobs. jobs.read) (same_jobs n)
