-- Releases by their numbers: the next one is a period later, and so many later as a round has is a round later. Assumes
-- nothing.
use Prim.Native.Nat.{ℕ, suc, ◌+◌, ◌*◌, ◌/◌, ◌∣◌}
use mathlib.Core.Path.{◌≡◌, ap, ◌∙◌}
use native.Mathlib.Nat.{add-mul, mul_assoc, suc-mul, div-mul_cancel}
use Rattle.times.specs.Releases.{Timing, release}

-- the next release is a period later
pub release_next : (task : Timing) (k : ℕ) → release task (suc k) ≡ release task k + task.period
unfolding release
release_next task k = suc-mul k task.period

-- the release that comes so many rounds of H later
pub release_rounds : (task : Timing) (H : ℕ) → task.period ∣ H
    → (k n : ℕ) → release task (k + n * (H / task.period)) ≡ release task k + n * H
unfolding release
release_rounds task H multiple k n =
    let T = task.period in
    add-mul k (n * (H / T)) T
    ∙ ap (λ (m : ℕ). k * T + m) (mul_assoc n (H / T) T ∙ ap (λ (m : ℕ). n * m) (div-mul_cancel T multiple))
