-- `quotients::Pace::published` meets its contract: the release is less than a period after t. Assumes nothing.
use Prim.Native.Nat.{◌+◌, ◌*◌, ◌-◌, ◌/◌, ◌≤◌}
use mathlib.Core.Path.{◌≡◌, ap}
use native.Mathlib.Nat.{div-mul-le_self}
use native.Mathlib.Omega.{arith}
use Rattle.times.specs.Releases.{release, job_end, first_from}
use Rattle.quotients.proofs.pace.Pace.published.Goals as goal

pub returns : goal.returns
unfolding job_end first_from release
returns c =
    let T = c.args.self.period in
    let n = c.args.t + (T - 1) in
    let taken : c.quotient.result ≡ n / T = c.quotient.ensures.quotient (omega arith) in
    let no_later : c.quotient.result * T ≤ n = rw taken (div-mul-le_self n T) in
    (ap (λ q. q * T + T) taken, omega arith)
