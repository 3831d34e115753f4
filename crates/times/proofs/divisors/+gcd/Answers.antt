-- `gcd` meets its contract, turn by turn.
use Prim.Native.Nat.{ℕ}
use mathlib.Core.Path.{sym, ap, ◌∙◌}
use native.Mathlib.Nat.{pos_of_ne-zero}
use Rattle.times.specs.Hyperperiod as spec
use Rattle.times.proofs.Gcd.{gcd_zero, gcd_step}
use Rattle.times.proofs.divisors.+gcd.Goals as goal

pub returns-then-b-eq0 : goal.returns-then-b-eq0
returns-then-b-eq0 t c = sym (ap (λ (b : ℕ). spec.gcd c.args.a b) c.if-b-eq0.true ∙ gcd_zero c.args.a)

pub returns-else-b-eq0 : goal.returns-else-b-eq0
returns-else-b-eq0 t c = c.gcd.ensures ∙ sym (gcd_step c.args.a c.args.b (pos_of_ne-zero c.if-b-eq0.false))
