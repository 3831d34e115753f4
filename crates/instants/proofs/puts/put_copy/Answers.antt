-- `instants::puts::put_copy` meets its contract: the number put has the bits of the copy's three fields. Assumes
-- nothing.
use native.Mathlib.Omega.{arith}
use Rattle.instants.proofs.Putting.{puts_one, one_field}
use Rattle.instants.proofs.puts.put_copy.Goals as goal

pub returns : goal.returns
returns c =
    let (is, few) = c.from.ensures in
    puts_one _ _ _ _ 12 _ _
    (λ held bits inked counted. c.put.ensures held bits inked counted (omega arith) (omega arith))
    (rw is (one_field _ _ _ (omega arith) (omega arith)))
