-- The hyperperiod. Document 01, Table image: "The hyperperiod H is the least common multiple of the periods of all
-- tasks", and Language form: "greatest common divisor by recursion on the falling remainder". Assumes nothing.
use Rattle.std.specs.Prelude.{ℕ, zero, suc, ◌*◌, ◌/◌, ◌%◌, List, [], ◌∷◌}

-- the greatest common divisor of a and b, in at most `turns` turns: of a and 0 it is a; of a and b above 0 it is that
-- of b and the remainder, which is below b
unfoldable pub gcd_in : ℕ → ℕ → ℕ → ℕ
gcd_in zero a b = a
gcd_in (suc turns) a zero = a
gcd_in (suc turns) a (suc b) = gcd_in turns (suc b) (a % suc b)

-- the greatest common divisor: the remainder falls at each turn, so b turns are enough
unfoldable pub gcd : ℕ → ℕ → ℕ
gcd a b = gcd_in b a b

-- the least common multiple of two numbers
unfoldable pub lcm : ℕ → ℕ → ℕ
lcm a b = a / gcd a b * b

-- the least common multiple of `running` and of each number of the list, taken one after the other
unfoldable pub lcm_from : ℕ → List ℕ → ℕ
lcm_from running [] = running
lcm_from running (p ∷ ps) = lcm_from (lcm running p) ps

-- the least common multiple of a list of periods
unfoldable pub lcm_of : List ℕ → ℕ
lcm_of periods = lcm_from 1 periods
