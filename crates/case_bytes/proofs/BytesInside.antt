-- A byte that stands at a place stands inside the text. No contract cites this file. Assumes nothing.
use Rattle.std.specs.Prelude.{ℕ, ◌+◌, ◌<◌, ◌≡◌, Bool, true, cond, List, length, Option, None, is_some}
use Rattle.std.specs.Option.{option_and_then, option_map}
use Rattle.std.proofs.Common.{arith}
use Rattle.std.proofs.lemmas.Grind.{common_steps}
use Rattle.lines.specs.Digits.{digit_at, space_at}
use Rattle.lines.proofs.Inside.{digit_inside}
use Rattle.case_bytes.specs.Images.{byte_at}

-- the second of its digits does
low_there : (space : Bool) (high low : Option ℕ) (whole : ℕ → ℕ → ℕ)
    → is_some (cond space (option_and_then (λ h. option_map (whole h) low) high) None) ≡ true → is_some low ≡ true
low_there space high low whole here = grind (arith, common_steps)

pub byte_inside : (text : List ℕ) (at : ℕ) → is_some (byte_at text at) ≡ true → at + 2 < length text
unfolding byte_at
byte_inside text at here =
    digit_inside text (at + 2)
    (low_there (space_at text at) (digit_at text (at + 1)) (digit_at text (at + 2)) _ here)
