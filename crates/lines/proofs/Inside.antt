-- What stands at a place stands inside the text. No contract cites this file. Assumes nothing.
use Prim.Native.Nat.{ℕ, ◌<◌, ◌≤◌}
use mathlib.Core.Path.{◌≡◌, sym, ◌∙◌}
use mathlib.Core.Logic.{by_cases}
use mathlib.Core.Bool.{true, false, false≢true}
use mathlib.Core.List.{List}
use native.Mathlib.Decide.{dec_lt}
use native.Mathlib.Omega.{arith}
use lib.ListN.{length, get_or-eq_default}
use Rattle.std.specs.Prelude.{is_some}
use Rattle.lines.specs.Digits.{digit_at, decimal_at, space_at}

module _ (text : List ℕ) (at : ℕ) where
  -- a digit
  pub digit_past : length text ≤ at → is_some (digit_at text at) ≡ false
  unfolding digit_at
  digit_past past = rw (get_or-eq_default text 0 past)

  pub digit_inside : is_some (digit_at text at) ≡ true → at < length text
  digit_inside here =
      by_cases (dec_lt at (length text)) (λ inside. inside)
      (λ past. absurd (false≢true (sym (digit_past (omega arith)) ∙ here)))

  decimal_past : length text ≤ at → is_some (decimal_at text at) ≡ false
  unfolding decimal_at digit_at
  decimal_past past = rw (get_or-eq_default text 0 past)

  pub decimal_inside : is_some (decimal_at text at) ≡ true → at < length text
  decimal_inside here =
      by_cases (dec_lt at (length text)) (λ inside. inside)
      (λ past. absurd (false≢true (sym (decimal_past (omega arith)) ∙ here)))

  -- a space
  pub space_past : length text ≤ at → space_at text at ≡ false
  unfolding space_at
  space_past past = rw (get_or-eq_default text 0 past)

  pub space_inside : space_at text at ≡ true → at < length text
  space_inside here =
      by_cases (dec_lt at (length text)) (λ inside. inside)
      (λ past. absurd (false≢true (sym (space_past (omega arith)) ∙ here)))
