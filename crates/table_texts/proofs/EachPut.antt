-- Texts of the numbers below a bound, of cores or of chains, put one after the other; and a test that none has passed
-- yet. No contract cites this file. Assumes nothing.
use Prim.Native.Nat.{ℕ, ◌+◌}
use mathlib.Core.Bool.{Bool, false}
use mathlib.Core.Path.{◌≡◌, refl}
use mathlib.Core.List.{List, [], ◌∷◌, ◌++◌, append_assoc}
use native.Mathlib.Numerals.{add-one}
use Rattle.lists.specs.Lists.{some_below, each_below}
use Rattle.printing.specs.Words.{hyperperiod_word, named, newline}
use Rattle.texts.specs.Puts.{Puts}
use Rattle.texts.specs.declared.Text.{Text}
use Rattle.texts.proofs.Putting.{nothing_put, put_then}

module _ (text_of : ℕ → List ℕ) where
  -- none yet, and one more
  pub none_put : (text : Text) → Puts text text (each_below 0 text_of)
  unfolding each_below
  none_put text = nothing_put text

  pub one_more_put : {held middle made : Text} (k : ℕ) → Puts held middle (each_below k text_of)
      → Puts middle made (text_of k) → Puts held made (each_below (k + 1) text_of)
  unfolding each_below
  one_more_put k first then = rw add-one (put_then first then)

module _ (test : ℕ → Bool) where
  -- none was tested yet, and one more that fails
  pub none_tested : some_below 0 test ≡ false
  unfolding some_below
  none_tested = refl

  pub more_fail : (core : ℕ) → some_below core test ≡ false → test core ≡ false → some_below (core + 1) test ≡ false
  unfolding some_below
  more_fail core none fails = rw (add-one core, none, fails)

-- the hyperperiod's line, and then the texts of the cores
pub first_part : (text_of : ℕ → List ℕ) (round cores : ℕ) {held middle made : Text} {H : ℕ} → round ≡ H
    → Puts held middle (named hyperperiod_word round ++ newline ∷ []) → Puts middle made (each_below cores text_of)
    → Puts held made (named hyperperiod_word H ++ newline ∷ each_below cores text_of)
first_part text_of round cores is line texts =
    rw (← is) (rw (append_assoc (named hyperperiod_word round) (newline ∷ []) (each_below cores text_of)) at
    (put_then line texts))
