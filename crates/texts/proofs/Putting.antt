-- Texts put one after the other: none, and one text and then another. No contract cites this file. Assumes
-- nothing.
use Prim.Native.Nat.{ℕ, suc, ◌+◌, ◌<◌, ◌≤◌}
use mathlib.Core.Logic.{by_cases}
use mathlib.Core.Path.{◌≡◌, refl, sym, ap, ◌∙◌}
use mathlib.Core.List.{List, [], ◌∷◌, ◌++◌}
use native.Mathlib.Nat.{add-zero}
use native.Mathlib.Decide.{dec_le}
use native.Mathlib.Numerals.{add-one}
use native.Mathlib.Omega.{arith}
use lib.ListN.{length, get_or, set, take, length-append, length-set}
use lib.Seq.{sets, length-sets, set_out, take-suc}
use Rattle.texts.specs.Puts.{PutsText, Puts}
use Rattle.texts.specs.declared.Text.{Text}

-- a text that begins past the end changes nothing
sets_past : (held : List ℕ) (at : ℕ) (text : List ℕ) → length held ≤ at → sets held at text ≡ held
sets_past held at [] past = refl
sets_past held at (x ∷ text) past =
    sets_past (set held at x) (suc at) text (omega (arith, length-set held at x)) ∙ set_out held at x past

sets_append : (held : List ℕ) (at : ℕ) (text more : List ℕ)
    → sets held at (text ++ more) ≡ sets (sets held at text) (at + length text) more
sets_append held at [] more = ap (λ (k : ℕ). sets held k more) (sym (add-zero at))
sets_append held at (x ∷ text) more =
    let place : suc at + length text ≡ at + suc (length text) = omega arith in
    sets_append (set held at x) (suc at) text more
    ∙ ap (λ (k : ℕ). sets (sets (set held at x) (suc at) text) k more) place

-- nothing
pub puts_nothing : (held : List ℕ) (at : ℕ) → PutsText held held at at []
puts_nothing held at = record { written = refl; place = omega arith }

-- one text and then another
pub puts_then : {held middle bytes : List ℕ} {at next last : ℕ} {text more : List ℕ}
    → PutsText held middle at next text → PutsText middle bytes next last more
    → PutsText held bytes at last (text ++ more)
puts_then {held} {middle} {bytes} {at} {next} {last} {text} {more} first then = record {
  written = then.written ∙ ap (λ l. sets l next more) first.written ∙ by_cases (dec_le (at + length text) (length held))
      (λ room.
      let there : next ≡ at + length text = omega (arith, first.place) in
      ap (λ (k : ℕ). sets (sets held at text) k more) there ∙ sym (sets_append held at text more))
      (λ none.
      let same_long = length-sets held at text in
      sets_past (sets held at text) next more (omega (arith, first.place))
      ∙ sym (sets_past (sets held at text) (at + length text) more (omega arith))
      ∙ sym (sets_append held at text more));
  place =
      let same_long : length middle ≡ length held = ap length first.written ∙ length-sets held at text in
      omega (arith, first.place, then.place, length-append text more);
}

-- the same of a text that is being made: nothing, one text and then another, and a word byte by byte
pub nothing_put : (text : Text) → Puts text text []
nothing_put text = record { in_place = refl; put = puts_nothing text.bytes.now text.at }

pub put_then : {held middle made : Text} {text more : List ℕ} → Puts held middle text → Puts middle made more
    → Puts held made (text ++ more)
put_then first then = record { in_place = then.in_place ∙ first.in_place; put = puts_then first.put then.put }

pub put_next : {held middle made : Text} (word : List ℕ) (i : ℕ) → i < length word → Puts held middle (take i word)
    → Puts middle made (get_or word i 0 ∷ []) → Puts held made (take (i + 1) word)
put_next word i inside first then = rw (add-one i, take-suc word i 0 inside) (put_then first then)
