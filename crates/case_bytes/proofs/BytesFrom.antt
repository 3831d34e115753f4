-- Bytes read into a lent buffer, one after the other. No contract cites this file. Assumes nothing.
use Prim.Native.Nat.{ℕ, zero, suc, ◌+◌, ◌*◌, ◌-◌, ◌<◌, ◌≤◌}
use mathlib.Core.Path.{◌≡◌, refl, sym, ap, ◌∙◌}
use mathlib.Core.List.{List, [], ◌∷◌, ◌++◌, append-nil}
use native.Mathlib.Omega.{arith}
use lib.ListN.{length, set, length-append}
use lib.Seq.{append_snoc}
use Rattle.lists.specs.Lists.{over}
use Rattle.lists.proofs.Over.{over_none, over_more, length_over}
use Rattle.std.specs.Prelude.{None, Some}
use Rattle.case_bytes.specs.Images.{byte_at, bytes_from}

module _ (text : List ℕ) (at : ℕ) where
  bytes_more : (most byte : ℕ) → byte_at text at ≡ Some byte
      → bytes_from text (suc most) at ≡ byte ∷ bytes_from text most (at + 3)
  unfolding bytes_from
  bytes_more most byte here = rw here

  bytes_end : (most : ℕ) → byte_at text at ≡ None → bytes_from text most at ≡ []
  unfolding bytes_from
  bytes_end zero none = refl
  bytes_end (suc most) none = rw none

-- so many of the bytes were read, over what the buffer held; the others stand from `end` on
pub record Filled (text held : List ℕ) (at : ℕ) (room : List ℕ) (count end : ℕ) : Type 0 where
  pub done : List ℕ
  pub counted : length done ≡ count
  pub within : count ≤ length held
  pub ended : end ≡ at + 3 * count
  pub stored : room ≡ over done held
  pub rest : bytes_from text (length held) at ≡ done ++ bytes_from text (length held - count) end

-- nothing was read
pub filled_none : (text held : List ℕ) (at : ℕ) → Filled text held at held 0 at
filled_none text held at =
    record {
      done = [];
      counted = refl;
      within = omega arith;
      ended = omega arith;
      stored = sym (over_none held);
      rest = ap (λ n. bytes_from text n at) (omega arith);
    }

module _ (text held : List ℕ) (at : ℕ) (room : List ℕ) (count end : ℕ) (filled : Filled text held at room count end)
  where
    -- the buffer stays as long as it was
    pub filled_length : length room ≡ length held
    filled_length = rw (filled.stored, length_over filled.done held)

    -- one byte more
    pub filled_more : count < length held → (byte : ℕ) → byte_at text end ≡ Some byte
        → Filled text held at (set room count byte) (count + 1) (end + 3)
    filled_more inside byte here =
        let left : length held - count ≡ suc (length held - (count + 1)) = omega arith in
        record {
          done = filled.done ++ byte ∷ [];
          counted = simp length-append (omega (arith, filled.counted));
          within = omega arith;
          ended = omega (arith, filled.ended);
          stored = rw (filled.stored, ← filled.counted) (over_more filled.done held byte);
          rest = filled.rest ∙ rw (left, bytes_more text end _ byte here) (sym (append_snoc filled.done byte _));
        }

    -- the end: no byte stands there, or the buffer is full
    pub filled_end : bytes_from text (length held - count) end ≡ []
        → (count ≡ length (bytes_from text (length held) at)) × (room ≡ over (bytes_from text (length held) at) held)
    filled_end none =
        let all : bytes_from text (length held) at ≡ filled.done = filled.rest ∙ rw (none, append-nil) in
        (sym filled.counted ∙ rw (← all), filled.stored ∙ rw (← all))

    pub filled_stopped : byte_at text end ≡ None
        → (count ≡ length (bytes_from text (length held) at)) × (room ≡ over (bytes_from text (length held) at) held)
    filled_stopped none = filled_end (bytes_end text end _ none)

    pub filled_full : length held ≤ count
        → (count ≡ length (bytes_from text (length held) at)) × (room ≡ over (bytes_from text (length held) at) held)
    unfolding bytes_from
    filled_full full =
        let nothing : length held - count ≡ 0 = omega arith in
        filled_end (rw nothing)
