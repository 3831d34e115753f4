-- One label and one reader: what the copies of a plan that suffices hold is what those of full copying hold, where the
-- outgoing copy has the same history under both. Assumes nothing.
use Prim.Native.Nat.{ℕ, zero, suc, ◌≤◌, ◌<◌}
use mathlib.Core.Bool.{Bool, true, false}
use mathlib.Core.Path.{◌≡◌, refl, sym, ap, ◌∙◌}
use native.Mathlib.Decide.{ℕ_discrete}
use native.Mathlib.Omega.{arith}
use Rattle.lists.proofs.Bools.{not_both}
use Rattle.runs.specs.Sufficing.{LastUpTo, SomeWithin}
use Rattle.runs.proofs.Held.{held, held_taken, held_kept, held_since, held_first}
use Rattle.runs.proofs.Held.{not_so, Latest, never, last, latest}

-- the shared copy once the writes of tick t are done, where the label is written at the ticks `writes`, `outgoing t` is
-- what the outgoing copy holds before tick t, and all copies hold `first` at first
abbrev pub shared_at : {Value : Type 0} → (writes : ℕ → Bool) (outgoing : ℕ → Value) → Value → ℕ → Value
shared_at writes outgoing first t = held writes outgoing first (suc t)

-- the incoming copy after n ticks, where the reader is served at the ticks `serves`
unfoldable pub taken : {Value : Type 0} → (writes serves : ℕ → Bool) (outgoing : ℕ → Value) → Value → ℕ → Value
taken writes serves outgoing first n = held serves (shared_at writes outgoing first) first n

module _ {Value : Type 0} (outgoing : ℕ → Value) (first : Value) where
  -- after the last write
  written_last : (writes : ℕ → Bool) (t w : ℕ) → writes w ≡ true → w ≤ t
      → ((u : ℕ) → w < u → u ≤ t → writes u ≡ false) → shared_at writes outgoing first t ≡ outgoing w
  written_last writes t w passes in_time none_later =
      held_since writes outgoing first (outgoing w) w (suc t) (omega arith) passes
      (λ u from early is. ap outgoing (same u from early is))
    where
      same : (u : ℕ) → w ≤ u → u < suc t → writes u ≡ true → u ≡ w
      same u from early is = elim (ℕ_discrete u w)
          [ yes e ↦ e | no e ↦ absurd (not_both (writes u) is (none_later u (omega arith) (omega arith))) ]

  module _
      (writes serves all_writes all_serves : ℕ → Bool)
      (writes_at_releases : (t : ℕ) → writes t ≡ true → all_writes t ≡ true)
      (serves_at_releases : (t : ℕ) → serves t ≡ true → all_serves t ≡ true)
      (writes_the_last : (t w : ℕ) → all_serves t ≡ true → LastUpTo all_writes t w → writes w ≡ true)
      (serves_since : (t w : ℕ) → all_serves t ≡ true → LastUpTo all_writes t w → SomeWithin serves w t)
    where
      no_write : (t : ℕ) → all_writes t ≡ false → writes t ≡ false
      no_write t = not_so (writes t) (writes_at_releases t)

      no_serve : (t : ℕ) → all_serves t ≡ false → serves t ≡ false
      no_serve t = not_so (serves t) (serves_at_releases t)

      -- at a release of the reader, it holds what full copying has just read
      at_release : (t : ℕ) → all_serves t ≡ true → Latest all_writes t
          → taken writes serves outgoing first (suc t) ≡ shared_at all_writes outgoing first t
      unfolding taken
      at_release t release (never none) =
          held_first serves (shared_at writes outgoing first) first (suc t)
          (λ s early is. held_first writes outgoing first (suc s)
          (λ u before written. absurd (not_both (writes u) written (no_write u (none u (omega arith))))))
          ∙ sym (held_first all_writes outgoing first (suc t)
          (λ u before written. absurd (not_both (all_writes u) written (none u (omega arith)))))
      at_release t release (last w is) =
          held_since serves (shared_at writes outgoing first) first (outgoing w) served.tick (suc t)
          (omega (arith, served.in_time)) served.passes
          (λ s from early serving.
          written_last writes s w (writes_the_last t w release is) (omega (arith, served.from_start))
          (λ u after before. no_write u (is.none_later u after (omega arith))))
          ∙ sym (written_last all_writes t w is.passes is.in_time is.none_later)
        where
          served : SomeWithin serves w t
          served = serves_since t w release is

      pub same_taken : (n : ℕ) → taken writes serves outgoing first n ≡ taken all_writes all_serves outgoing first n
      unfolding taken held
      same_taken zero = refl
      same_taken (suc n) = go (all_serves n) refl (same_taken n)
        where
          go : (b : Bool) → all_serves n ≡ b
              → taken writes serves outgoing first n ≡ taken all_writes all_serves outgoing first n
              → taken writes serves outgoing first (suc n) ≡ taken all_writes all_serves outgoing first (suc n)
          go true e before =
              at_release n e (latest all_writes n)
              ∙ sym (held_taken all_serves (shared_at all_writes outgoing first) first n e)
          go false e before =
              held_kept serves (shared_at writes outgoing first) first n (no_serve n e)
              ∙ before
              ∙ sym (held_kept all_serves (shared_at all_writes outgoing first) first n e)
