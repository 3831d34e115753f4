-- The first tick from a tick on that passes a test: there is one at the most; it is the start where that passes; from
-- any later start up to it, it stays the first; and it is less than a round away. Assumes nothing.
use Prim.Native.Nat.{ℕ, ◌+◌, ◌-◌, ◌<◌, ◌≤◌}
use mathlib.Core.Path.{◌≡◌, sym, ap, ◌∙◌}
use mathlib.Core.Bool.{Bool}
use mathlib.Core.Logic.{by_cases}
use native.Mathlib.Decide.{dec_lt}
use native.Mathlib.Omega.{arith}
use borrow.Author.Tests.{eq-eqb, eqb-true}
use lib.Dec.{eqb}
use Rattle.lists.proofs.Bools.{not_both, same_test}
use Rattle.next_points.specs.Next.{NextFrom}

-- two that are next are the same
pub next_determined : (test : ℕ → Bool) (t a b : ℕ) → NextFrom test t a → NextFrom test t b → a ≡ b
next_determined test t a b of_a of_b =
    by_cases (dec_lt a b)
    (λ less. absurd (not_both (test a) of_a.passes (of_b.none_earlier a of_a.from_start less)))
    (λ not-less. by_cases (dec_lt b a)
    (λ less. absurd (not_both (test b) of_b.passes (of_a.none_earlier b of_b.from_start less)))
    (λ not_more. omega arith))

module _ {test : ℕ → Bool} {t n : ℕ} (next : NextFrom test t n) where
  -- the start itself, where it passes
  pub next_now : eqb n t ≡ test t
  next_now =
      same_test (eqb n t) (test t)
      (λ same. ap test (sym (eqb-true n t same)) ∙ next.passes)
      (λ passes. eq-eqb n t (by_cases (dec_lt t n)
      (λ less. absurd (not_both (test t) passes (next.none_earlier t (omega arith) less)))
      (λ not-less. omega (arith, next.from_start))))

  -- from a later start
  pub next_later : (u : ℕ) → t ≤ u → u ≤ n → NextFrom test u n
  next_later u late soon = record {
    passes = next.passes;
    from_start = soon;
    none_earlier = λ v from before. next.none_earlier v (omega arith) before;
  }

  -- of a test that repeats round after round
  pub next_in_a_round : (H : ℕ) → 0 < H → ((u : ℕ) → test (u + H) ≡ test u) → n < t + H
  next_in_a_round H some repeats =
      by_cases (dec_lt n (t + H)) (λ less. less)
      (λ far.
      let round : n - H + H ≡ n = omega arith in
      let passed = next.none_earlier (n - H) (omega arith) (omega arith) in
      absurd (not_both (test n) next.passes (ap test (sym round) ∙ repeats (n - H) ∙ passed)))
