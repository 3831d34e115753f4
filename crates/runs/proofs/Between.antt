-- Copies to spare do no harm: a plan that makes every copy of one that suffices, and no copy but at releases, suffices.
-- Assumes nothing.
use Prim.Native.Nat.{ℕ}
use mathlib.Core.Bool.{true}
use mathlib.Core.Path.{◌≡◌}
use Rattle.copies.specs.Plans.{Plan}
use Rattle.runs.specs.Sufficing.{Suffices}

pub between_suffices : (plan more full : Plan) → Suffices plan full
    → ((l t : ℕ) → plan.writes l t ≡ true → more.writes l t ≡ true)
    → ((l r t : ℕ) → plan.serves l r t ≡ true → more.serves l r t ≡ true)
    → ((l t : ℕ) → more.writes l t ≡ true → full.writes l t ≡ true)
    → ((l r t : ℕ) → more.serves l r t ≡ true → full.serves l r t ≡ true)
    → Suffices more full
between_suffices plan more full enough all_writes all_reads only_writes only_reads = record {
  writes_at_releases = only_writes;
  serves_at_releases = only_reads;
  writes_the_last = λ l r t w is last. all_writes l w (enough.writes_the_last l r t w is last);
  serves_since = λ l r t w is last.
      let service = enough.serves_since l r t w is last in
      record {
        tick = service.tick;
        passes = all_reads l r service.tick service.passes;
        from_start = service.from_start;
        in_time = service.in_time;
      };
}
