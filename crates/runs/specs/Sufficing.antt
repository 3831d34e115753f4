-- Which copies are enough. A plan `full` makes every copy that may be made: a write of a label at every release of its
-- writer, a read at every release of that reader. Another plan suffices if it makes no copy but some of these, and of
-- these the ones that every release of a reader needs. What a release is stays open here. Assumes nothing.
use Rattle.std.specs.Prelude.{ℕ, ◌≤◌, ◌<◌, Bool, true, false, ◌≡◌}
use Rattle.copies.specs.Plans.{Plan}

-- `last` is the last tick, up to the tick `end`, that passes the test
pub record LastUpTo (test : ℕ → Bool) (end last : ℕ) : Type 0 where
  pub passes : test last ≡ true
  pub in_time : last ≤ end
  pub none_later : (u : ℕ) → last < u → u ≤ end → test u ≡ false

-- some tick from `start` to `end` passes the test
pub record SomeWithin (test : ℕ → Bool) (start end : ℕ) : Type 0 where
  pub tick : ℕ
  pub passes : test tick ≡ true
  pub from_start : start ≤ tick
  pub in_time : tick ≤ end

pub record Suffices (plan full : Plan) : Type 0 where
  -- the plan copies only at releases: a write at a release of the label's writer, a read at a release of that reader
  pub writes_at_releases : (l t : ℕ) → plan.writes l t ≡ true → full.writes l t ≡ true
  pub serves_at_releases : (l r t : ℕ) → plan.serves l r t ≡ true → full.serves l r t ≡ true
  -- for every release t of a reader at or before which the writer has one, w being the last such: the label is written
  -- at w
  pub writes_the_last : (l r t w : ℕ) → full.serves l r t ≡ true → LastUpTo (full.writes l) t w
      → plan.writes l w ≡ true
  -- and the reader is served at some tick from w to t
  pub serves_since : (l r t w : ℕ) → full.serves l r t ≡ true → LastUpTo (full.writes l) t w
      → SomeWithin (plan.serves l r) w t
