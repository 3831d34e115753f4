-- Starts that end alike are no basic paths, but for the last one before a later end. No contract cites this file. Assumes
-- nothing.
use Prim.Native.Nat.{ℕ, suc, ◌+◌, ◌<◌, ◌≤◌}
use mathlib.Core.Path.{◌≡◌, ap, ◌∙◌}
use mathlib.Core.Bool.{Bool, true, false}
use mathlib.Core.List.{[], ◌∷◌, ◌++◌}
use native.Mathlib.Nat.{dvd_refl, mul-le-mul_right}
use native.Mathlib.Omega.{arith}
use borrow.Author.Tests.{lt-ltb, le-ltb}
use Rattle.lists.specs.Lists.{each_below, only_if}
use Rattle.lists.proofs.Below.{each_below_less}
use Rattle.times.specs.Releases.{Timing, release, is_release}
use Rattle.times.proofs.Releases.{release_is_release, releases_apart}
use Rattle.times.proofs.ReleaseNumbers.{release_next}
use Rattle.times.proofs.ReleasesRepeat.{release_repeats}
use Rattle.ages.specs.Ages.{Chain, first_period, end_of, is_basic}
use Rattle.paths.specs.Walks.{paths_below}

-- releases rise with their numbers
pub release_rises : (task : Timing) (m n : ℕ) → m ≤ n → release task m ≤ release task n
unfolding release
release_rises task m n le = mul-le-mul_right task.period le

-- the starts from one to another have this end
pub record Alike (chain : Chain) (from to end : ℕ) : Type 0 where
  pub start : is_release chain.first to ≡ true
  pub ends : (t : ℕ) → is_release chain.first t ≡ true → from ≤ t → t ≤ to → end_of chain t ≡ end

module _ (chain : Chain) (timed : 0 < first_period chain) {from to end : ℕ} (alike : Alike chain from to end) where
  -- the start after one of them
  after : (t : ℕ) → is_release chain.first t ≡ true → from ≤ t + first_period chain → t < to
      → end_of chain (t + first_period chain) ≡ end
  after t start late before =
      let T = first_period chain in
      let apart = releases_apart chain.first timed t to start alike.start before in
      alike.ends (t + T) (release_repeats chain.first T (dvd_refl T) t ∙ start) late apart

  -- none but the last of them may be a basic path
  not_basic : (t : ℕ) → is_release chain.first t ≡ true → from ≤ t → t < to → is_basic chain t ≡ false
  unfolding is_basic
  not_basic t start late before =
      let same = alike.ends t start late (omega arith) in
      let next = after t start (omega arith) before in
      let no_later : end_of chain (t + first_period chain) ≤ end_of chain t = omega arith in
      le-ltb _ _ no_later

  -- the start before them, with an earlier end, is one
  pub is_basic_lem : (b : ℕ) → is_release chain.first b ≡ true → from ≤ b + first_period chain → b < to → end_of chain b < end
      → (is_basic chain b ≡ true) × (end_of chain (b + first_period chain) ≡ end)
  unfolding is_basic
  is_basic_lem b start late before earlier =
      let next = after b start late before in
      let later : end_of chain b < end_of chain (b + first_period chain) = omega arith in
      (lt-ltb _ _ later, next)

  -- so no path starts among them, up to any of them
  pub paths_alike : (m n : ℕ) → m ≤ n → from ≤ release chain.first m → release chain.first n ≤ to
      → paths_below chain n ≡ paths_below chain m
  unfolding paths_below
  paths_alike m n le late before =
      each_below_less m n _ le (λ k since below.
      let first = chain.first in
      let from_m = release_rises first m k since in
      let to_n = release_rises first (suc k) n below in
      ap (λ (b : Bool). only_if b (release first k))
      (not_basic (release first k) (release_is_release first k) (omega arith) (omega (arith, release_next first k))))

-- one start more
pub paths_more : (chain : Chain) (n : ℕ) → is_basic chain (release chain.first n) ≡ true
    → paths_below chain (suc n) ≡ paths_below chain n ++ release chain.first n ∷ []
unfolding paths_below each_below
paths_more chain n basic = rw basic
