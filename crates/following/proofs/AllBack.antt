-- Several instants gone back from at once, each as one of them is (GoneBack.antt). No contract cites this file. Assumes
-- nothing.
use Prim.Native.Nat.{ℕ, ◌+◌, ◌-◌, ◌<◌, ◌≤◌}
use mathlib.Core.Path.{◌≡◌, sym, ap, ◌∙◌}
use mathlib.Core.List.{List}
use native.Mathlib.Omega.{arith}
use lib.ListN.{get_or}
use Rattle.std.specs.List.{All, AllZip}
use Rattle.times.specs.Releases.{every, last_to}
use Rattle.following.specs.Following.{PublishedAt, last_start}
use Rattle.following.proofs.Each.{each_itself, each_then, each_given, all_then}
use Rattle.following.proofs.GoneBack.{own_period, gone_first, long_enough, gone_turn, gone_all, Back}

module _ (periods : List ℕ) (at : ℕ) where
  -- what is given of each of them
  abbrev pub Given : ℕ → Type 0
  Given x = PublishedAt periods at x × (x ≤ 32000000)

  -- how long the task's period is
  abbrev own : ℕ
  own = get_or periods at 0

  module _ (some : 0 < at) where
    back_first : {x released : ℕ} → Given x → x ≡ released + own → Back periods at (at - 1) released released
    back_first {x} {released} given is =
        let published = rw is at given.0 in
        let again : released + own - own ≡ released = omega arith in
        record {
          published = published;
          near = omega arith;
          gone = rw again at (gone_first periods published some);
        }

    -- the task's own releases, one period before
    pub released_before : (xs ys : List ℕ) → All Given xs → AllZip (λ x r. r ≡ x - own) xs ys → AllZip (λ x r. x ≡ r + own) xs ys
    released_before xs ys all less =
        each_given {P = Given} {R = λ x r. r ≡ x - own} (λ x r. x ≡ r + own)
        (λ x r given is. omega (arith, own_period periods given.0 some)) xs ys all less

    -- from them on
    pub all_first : (xs ys : List ℕ) → All Given xs → AllZip (λ x r. x ≡ r + own) xs ys
        → AllZip (Back periods at (at - 1)) ys ys
    all_first xs ys all released =
        each_itself {P = λ y. Back periods at (at - 1) y y} (Back periods at (at - 1)) (λ y back. back) ys
        (all_then {R = λ x y. Back periods at (at - 1) y y} (λ y. Back periods at (at - 1) y y) (λ x y back. back) xs ys
        (each_given {P = Given} {R = λ x r. x ≡ r + own} (λ x y. Back periods at (at - 1) y y)
        (λ x y given is. back_first given is) xs ys all released))

  module _ (i : ℕ) (starts ys : List ℕ) (back : AllZip (Back periods at i) starts ys) where
    pub all_near : All (λ y. y ≤ 32000000) ys
    all_near =
        all_then {R = Back periods at i} (λ y. y ≤ 32000000) (λ x y back. omega (arith, back.near, back.gone.near)) starts ys
        back

    -- the task with that number takes it
    module _ {T : ℕ} (period : get_or periods i 0 ≡ T) (before : 0 < i) where
      pub all_long : All (λ y. (T ≤ y) × (y ≤ 32000000)) ys
      all_long =
          all_then {R = Back periods at i} (λ y. (T ≤ y) × (y ≤ 32000000)) (λ x y back. (
            omega (arith, period, long_enough periods back.published back.gone before),
            omega (arith, back.near, back.gone.near),
          )) starts ys back

      pub all_turn : (zs : List ℕ) → AllZip (λ x r. r ≡ last_to (every T) (x - T)) ys zs → AllZip (Back periods at (i - 1)) starts zs
      all_turn zs taken =
          each_then {R = Back periods at i} {Q = λ x r. r ≡ last_to (every T) (x - T)} (Back periods at (i - 1))
          (λ x y z back is. record {
            published = back.published;
            near = back.near;
            gone = rw (is, ← period) (gone_turn periods back.published back.gone before);
          }) starts ys zs back taken

  -- to the starts
  pub all_gone : (i : ℕ) (xs starts ys zs : List ℕ) → AllZip (λ x r. x ≡ r + own) xs starts
      → AllZip (Back periods at i) starts ys → i ≡ 0 → AllZip (λ y r. r ≡ last_to (every (get_or periods 0 0)) y) ys zs
      → AllZip (λ x r. r ≡ last_start periods at x) xs zs
  all_gone i xs starts ys zs released back none last =
      each_then {R = λ x r. x ≡ r + own} {Q = λ y r. r ≡ last_start periods at (y + own)}
      (λ x r. r ≡ last_start periods at x) (λ x y r is found. found ∙ ap (last_start periods at) (sym is)) xs starts zs
      released
      (each_then {R = Back periods at i} {Q = λ y r. r ≡ last_to (every (get_or periods 0 0)) y}
      (λ y r. r ≡ last_start periods at (y + own))
      (λ x y r back is. is ∙ gone_all periods back.published back.gone (omega arith)) starts ys zs back last)
