-- The basic paths that are counted, those of the chain's own round, stand for those of every round: a start counted is
-- a basic path, and so is the start any number of rounds later; and each basic path of any round is a counted one, some
-- rounds later. Assumes nothing.
use Prim.Native.Nat.{ℕ, zero, suc, ◌+◌, ◌*◌, ◌/◌, ◌%◌, ◌<◌}
use mathlib.Core.Path.{◌≡◌, refl, sym, ap, ◌∙◌}
use mathlib.Core.Logic.{⊎_elim}
use mathlib.Core.Bool.{Bool, true, false, false≢true}
use mathlib.Core.List.Memᴰ
use mathlib.Core.List.{List, Memᴰ}
use native.Mathlib.Nat.{eq-or-lt_of_le, le_of_suc-le-suc, div-add-mod', le-div_iff_mul-le, le_of_dvd, mod-lt}
use native.Mathlib.Omega.{arith}
use Rattle.lists.specs.Lists.{each_below, only_if}
use Rattle.times.specs.Releases.{release, is_release}
use Rattle.times.proofs.ReleaseNumbers.{release_rounds}
use Rattle.times.proofs.Releases.{release_is_release, release_number}
use Rattle.ages.specs.Ages.{Chain, first_period, is_basic, round_of, basic_paths}
use Rattle.ages.specs.Paths.{Counted, Path}
use Rattle.ages.proofs.Rising.{Timed}
use Rattle.ages.proofs.Repeats.{round_divided, round_positive, basic_in_rounds}

-- what a number below the bound adds is there, and nothing else is
each_below_has : {A : Type 0} {x : A} (n : ℕ) (adds : ℕ → List A) (k : ℕ)
    → k < n → Memᴰ x (adds k) → Memᴰ x (each_below n adds)
unfolding each_below
each_below_has zero adds k below added = absurd (omega arith)
each_below_has (suc n) adds k below added =
    ⊎_elim
    (λ last.
    let same : k ≡ n = omega arith in
    Memᴰ.append_right (each_below n adds) (rw same at added))
    (λ earlier. Memᴰ.append_left (adds n) (each_below_has n adds k (le_of_suc-le-suc earlier) added))
    (eq-or-lt_of_le below)

each_below_only : {A : Type 0} {x : A} (n : ℕ) (adds : ℕ → List A)
    → Memᴰ x (each_below n adds) → (k : ℕ) × (k < n) × Memᴰ x (adds k)
unfolding each_below
each_below_only zero adds there = absurd (Memᴰ.not-nil there)
each_below_only {x = x} (suc n) adds there =
    ⊎_elim
    (λ earlier.
    let found : (k : ℕ) × (k < n) × Memᴰ x (adds k) = each_below_only {x = x} n adds earlier in
    (found.0, omega arith, found.2))
    (λ last. (n, omega arith, last))
    (Memᴰ.append_cases (each_below n adds) there)

only_if_has : {A : Type 0} (test : Bool) (x : A) → test ≡ true → Memᴰ x (only_if test x)
only_if_has true x passes = Memᴰ.head refl
only_if_has false x passes = absurd (false≢true passes)

only_if_only : {A : Type 0} {y : A} (test : Bool) (x : A) → Memᴰ y (only_if test x) → (y ≡ x) × (test ≡ true)
only_if_only true x there = (Memᴰ.eq_of_singleton there, refl)
only_if_only false x there = absurd (Memᴰ.not-nil there)

module _ (chain : Chain) where
  -- the starts of the chain's own round are so many releases of the first task
  abbrev starts : ℕ
  starts = round_of chain / first_period chain

  pub counted_at : (k : ℕ) → k < starts → is_basic chain (release chain.first k) ≡ true
      → Counted chain (release chain.first k)
  unfolding basic_paths
  counted_at k below basic = each_below_has starts _ k below (only_if_has _ _ basic)

  -- a start that is counted is a basic path
  pub counted_is_path : (t : ℕ) → Counted chain t → Path chain t
  unfolding basic_paths
  counted_is_path t counted =
      let (k, below, added) = each_below_only starts _ counted in
      let (same, basic) = only_if_only _ _ added in
      record {
        start = ap (is_release chain.first) same ∙ release_is_release chain.first k;
        basic = ap (is_basic chain) same ∙ basic;
      }

  module _ (timed : Timed chain) where
    pub some_start : 0 < starts
    some_start =
        (le-div_iff_mul-le {x = 1} {y = round_of chain} timed.first_timed).1
        (omega (arith, le_of_dvd (round_positive chain timed) (round_divided chain timed).0))

    -- and so is the start any number of rounds later
    pub counted_comes_again : (t n : ℕ) → Counted chain t → Path chain (t + n * round_of chain)
    counted_comes_again t n counted =
        let path = counted_is_path t counted in
        let (k, number) = release_number chain.first t path.start in
        let later = release_rounds chain.first (round_of chain) (round_divided chain timed).0 k n in
        record {
          start =
              ap (λ (s : ℕ). is_release chain.first (s + n * round_of chain)) (sym number)
              ∙ ap (is_release chain.first) (sym later)
              ∙ release_is_release chain.first (k + n * starts);
          basic = basic_in_rounds chain timed t n ∙ path.basic;
        }

    -- each basic path of any round has its counterpart among those that are counted
    pub counterpart : (t : ℕ) → Path chain t
        → (s : ℕ) × (n : ℕ) × Counted chain s × (t ≡ s + n * round_of chain)
    counterpart t path =
        let (k, number) = release_number chain.first t path.start in
        let n = k / starts in
        let r = k % starts in
        let s = release chain.first r in
        let split : k ≡ r + n * starts = omega (arith, div-add-mod' k starts) in
        let later : t ≡ s + n * round_of chain =
        sym number ∙ ap (release chain.first) split
        ∙ release_rounds chain.first (round_of chain) (round_divided chain timed).0 r n in
        let basic : is_basic chain s ≡ true =
        sym (basic_in_rounds chain timed s n) ∙ ap (is_basic chain) (sym later) ∙ path.basic in
        (s, n, counted_at r (mod-lt k some_start) basic, later)
