-- The tasks of a chain by their paces, and by their periods. Assumes nothing.
use Prim.Native.Nat.{ℕ, zero, suc, ◌+◌, ◌<◌, ◌≤◌}
use mathlib.Core.Path.{◌≡◌, refl, sym, ap, ◌∙◌}
use mathlib.Core.List.{List, [], ◌∷◌, map}
use native.Mathlib.Omega.{arith}
use lib.ListN.{length, get_or, take, drop, length-map, length-append, length-take, length-drop}
use lib.Seq.{drop-cons, take-length, get_or-append_seam, take-append_seam}
use Rattle.std.specs.List.{push, take-map, drop-map}
use Rattle.std.proofs.lemmas.List.{get_or-map, get_or-take, get_or-drop, take-take}
use Rattle.times.specs.Releases.{every}
use Rattle.quotients.specs.Paces.{periods_of, tasks_of}
use Rattle.quotients.specs.declared.pace.Pace.{Pace}
use Rattle.following.specs.Following.{tasks_from}

pub length_periods : (paces : List Pace) → length (periods_of paces) ≡ length paces
length_periods paces = length-map paces _

-- the period of the task with that number
pub period_at : (paces : List Pace) (i : ℕ) (d : Pace) → i < length paces
    → get_or (periods_of paces) i 0 ≡ (get_or paces i d).period
period_at paces i d inside = get_or-map (λ (pace : Pace). pace.period) paces i d 0 inside

-- a number that is not 0 stands in the list
pub inside_of : (xs : List ℕ) (i : ℕ) → 0 < get_or xs i 0 → i < length xs
inside_of [] i some = absurd (omega arith)
inside_of (x ∷ xs) zero some = omega arith
inside_of (x ∷ xs) (suc i) some = omega (arith, inside_of xs i some)

-- so many from a number on
timings_of : (periods : List ℕ) (i n : ℕ) → i + n ≤ length periods
    → tasks_from periods i n ≡ map every (take n (drop i periods))
unfolding tasks_from
timings_of periods i zero within = refl
timings_of periods i (suc n) within =
    rw (drop-cons periods i 0 (omega arith)) (ap (λ l. every (get_or periods i 0) ∷ l) (timings_of periods (suc i) n (omega arith)))

tasks_mapped : (paces : List Pace) → map every (periods_of paces) ≡ tasks_of paces
tasks_mapped [] = refl
tasks_mapped (pace ∷ paces) = ap (λ l. every pace.period ∷ l) (tasks_mapped paces)

pub tasks_part : (paces : List Pace) (i n : ℕ) → i + n ≤ length paces
    → tasks_from (periods_of paces) i n ≡ tasks_of (take n (drop i paces))
tasks_part paces i n within =
    let long : i + n ≤ length (periods_of paces) = omega (arith, length_periods paces) in
    timings_of (periods_of paces) i n long
    ∙ ap (λ l. map every (take n l)) (drop-map _ i paces)
    ∙ ap (map every) (take-map _ n (drop i paces))
    ∙ tasks_mapped (take n (drop i paces))

pub tasks_all : (paces : List Pace) → tasks_from (periods_of paces) 0 (length paces) ≡ tasks_of paces
tasks_all paces = tasks_part paces 0 (length paces) (omega arith) ∙ ap tasks_of (take-length paces)

-- gone through from the end: the tasks after the first that are left, the last of them taken
module _ (paces left rest : List Pace) (pace : Pace) (taken : left ≡ push rest pace)
    (part : left ≡ take (length left) (drop 1 paces))
  where
    pub one_less : length left ≡ length rest + 1
    one_less = ap length taken ∙ length-append rest (pace ∷ [])

    within : length left < length paces
    within = omega (arith, ap length part, length-take (length left) (drop 1 paces), length-drop 1 paces, one_less)

    pub taken_period : get_or (periods_of paces) (length left) 0 ≡ pace.period
    taken_period =
        let n = length rest in
        let next : 1 + n ≡ length left = omega (arith, one_less) in
        let below : n < length left = omega (arith, one_less) in
        period_at paces (length left) pace within
        ∙ ap (λ (p : Pace). p.period)
        (ap (λ i. get_or paces i pace) (sym next)
        ∙ sym (get_or-drop 1 paces n pace)
        ∙ sym (get_or-take (length left) (drop 1 paces) n pace below)
        ∙ ap (λ l. get_or l n pace) (sym part ∙ taken)
        ∙ get_or-append_seam rest pace [] pace)

    pub part_before : rest ≡ take (length rest) (drop 1 paces)
    part_before =
        let n = length rest in
        let less : n ≤ length left = omega (arith, one_less) in
        sym (take-append_seam rest (pace ∷ []))
        ∙ ap (take n) (sym taken ∙ part)
        ∙ take-take n (length left) (drop 1 paces) less
