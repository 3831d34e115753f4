-- The listings of a sound table, carried out core by core and frame by frame, round after round, make the listed
-- copies: the two plans are the same. Assumes nothing.
use Prim.Native.Nat.{ℕ, ◌%◌, ◌<◌}
use mathlib.Core.Bool.{true, ◌&&◌, ◌||◌, or-false, and-false}
use mathlib.Core.Path.{◌≡◌, refl, sym, ap, ◌∙◌, subst, subst₂, fun_ext}
use native.Mathlib.Nat.{mod-lt}
use lib.Dec.{eqb}
use borrow.Author.Tests.{eqb-true, eq-eqb}
use Rattle.lists.specs.Lists.{some_below}
use Rattle.lists.proofs.Bools.{same_test, and_parts, and_of_parts}
use Rattle.lists.proofs.Lists.{some_below_finds, some_below_found, some_below_nothing, some_below_same}
use Rattle.table.specs.Table.{core_of, writer_of, reads, hyperperiod_of}
use Rattle.table.specs.declared.Table.{Table}
use Rattle.copies.specs.Copies.{written, served, copies_at}
use Rattle.copies.specs.Plans.{listed_plan}
use Rattle.lists.specs.Lists.{some_of}
use Rattle.runs.specs.FramePlan.{is_write_of, is_read_of, plan_of, listings_plan}
use Rattle.runs.proofs.FrameCopies.{writing, reading, listings_have, copies_have}
use Rattle.times.proofs.PointsInRound.{publishes_in_round, serves_in_round}
use Rattle.table.proofs.Sound.{Sound}

module _ (table : Table) (sound : Sound table) where
  -- a round is like the first
  written_in_round : (l t : ℕ) → written table l (t % hyperperiod_of table) ≡ written table l t
  unfolding written
  written_in_round l t =
      some_below_same table.tasks _ _ (λ r below. ap (λ b. reads table l r && b) (publishes_in_round _ _ _ t))

  served_in_round : (l r t : ℕ) → served table l r (t % hyperperiod_of table) ≡ served table l r t
  unfolding served
  served_in_round l r t = ap (λ b. reads table l r && b) (serves_in_round _ _ _ t)

  -- of the copies of a core at an instant, a write of label l
  write_among : (l core s : ℕ) → some_of (is_write_of l) (copies_at table core s)
      ≡ some_below table.labels (writing (is_write_of l) table core s)
  write_among l core s =
      copies_have (is_write_of l) table core s
      ∙ ap (λ b. some_below table.labels (writing (is_write_of l) table core s) || b)
      (some_below_nothing table.labels (λ k. some_below table.tasks (reading (is_write_of l) table core s k))
      (λ k below.
      some_below_nothing table.tasks (reading (is_write_of l) table core s k) (λ q below.
      and-false (eqb (core_of table q) core && served table k q s))))
      ∙ or-false (some_below table.labels (writing (is_write_of l) table core s))

  -- and a read of it for r
  read_among : (l r core s : ℕ) → some_of (is_read_of l r) (copies_at table core s)
      ≡ some_below table.labels (λ k. some_below table.tasks (reading (is_read_of l r) table core s k))
  read_among l r core s =
      copies_have (is_read_of l r) table core s
      ∙ ap (λ b. b || some_below table.labels (λ k. some_below table.tasks (reading (is_read_of l r) table core s k)))
      (some_below_nothing table.labels (writing (is_read_of l r) table core s) (λ k below.
      and-false (eqb (core_of table (writer_of table k)) core && written table k s)))

  in_round : (t : ℕ) → t % hyperperiod_of table < hyperperiod_of table
  in_round t = mod-lt t sound.round_positive

  -- label l is written by the listings when it is written
  write_made : (l t : ℕ) → (listings_plan table).writes l t ≡ true → written table l t ≡ true
  unfolding listings_plan plan_of
  write_made l t made =
      let due = listings_have (is_write_of l) table t (in_round t) in
      let (core, known, copied) = some_below_finds table.cores _ (sym due ∙ made) in
      let among = sym (write_among l core _) ∙ copied in
      let (k, label, found) = some_below_finds table.labels _ among in
      let (at_core, same) = and_parts _ (eqb k l) found in
      let there = eqb (core_of table (writer_of table k)) core in
      let then = (and_parts there (written table k (t % hyperperiod_of table)) at_core).1 in
      sym (written_in_round l t)
      ∙ subst (λ m. written table m (t % hyperperiod_of table) ≡ true) (eqb-true k l same) then

  -- a label that is written or read is one of the table
  label_written_lem : (l t : ℕ) → written table l t ≡ true → l < table.labels
  unfolding written
  label_written_lem l t is =
      let (r, known, found) = some_below_finds table.tasks _ is in
      sound.label_known l r (and_parts (reads table l r) _ found).0

  reader_served : (l r t : ℕ) → served table l r t ≡ true → reads table l r ≡ true
  unfolding served
  reader_served l r t is = (and_parts (reads table l r) _ is).0

  made_write : (l t : ℕ) → written table l t ≡ true → (listings_plan table).writes l t ≡ true
  unfolding listings_plan plan_of
  made_write l t is =
      let core = core_of table (writer_of table l) in
      listings_have (is_write_of l) table t (in_round t)
      ∙ some_below_found table.cores _ core (sound.core_known _ (sound.writer_known l))
      (write_among l core _
      ∙ some_below_found table.labels _ l (label_written_lem l t is)
      (and_of_parts (eqb core core && written table l _) (eqb l l)
      (and_of_parts (eqb core core) _ (eq-eqb core core refl) (written_in_round l t ∙ is)) (eq-eqb l l refl)))

  -- reader r of l is served by the listings when it is served
  read_made : (l r t : ℕ) → (listings_plan table).serves l r t ≡ true → served table l r t ≡ true
  unfolding listings_plan plan_of
  read_made l r t made =
      let due = listings_have (is_read_of l r) table t (in_round t) in
      let (core, known, copied) = some_below_finds table.cores _ (sym due ∙ made) in
      let among = sym (read_among l r core _) ∙ copied in
      let (k, label, row) = some_below_finds table.labels _ among in
      let (q, task, found) = some_below_finds table.tasks _ row in
      let (at_core, same) = and_parts _ (eqb k l && eqb q r) found in
      let (same_label, same_reader) = and_parts (eqb k l) (eqb q r) same in
      let then = (and_parts (eqb (core_of table q) core) (served table k q (t % hyperperiod_of table)) at_core).1 in
      sym (served_in_round l r t)
      ∙ subst₂ (λ m n. served table m n (t % hyperperiod_of table) ≡ true)
      (eqb-true k l same_label) (eqb-true q r same_reader) then

  made_read : (l r t : ℕ) → served table l r t ≡ true → (listings_plan table).serves l r t ≡ true
  unfolding listings_plan plan_of
  made_read l r t is =
      let core = core_of table r in
      let reader = reader_served l r t is in
      let known = sound.reader_known l r reader in
      listings_have (is_read_of l r) table t (in_round t)
      ∙ some_below_found table.cores _ core (sound.core_known r known)
      (read_among l r core _
      ∙ some_below_found table.labels _ l (sound.label_known l r reader)
      (some_below_found table.tasks _ r known
      (and_of_parts (eqb core core && served table l r _) (eqb l l && eqb r r)
      (and_of_parts (eqb core core) _ (eq-eqb core core refl) (served_in_round l r t ∙ is))
      (and_of_parts (eqb l l) (eqb r r) (eq-eqb l l refl) (eq-eqb r r refl)))))

  pub same_plan : listings_plan table ≡ listed_plan table
  unfolding listed_plan
  same_plan = λ i. record {
    writes = fun_ext (λ l. fun_ext (λ t.
        same_test ((listings_plan table).writes l t) (written table l t) (write_made l t) (made_write l t))) i;
    serves = fun_ext (λ l. fun_ext (λ r. fun_ext (λ t.
        same_test ((listings_plan table).serves l r t) (served table l r t) (read_made l r t) (made_read l r t)))) i;
  }
