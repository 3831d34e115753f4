-- An image longer than any table is answered by its first bytes. Document 01: "The largest image is 480 bytes"; so the
-- printing program need not read all of an image to answer it as the whole. No contract cites this file. Assumes
-- nothing.
use Prim.Native.Nat.{ℕ, ◌*◌, ◌≤◌, ◌<◌}
use mathlib.Core.List.{List}
use mathlib.Core.Path.{◌≡◌, refl, sym, ap}
use native.Mathlib.Omega.{arith}
use borrow.Author.Tests.{lt-leb}
use lib.ListN.{length, take}
use lib.Seq.{get_or-take, length-take-le}
use Rattle.bits.specs.Bits.{bit_count}
use Rattle.outcomes.specs.Outcome.{gives, asked_of}
use Rattle.taking.specs.Reading.{field, in_row, check, fill_bits, zero_bits, nothing_follows}
use Rattle.table.specs.Image.{between, head_fields, task_fields, label_fields, chain_fields, fill, all_fields, whole_fields}
use Rattle.table.specs.Image.{read_image}
use Rattle.table.specs.declared.Table.{Table}
use Rattle.taking.proofs.Checks.{checks_nothing, field_checks}
use Rattle.outcomes.proofs.Outcomes.{gives_no_refusal}
use Rattle.table.proofs.Ranges.{between_bounds}
use Rattle.table.proofs.FieldRules.{head_counts}
use Rattle.taking.proofs.Alike.{Agree, Alike, field_alike, done_alike, check_alike, then_alike, rows_alike}

module _ {a b : List ℕ} {most : ℕ} (agree : Agree a b most) where
  head_alike : Alike agree 26 head_fields
  unfolding head_fields
  head_alike =
      then_alike agree _ 4 22 (omega arith) (field 4 2 _) _ (checks_nothing _) (field_alike agree 4 2 _)
      (λ version free.
      then_alike agree _ 4 18 (omega arith) (field 4 3 _) _ (checks_nothing _) (field_alike agree 4 3 _) (λ cores free.
      then_alike agree _ 6 12 (omega arith) (field 6 3 _) _ (checks_nothing _) (field_alike agree 6 3 _) (λ tasks free.
      then_alike agree _ 7 5 (omega arith) (field 7 3 _) _ (checks_nothing _) (field_alike agree 7 3 _) (λ labels free.
      then_alike agree _ 5 0 (omega arith) (field 5 3 _) _ (checks_nothing _) (field_alike agree 5 3 _)
      (λ chains free. done_alike agree _)))))

  task_alike : (cores : ℕ) → Alike agree 23 (task_fields cores)
  unfolding task_fields
  task_alike cores =
      then_alike agree _ 3 20 (omega arith) (field 3 4 _) _ (checks_nothing _) (field_alike agree 3 4 _) (λ core free.
      then_alike agree _ 20 0 (omega arith) (field 20 5 _) _ (checks_nothing _) (field_alike agree 20 5 _)
      (λ period free. done_alike agree _))

  label_alike : (tasks : ℕ) → Alike agree 37 (label_fields tasks)
  unfolding label_fields
  label_alike tasks =
      then_alike agree _ 5 32 (omega arith) (field 5 6 _) _ (checks_nothing _) (field_alike agree 5 6 _) (λ writer free.
      then_alike agree _ 32 0 (omega arith) (field 32 7 _) _ (checks_nothing _) (field_alike agree 32 7 _)
      (λ readers free. done_alike agree _))

  chain_alike : (table : Table) → Alike agree 44 (chain_fields table)
  unfolding chain_fields
  chain_alike table =
      then_alike agree _ 4 40 (omega arith) (field 4 8 _) _ (field_checks 4 8 (between 2 8))
      (field_alike agree 4 8 _) (λ size right.
      rows_alike agree 5 8 _ (λ before. field_alike agree 5 8 _) size (between_bounds 2 8 size right).1)

  -- bytes follow in both
  follow_alike : Alike agree 0 (nothing_follows 9)
  unfolding nothing_follows check bit_count
  follow_alike = record {
    says = λ at inside.
        let past_a : at < 8 * length a = omega (arith, agree.long_a) in
        let past_b : at < 8 * length b = omega (arith, agree.long_b) in
        rw (lt-leb _ _ past_a, lt-leb _ _ past_b) (refl, λ given e. absurd (gives_no_refusal (sym e)));
  }

  zeros_alike : Alike agree 7 (zero_bits 9)
  unfolding zero_bits
  zeros_alike = record {
    says = λ at inside.
        (rows_alike agree 1 7 _ (λ before. field_alike agree 1 9 _) (fill_bits at) (omega arith)).says at inside;
  }

  fill_alike : Alike agree 7 fill
  unfolding fill
  fill_alike =
      then_alike agree _ 7 0 (omega arith) (zero_bits 9) _ (checks_nothing _) zeros_alike (λ zeros free. follow_alike)

  module _ (room : 481 ≤ most) where
    all_alike : Alike agree 3841 all_fields
    unfolding all_fields
    all_alike =
        then_alike agree _ 26 3815 (omega arith) head_fields _ head_counts head_alike (λ head counts.
        then_alike agree _ 736 3079 (omega arith) (in_row head.tasks _) _ (checks_nothing _)
        (rows_alike agree 23 32 _ (λ before. task_alike _) head.tasks counts.tasks.1) (λ tasks free.
        then_alike agree _ 2368 711 (omega arith) (in_row head.labels _) _ (checks_nothing _)
        (rows_alike agree 37 64 _ (λ before. label_alike _) head.labels counts.labels.1) (λ labels free.
        then_alike agree _ 704 7 (omega arith) (in_row head.chains _) _ (checks_nothing _)
        (rows_alike agree 44 16 _ (λ before. chain_alike _) head.chains counts.chains.1) (λ chains free.
        then_alike agree _ 7 0 (omega arith) fill _ (checks_nothing _) fill_alike
        (λ filled free. done_alike agree _)))))

    whole_alike : Alike agree 3841 whole_fields
    unfolding whole_fields
    whole_alike =
        then_alike agree _ 3841 0 (omega arith) all_fields _ (checks_nothing _) all_alike (λ whole free.
        then_alike agree _ 0 0 (omega arith) (check _ 10 0) _ (checks_nothing _) (check_alike agree _ 10 0)
        (λ checked free. done_alike agree whole))

    pub same_answer : read_image a ≡ read_image b
    unfolding read_image
    same_answer = ap (λ outcome. asked_of outcome (λ taken. gives taken.value)) (whole_alike.says 0 (omega arith)).0

-- an image of more than 481 bytes is answered by as many of its first bytes, if these are more than 481 too
pub first_bytes_decide : (image : List ℕ) (n : ℕ) → 481 < n → n ≤ length image
    → read_image (take n image) ≡ read_image image
first_bytes_decide image n enough all =
    same_answer {most = 481} (record {
      same = λ i inside. get_or-take n image i 0 (omega arith);
      long_a = rw (length-take-le n image all) enough;
      long_b = omega arith;
    }) (omega arith)
