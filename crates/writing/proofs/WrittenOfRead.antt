-- Written of read: an accepted image is the image of its table, byte for byte, and the table has 0 past its counts.
-- Assumes nothing.
use Prim.Native.Nat.{ℕ, ◌+◌, ◌-◌, ◌<◌}
use mathlib.Core.Logic.{by_cases}
use mathlib.Core.Path.{◌≡◌, refl, sym, ap, ◌∙◌, subst}
use mathlib.Core.List.{List, [], ◌++◌}
use native.Mathlib.Decide.{dec_lt}
use native.Mathlib.Nat.{zero-add}
use native.Mathlib.Omega.{arith}
use lib.Dec.{leb}
use lib.ListN.{get_or, get_or-eq_default}
use Rattle.lists.specs.Lists.{each_of}
use Rattle.bits.specs.Bits.{bit_count, bit_at}
use Rattle.bits.specs.Packing.{Field, bits_of_all, bytes_for}
use Rattle.bits.proofs.ReadBack.{all_written_append}
use Rattle.bits.proofs.Held.{Held, held_both, bits_in, packed_only}
use Rattle.outcomes.specs.Outcome.{Outcome, gives, refuses, asked_of}
use Rattle.taking.specs.Reading.{Taker, Taken, done, ◌then◌, in_row, check}
use Rattle.table.specs.Table.{hyperperiod_of}
use Rattle.table.specs.Image.{Whole, head_fields, task_fields, label_fields, chain_fields}
use Rattle.table.specs.Image.{table_of, fill, all_fields, whole_fields, read_image}
use Rattle.outcomes.proofs.Outcomes.{same_given, gives_no_refusal}
use Rattle.writing.specs.Written.{head_written, task_written, label_written, chain_written}
use Rattle.writing.specs.Written.{image_fields, image_of, used_of}
use Rattle.writing.proofs.PartsHeld.{head_holds, task_holds, label_holds, chain_holds, Ends, fill_holds}
use Rattle.writing.proofs.SameParts.{whole, same_head, same_tasks, same_labels, same_chains}
use Rattle.taking.proofs.TakenHeld.{Holds, row_holds, then_both}
use Rattle.bits.proofs.HowMany.{bits_both}

-- an image holds the fields of a table from its first bit on, and then the fill
pub record Spelt (image : List ℕ) (whole : Whole) : Type 0 where
  pub used : used_of whole ≡ whole
  pub held : Held image 0 (bits_of_all (image_fields 1 whole))
  pub ends : Ends image (bits_in (image_fields 1 whole))

-- fields taken so far, from the first bit on
record SoFar (image : List ℕ) (at : ℕ) (fields : List Field) : Type 0 where
  held : Held image 0 (bits_of_all fields)
  place : at ≡ bits_in fields

-- after these fields, the taker takes all the rest of a table
abbrev Completes : List Field → Taker Whole → Type 0
Completes before taker = (image : List ℕ) (at : ℕ) (given : Taken Whole) → taker image at ≡ gives given
    → SoFar image at before → Spelt image given.value

then_completes : {A : Type 0} (As : A → List Field → Type 0) (first : Taker A) (rest : A → Taker Whole)
    (before : List Field) → Holds As first
    → ((a : A) (fields : List Field) → As a fields → Completes (before ++ fields) (rest a))
    → Completes before (first then rest)
then_completes As first rest before of_first of_rest image at given e so_far =
    let both = then_both first rest image at given e in
    let place = so_far.place in
    let most = so_far.held.inside in
    let more = of_first image at both.taken (omega arith) both.one in
    let next = more.next in
    of_rest both.taken.value more.fields more.own image both.taken.next given both.other (record {
      held = subst (Held image 0) (sym (all_written_append before more.fields))
          (held_both image 0 (bits_of_all before) (bits_of_all more.fields) so_far.held
          (subst (λ p. Held image p (bits_of_all more.fields)) (place ∙ sym (zero-add _)) more.held));
      place = omega (arith, bits_both before more.fields);
    })

fill_completes : (whole : Whole) (before : List Field) → used_of whole ≡ whole → before ≡ image_fields 1 whole
    → Completes before (fill then λ filled. done whole)
fill_completes whole before used all image at given e so_far =
    let both = then_both fill (λ filled. done whole) image at given e in
    let place = so_far.place in
    let most = so_far.held.inside in
    let ends = fill_holds image at both.taken (omega arith) both.one in
    subst (λ taken. Spelt image taken.value) (same_given both.other) (record {
      used = used;
      held = subst (λ fields. Held image 0 (bits_of_all fields)) all so_far.held;
      ends = subst (Ends image) (place ∙ ap bits_in all) ends;
    })

all_spelt : Completes [] all_fields
unfolding all_fields used_of image_fields
all_spelt =
    then_completes (λ head fs. fs ≡ head_written 1 head) head_fields _ [] head_holds (λ head f0 e0.
    then_completes _ (in_row head.tasks _) _ _
    (row_holds task_written (λ before. task_fields head.cores) (λ before. task_holds head.cores) head.tasks)
    (λ tasks f1 e1.
    then_completes _ (in_row head.labels _) _ _
    (row_holds label_written (λ before. label_fields head.tasks) (λ before. label_holds head.tasks) head.labels)
    (λ labels f2 e2.
    then_completes _ (in_row head.chains _) _ _
    (row_holds chain_written (λ before. chain_fields (table_of head tasks labels []))
    (λ before. chain_holds (table_of head tasks labels [])) head.chains)
    (λ chains f3 e3.
    let h = same_head head tasks labels chains in
    let ts = same_tasks head tasks labels chains e1.0 in
    let ls = same_labels head tasks labels chains e2.0 in
    let cs = same_chains head tasks labels chains e3.0 in
    fill_completes (whole head tasks labels chains) _ (rw (h, ts, ls, cs))
    (rw (e0, e1.1, e2.1, e3.1, h, ts, ls, cs))))))

-- every accepted image, of bytes
module _ (image : List ℕ) (whole : Whole) (e : read_image image ≡ gives whole) where
  pub accepted_spelt : Spelt image whole
  unfolding read_image whole_fields bits_of_all each_of
  accepted_spelt = go (whole_fields image 0) refl e
    where
      go : (outcome : Outcome (Taken Whole)) → whole_fields image 0 ≡ outcome
          → asked_of outcome (λ taken. gives taken.value) ≡ gives whole → Spelt image whole
      go (gives taken) is e =
          let both = then_both all_fields
          (λ whole. check (leb (hyperperiod_of whole.table) 1000000) 10 0 then λ checked. done whole)
          image 0 taken is in
          let last = then_both (check _ 10 0) (λ checked. done both.taken.value) image _ taken both.other in
          let spelt = all_spelt image 0 both.taken both.one
          (record { held = record { inside = omega arith; each = λ j below. absurd (omega arith) }; place = refl }) in
          subst (Spelt image) (ap (λ t. t.value) (same_given last.other) ∙ same_given e) spelt
      go (refuses number place) is e = absurd (gives_no_refusal (sym e))

  pub accepted_used : used_of whole ≡ whole
  accepted_used = accepted_spelt.used

  pub written_of_read : ((k : ℕ) → get_or image k 0 < 256) → image ≡ image_of 1 whole
  unfolding image_of bit_count bytes_for
  written_of_read are_bytes =
      let spelt = accepted_spelt in
      let fields = image_fields 1 whole in
      let end = spelt.ends.end in
      packed_only image fields are_bytes (omega arith) (λ k below.
      by_cases (dec_lt k (bits_in fields))
      (λ early. subst (λ p. bit_at image p ≡ get_or (bits_of_all fields) k 0) (zero-add k) (spelt.held.each k early))
      (λ late.
      let i : ℕ = k - bits_in fields in
      let place : bits_in fields + i ≡ k = omega arith in
      subst (λ p. bit_at image p ≡ 0) place (spelt.ends.zeros i (omega arith))
      ∙ sym (get_or-eq_default (bits_of_all fields) 0 {n = k} (omega arith))))
