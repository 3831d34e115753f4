-- "The largest image is 480 bytes": how many bits the fields of a table that meets the rules have. Assumes nothing.
use Prim.Native.Nat.{ℕ, zero, suc, ◌+◌, ◌*◌, ◌<◌, ◌≤◌}
use mathlib.Core.Path.{◌≡◌, ap, ◌∙◌}
use mathlib.Core.List.{List, [], ◌∷◌, ◌++◌}
use native.Mathlib.Nat.{le_of_eq}
use native.Mathlib.Omega.{arith}
use lib.ListN.{length}
use Rattle.lists.specs.Lists.{each_below, each_of}
use Rattle.lists.proofs.Each.{each_of_append}
use Rattle.outcomes.specs.Outcome.{gives}
use Rattle.bits.specs.Bits.{bit_count}
use Rattle.bits.specs.Packing.{Field, bits}
use Rattle.bits.proofs.Held.{bits_in}
use Rattle.bits.proofs.HowMany.{bits_none, bits_more, bits_both}
use Rattle.table.specs.Table.{chain_of}
use Rattle.table.specs.Image.{Head, Task, Label, Whole, read_image}
use Rattle.table.specs.Rules.{MeetsRules}
use Rattle.table.proofs.MeetsRules.{accepted_meets_rules}
use Rattle.writing.specs.Written.{head_written, task_written, label_written, chain_written}
use Rattle.writing.specs.Written.{head_of, tasks_of, labels_of, chains_of, image_fields}
use Rattle.writing.proofs.WrittenOfRead.{accepted_spelt}

head_bits_lem : (head : Head) → bits_in (head_written 1 head) ≡ 26
unfolding head_written
head_bits_lem head = rw (bits_more, bits_more, bits_more, bits_more, bits_more, bits_none)

task_bits_lem : (task : Task) → bits_in (task_written task) ≡ 23
unfolding task_written
task_bits_lem task = rw (bits_more, bits_more, bits_none)

label_bits_lem : (label : Label) → bits_in (label_written label) ≡ 37
unfolding label_written
label_bits_lem label = rw (bits_more, bits_more, bits_none)

steps_bits : (chain : List ℕ) → bits_in (each_of chain (λ task. bits 5 task ∷ [])) ≡ 5 * length chain
unfolding each_of
steps_bits [] = bits_none
steps_bits (task ∷ chain) = let more = steps_bits chain in bits_more 5 task _ ∙ omega arith

chain_bits : (chain : List ℕ) → bits_in (chain_written chain) ≡ 4 + 5 * length chain
unfolding chain_written
chain_bits chain = bits_more 4 (length chain) _ ∙ ap (λ n. 4 + n) (steps_bits chain)

-- n of them, of at most so many bits each
each_bits : {A : Type 0} (f : A → List Field) (g : ℕ → A) (most n : ℕ) → ((k : ℕ) → k < n → bits_in (f (g k)) ≤ most)
    → bits_in (each_of (each_below n (λ k. g k ∷ [])) f) ≤ most * n
unfolding each_below each_of
each_bits f g most zero each = omega (arith, bits_none)
each_bits f g most (suc n) each =
    let before = each_below n (λ k. g k ∷ []) in
    let fewer = each_bits f g most n (λ k below. each k (omega arith)) in
    omega (
      arith,
      ap bits_in (each_of_append f before (g n ∷ [])),
      bits_both (each_of before f) (f (g n) ++ []),
      bits_both (f (g n)) [],
      bits_none,
      each n (omega arith),
    )

module _ (whole : Whole) (meets : MeetsRules whole) where
  most_bits : bits_in (image_fields 1 whole) ≤ 3834
  unfolding image_fields tasks_of labels_of chains_of
  most_bits =
      let heads = head_written 1 (head_of whole.table) in
      let tasks = each_of (tasks_of whole.table) task_written in
      let labels = each_of (labels_of whole.table) label_written in
      let chains = each_of (chains_of whole) chain_written in
      let of_tasks : bits_in tasks ≤ 23 * whole.table.tasks =
      each_bits task_written _ 23 whole.table.tasks (λ i known. le_of_eq (task_bits_lem _)) in
      let of_labels : bits_in labels ≤ 37 * whole.table.labels =
      each_bits label_written _ 37 whole.table.labels (λ l known. le_of_eq (label_bits_lem _)) in
      let of_chains : bits_in chains ≤ 44 * whole.table.chains =
      each_bits chain_written _ 44 whole.table.chains (λ k known.
      omega (arith, chain_bits (chain_of whole.table whole.rows k), (meets.chain k known).chain_length)) in
      omega (
        arith,
        head_bits_lem (head_of whole.table),
        bits_both (heads ++ tasks ++ labels) chains,
        bits_both (heads ++ tasks) labels,
        bits_both heads tasks,
        meets.tasks,
        meets.labels,
        meets.chains,
      )

-- an accepted image has at most 480 bytes
pub largest_image : (image : List ℕ) (whole : Whole) → read_image image ≡ gives whole → length image ≤ 480
unfolding bit_count
largest_image image whole e =
    let most = most_bits whole (accepted_meets_rules image whole e) in
    let end = (accepted_spelt image whole e).ends.end in
    omega arith
