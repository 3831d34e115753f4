-- Read of written: the image of a table that meets the rules is accepted, and gives that table again in every used
-- entry. Assumes nothing.
use Prim.Native.Nat.{ℕ, ◌+◌, ◌<◌}
use mathlib.Core.Path.{◌≡◌, sym, ap, ◌∙◌, subst}
use mathlib.Core.List.{List, [], ◌∷◌, ◌++◌, append_assoc}
use native.Mathlib.Omega.{arith}
use borrow.Author.Tests.{le-leb}
use Rattle.lists.specs.Lists.{each_below, each_of}
use Rattle.lists.proofs.Each.{length_one_each, one_each_at}
use Rattle.bits.specs.Packing.{Field, bits_of_all}
use Rattle.bits.proofs.Held.{Held, bits_in, packed_held}
use Rattle.outcomes.specs.Outcome.{gives}
use Rattle.taking.specs.Reading.{Taker, in_row, check, fill_bits}
use Rattle.table.specs.Table.{reads}
use Rattle.table.specs.Image.{Whole, task_fields, label_fields, chain_fields, table_of}
use Rattle.table.specs.Image.{fill, all_fields, whole_fields, read_image}
use Rattle.table.specs.Rules.{MeetsRules}
use Rattle.table.specs.declared.Table.{Table}
use Rattle.writing.specs.Written.{head_written, task_written, label_written, chain_written}
use Rattle.writing.specs.Written.{head_of, tasks_of, labels_of, chains_of, image_fields, image_of, used_of}
use Rattle.taking.proofs.FillRead.{packed_fill}
use Rattle.taking.proofs.HeldRead.{Reads, row_reads, held_parts}
use Rattle.writing.proofs.PartsRead.{head_reads, task_reads, label_reads, chain_reads}
use Rattle.writing.proofs.UsedEntries.{used_chain, used_hyperperiod}
use Rattle.bits.proofs.HowMany.{bits_both}

-- one entry for each number below n, each read
each_reads : {A : Type 0} (one : Taker A) (f : A → List Field) (g : ℕ → A) (n : ℕ)
    → ((k : ℕ) → k < n → Reads one (f (g k)) (g k))
    → Reads (in_row n (λ before. one)) (each_of (each_below n (λ k. g k ∷ [])) f) (each_below n (λ k. g k ∷ []))
each_reads one f g n each =
    let xs = each_below n (λ k. g k ∷ []) in
    let long = length_one_each g n in
    subst (λ m. Reads (in_row m (λ before. one)) (each_of xs f) xs) long
    (row_reads (λ before. one) f (g 0) xs (λ k inside.
    let below : k < n = omega arith in
    subst (λ a. Reads one (f a) a) (sym (one_each_at g (g 0) n k below)) (each k below)))

module _ (whole : Whole) (meets : MeetsRules whole) where
  abbrev body : List (List ℕ) → Table
  body chains = table_of (head_of whole.table) (tasks_of whole.table) (labels_of whole.table) chains

  tasks_read : Reads (in_row whole.table.tasks (λ before. task_fields whole.table.cores))
      (each_of (tasks_of whole.table) task_written) (tasks_of whole.table)
  unfolding tasks_of
  tasks_read =
      each_reads (task_fields whole.table.cores) task_written _ whole.table.tasks (λ i known.
      task_reads whole.table.cores _ meets.cores.1
      (record { core = meets.core i known; period = meets.period i known }))

  labels_read : Reads (in_row whole.table.labels (λ before. label_fields whole.table.tasks))
      (each_of (labels_of whole.table) label_written) (labels_of whole.table)
  unfolding labels_of reads
  labels_read =
      each_reads (label_fields whole.table.tasks) label_written _ whole.table.labels (λ l known.
      label_reads whole.table.tasks _ meets.tasks.1 (record {
        writer = meets.writer l known;
        readers = meets.readers l known;
        marked = λ i marked. meets.reader l i known marked;
      }))

  chains_read : Reads (in_row whole.table.chains (λ before. chain_fields (body [])))
      (each_of (chains_of whole) chain_written) (chains_of whole)
  unfolding chains_of table_of head_of
  chains_read =
      each_reads (chain_fields (body [])) chain_written _ whole.table.chains (λ k known.
      chain_reads (body []) _ (used_chain whole.table [] _ (meets.chain k known)) meets.tasks.1)

  -- the fields of the four parts
  abbrev heads : List Field
  heads = head_written 1 (head_of whole.table)

  abbrev tasks : List Field
  tasks = each_of (tasks_of whole.table) task_written

  abbrev labels : List Field
  labels = each_of (labels_of whole.table) label_written

  abbrev chains : List Field
  chains = each_of (chains_of whole) chain_written

  all_read : all_fields (image_of 1 whole) 0
      ≡ gives (record {
        value = used_of whole;
        next = bits_in (image_fields 1 whole) + fill_bits (bits_in (image_fields 1 whole));
      })
  unfolding all_fields used_of image_of image_fields head_of fill
  all_read =
      let image = image_of 1 whole in
      let at_1 : ℕ = 0 + bits_in heads in
      let at-2 : ℕ = at_1 + bits_in tasks in
      let row : image_fields 1 whole ≡ heads ++ (tasks ++ (labels ++ chains)) =
      append_assoc (heads ++ tasks) labels chains ∙ append_assoc heads tasks (labels ++ chains) in
      let held = subst (λ fields. Held image 0 (bits_of_all fields)) row (packed_held (image_fields 1 whole)) in
      let p = held_parts heads (tasks ++ (labels ++ chains)) image 0 held in
      let q = held_parts tasks (labels ++ chains) image at_1 p.1 in
      let r = held_parts labels chains image at-2 q.1 in
      let of_head = (head_reads (head_of whole.table) (record {
        cores = meets.cores;
        tasks = meets.tasks;
        labels = meets.labels;
        chains = meets.chains;
      })).taken image 0 p.0 in
      let of_tasks = tasks_read.taken image at_1 q.0 in
      let of_labels = labels_read.taken image at-2 r.0 in
      let of_chains = chains_read.taken image (at-2 + bits_in labels) r.1 in
      let end : at-2 + bits_in labels + bits_in chains ≡ bits_in (image_fields 1 whole) =
      omega (
        arith,
        ap bits_in row,
        bits_both heads (tasks ++ (labels ++ chains)),
        bits_both tasks (labels ++ chains),
        bits_both labels chains,
      ) in
      rw (of_head, of_tasks, of_labels, of_chains, end, packed_fill 9 (image_fields 1 whole))

  pub read_of_written : read_image (image_of 1 whole) ≡ gives (used_of whole)
  unfolding read_image whole_fields check used_of
  read_of_written =
      let same = used_hyperperiod whole.table (chains_of whole) meets.tasks
      (λ i known. (meets.period i known).0) in
      rw (all_read, same, le-leb _ 1000000 meets.hyperperiod)
