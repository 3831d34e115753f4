-- All fields of an image from its parts: refused by one of them, or taken with the fill after them. No contract cites this
-- file. Assumes nothing.
use Prim.Native.Nat.{ℕ, ◌+◌, ◌*◌}
use mathlib.Core.Path.{◌≡◌, refl, sym, ap, ◌∙◌}
use mathlib.Core.List.{List, map}
use native.Mathlib.Omega.{arith}
use lib.ListN.{length, replicate}
use Rattle.lists.specs.Lists.{padded}
use Rattle.outcomes.specs.Outcome.{gives, refuses, asked_of}
use Rattle.taking.specs.Reading.{Taken, in_row}
use Rattle.table.specs.Refusals.{number_of, said_of}
use Rattle.table.specs.Table.{Rows}
use Rattle.table.specs.Image.{head_bits, task_bits, label_bits, table_of, rows_of, chain_fields, fill, all_fields}
use Rattle.chains.specs.Parts.{ChainsTaken, lengthened}
use Rattle.all_fields.specs.FieldsRead.{FieldsRead}
use Rattle.table.specs.declared.Refused.{Refused}
use Rattle.table.specs.declared.Table.{Table}
use Rattle.std.specs.Prelude.{Result, Ok, Err}
use Rattle.outcomes.proofs.Outcomes.{refusal_handed_on, something_given}
use Rattle.fields.specs.TakenTo.{taken_as}
use Rattle.fields.proofs.Steps.{taken, not_taken}
use Rattle.all_fields.proofs.Bodies.{TableBody, row_long, lengths_of, rows_held}

module _ (image : List ℕ) where
  -- after head, tasks and labels come the chains and the fill
  after_body : (table : Table) (body : TableBody image table)
      → all_fields image 0
      ≡ asked_of (in_row table.chains (λ before. chain_fields table) image
      (head_bits + task_bits * table.tasks + label_bits * table.labels))
      (λ chains. asked_of (fill image chains.next)
      (λ filled. gives (record {
        value = record {
          table = table_of body.head body.tasks body.labels chains.value;
          rows = rows_of chains.value;
        };
        next = filled.next;
      })))
  unfolding all_fields table_of
  after_body table body = rw (body.held, body.of_head, body.of_tasks, body.of_labels)

  -- the table of a body, with the lengths of its chains
  with_lengths : (table : Table) (body : TableBody image table) (chains : List (List ℕ)) (lengths : List ℕ)
      → lengths ≡ padded 16 0 (map (λ chain. length chain) chains)
      → table_of body.head body.tasks body.labels chains
      ≡ lengthened table lengths
  unfolding table_of
  with_lengths table body chains lengths held = rw (body.held, held)

  -- before its chains are read it has no lengths
  no_length : (table : Table) (body : TableBody image table) → table.length ≡ replicate 16 0
  unfolding table_of padded
  no_length table body = ap (λ table. table.length) body.held

  -- a part that is refused refuses the fields
  pub fields_refused : (r : Result (Unit {0}) Refused) (table : Table) (rows : Rows) (refused : Refused) → r ≡ Err refused
      → all_fields image 0 ≡ refuses (number_of refused.refusal) refused.place → FieldsRead image r table rows
  fields_refused r table rows refused told off = record {
    next = 0;
    said = ap (taken_as (λ done. record { table = table; rows = rows }) 0) told ∙ sym off;
  }

  -- The chains after a body, and then the fill.
  module _ {table : Table} (body : TableBody image table) {next : ℕ} {r : Result (Unit {0}) Refused} {lengths : List ℕ}
      {rows : Rows}
      (read : ChainsTaken image (head_bits + task_bits * table.tasks + label_bits * table.labels) table table.chains next
      r lengths (replicate 16 (replicate 8 0)) rows)
    where
      pub chains_refused : (refused : Refused) → r ≡ Err refused
          → all_fields image 0 ≡ refuses (number_of refused.refusal) refused.place
      chains_refused refused told = after_body table body ∙ rw (not_taken _ _ refused told read.said)

      -- the fill was taken
      all_filled : (filled : Taken (Unit {0})) → r ≡ Ok tt → fill image next ≡ gives filled
          → FieldsRead image (Ok tt) (lengthened table lengths) rows
      all_filled filled told is = record {
        next = filled.next;
        said =
            let few = row_long _ _ _ _ _ (taken _ _ tt told read.said) in
            let few_chains = body.few_chains in
            let of_lengths : lengths ≡ padded 16 0 (map (λ chain. length chain) read.values) =
            read.lengths_held ∙ rw (no_length table body) (lengths_of image read.values (omega arith)) in
            let of_rows = read.held ∙ rows_held image read.values (omega arith) in
            rw (of_rows, ← with_lengths table body read.values lengths of_lengths)
            (sym (after_body table body ∙ rw (taken _ _ tt told read.said, is)));
      }

      -- the answer of the fill is that of all fields
      pub fields_filled : (answer : Result (Unit {0}) Refused) {last : Table} → last ≡ lengthened table lengths → r ≡ Ok tt
          → said_of answer ≡ asked_of (fill image next) (λ filled. gives tt) → FieldsRead image answer last rows
      fields_filled (Ok done) is told said =
          let filled = something_given (fill image next) (sym said) in
          rw is (all_filled filled.0 told filled.1)
      fields_filled (Err refused) is told said =
          fields_refused _ _ rows refused refl (after_body table body
          ∙ rw (taken _ _ tt told read.said) (refusal_handed_on (fill image next) _ (sym said)))
