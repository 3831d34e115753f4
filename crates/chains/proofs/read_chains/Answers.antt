-- `chains::read_chains`: each chain is taken, or its refusal is handed on. Assumes nothing.
use Prim.Native.Nat.{ℕ, min}
use mathlib.Core.Path.{◌≡◌, refl, sym, ap, ◌∙◌}
use mathlib.Core.List.{List}
use lib.ListN.{length, set}
use native.Mathlib.Omega.{arith}
use Rattle.std.proofs.Common.{rules, Result, Err}
use Rattle.fields.specs.TakenTo.{taken_as}
use Rattle.table.specs.Image.{chain_fields}
use Rattle.table.specs.declared.Refused.{Refused}
use Rattle.table.specs.declared.Table.{Table}
use Rattle.chain_steps.specs.Linked.{Linked, Searched}
use Rattle.chain_steps.specs.declared.links.Links.{Links}
use Rattle.chains.specs.Parts.{lengthened, ChainTaken}
use Rattle.chains.specs.declared.parts.Chain.{Chain}
use Rattle.chains.proofs.ChainRows.{no_chain_passed, chain_passed, chains_refused}
use Rattle.chains.proofs.SameChains.{held, chains_held}
use Rattle.chains.proofs.read_chains.Goals as goal

-- what was said of a chain, by all labels of the table
said_whole : {image image' : List ℕ} {at : ℕ} (table : Table) {next : ℕ} {r : Result Chain Refused}
    → length table.readers ≡ 64 → image' ≡ image → (chain : ChainTaken image' at (held table) next r)
    → taken_as (λ taken. chain.steps) next r ≡ chain_fields table image at
said_whole {image} {at = at} table long same chain =
    chain.said ∙ ap (λ image. chain_fields (held table) image at) same ∙ ap (λ fields. fields image at) (chains_held table long)

-- the search is given this table's own tasks, readers and links
searched : (table now : Table) (n : ℕ) (links : Links) → now ≡ lengthened table now.length → n ≡ min table.labels 64
    → Linked table.writer n links → Searched now.tasks now.readers links (held table)
searched table now n links same few linked = record {
  tasks_same = ap (λ t. t.tasks) (sym same);
  readers_same = ap (λ t. t.readers) (sym same);
  linked = rw (← few) linked;
}

pub loop-k-init : goal.loop-k-init
loop-k-init c = (refl, refl, no_chain_passed _ _ _ _)

pub returns-in_err-length-clause-taken : goal.returns-in_err-length-clause-taken
returns-in_err-length-clause-taken c =
    let handed : c.from_residual.result ≡ Err c.in_err-length.field-0.0 = search rules in
    let long : length c.args.table.now.readers ≡ 64 = omega arith in
    let (same, of_image, passed) = c.loop-k.invariant in
    let chain = c.in_err-length.ensures.taken (held c.args.table.now)
    (searched _ _ _ _ same c.min.ensures c.of-links.ensures.linked) in
    rw handed (chains_refused _ _ _ _ passed _ _ _ (omega arith)
    (sym (said_whole _ long (ap (λ image. image.now) of_image) chain)))

pub loop-k-preserved : goal.loop-k-preserved
loop-k-preserved c =
    let long : length c.args.table.now.readers ≡ 64 = omega arith in
    let (same, of_image, passed) = c.loop-k.invariant in
    let chain = c.in_ok-length.ensures.taken (held c.args.table.now)
    (searched _ _ _ _ same c.min.ensures c.of-links.ensures.linked) in (
      ap (λ table. lengthened table (set c.loop-k.table.length c.loop-k.k c.in_ok-length.field-0.length)) same,
      c.in_ok-length.ensures.image ∙ of_image,
      chain_passed _ _ _ _ passed _ _ _ chain.holds.long chain.holds.few chain.holds.held c.in_ok-length.ensures.on
          (sym (said_whole _ long (ap (λ image. image.now) of_image) chain)),
    )
