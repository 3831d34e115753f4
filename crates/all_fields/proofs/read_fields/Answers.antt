-- `all_fields::read_fields` meets its contract: the body, the chains and the fill are taken in turn, or a refusal is
-- handed on. Assumes nothing.
use mathlib.Core.Path.{◌≡◌, refl, ap, ◌∙◌}
use Rattle.std.proofs.Common.{rules, Err}
use Rattle.all_fields.proofs.Bodies.{TableBody, table_body, chains_of_lem}
use Rattle.all_fields.proofs.FieldsFilled.{fields_refused, chains_refused, fields_filled}
use Rattle.all_fields.proofs.read_fields.Goals as goal
use Rattle.all_fields.proofs.read_fields.Goals.{In_ok-reader}

-- the table of a body that was read into arrays that held nothing
body : (c : In_ok-reader) → TableBody c.args.image.now c.read_body.new.table
body c =
    let start = c.requires in
    table_body _ _ start.no_core start.no_period start.no_writer start.no_readers
    (c.in_ok-reader.ensures.length ∙ start.no_length) (c.in_ok-reader.ensures.read.accepted _ refl)

pub returns-in_err-reader : goal.returns-in_err-reader
returns-in_err-reader c =
    let handed : c.from_residual.result ≡ Err c.in_err-reader.field-0.0 = search rules in
    fields_refused _ _ _ _ c.in_err-reader.field-0.0 handed (c.in_err-reader.ensures.read.refused _ refl)

pub returns-in_err-read_chains : goal.returns-in_err-read_chains
returns-in_err-read_chains c =
    let handed : c.from_residual-in_err-read_chains.result ≡ Err c.in_err-read_chains.field-0.0 = search rules in
    let of_body = body (goal.at.returns-in_err-read_chains c).In_ok-reader in
    let on = c.in_ok-reader.ensures.on in
    fields_refused _ _ _ _ c.in_err-read_chains.field-0.0 handed
    (chains_refused _ of_body (chains_of_lem _ c.read_body.new.table _ of_body.few_chains (ap (λ image. image.now) on.1) on.0
    c.requires.no_rows c.in_err-read_chains.ensures.taken) _ refl)

pub returns : goal.returns
returns c =
    let of_body = body (goal.at.returns c).In_ok-reader in
    let on = c.in_ok-reader.ensures.on in
    let same = ap (λ image. image.now) c.in_ok-read_chains.ensures.image ∙ ap (λ image. image.now) on.1 in
    fields_filled _ of_body (chains_of_lem _ c.read_body.new.table _ of_body.few_chains (ap (λ image. image.now) on.1) on.0
    c.requires.no_rows c.in_ok-read_chains.ensures.taken) _
    c.in_ok-read_chains.ensures.rest refl (rw same at c.read_fill.ensures)
