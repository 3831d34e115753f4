-- `questions::ages` meets its contract. Assumes nothing.
use mathlib.Core.Path.{sym, ◌∙◌}
use Rattle.std.proofs.lemmas.List.{length-take-le}
use Rattle.questions.proofs.AskedChain.{refused_chain, asked_chain, aged_chain, many_lent}
use Rattle.questions.proofs.ages.Goals as goal

pub returns-in_default : goal.returns-in_default
returns-in_default c = sym (refused_chain _ _ c.read_periods-answer.ensures c.unwrap_err.ensures)

pub slice_bounds-periods-end : goal.slice_bounds-periods-end
slice_bounds-periods-end c = many_lent _ _ c.read_periods-answer.ensures c.in-Ok.is

pub slice_bounds-ages_of-end : goal.slice_bounds-ages_of-end
slice_bounds-ages_of-end c =
    sym (length-take-le _ _ (many_lent _ _ c.read_periods-answer.ensures c.in-Ok.is))

pub ages_of-requires : goal.ages_of-requires
ages_of-requires c = asked_chain _ _ c.read_periods-answer.ensures c.in-Ok.is

pub returns : goal.returns
returns c = c.ages_of.ensures ∙ sym (aged_chain _ _ c.read_periods-answer.ensures c.in-Ok.is)
