-- `whole_texts::chain_lines::put_asked` meets its contract. Assumes nothing.
use Rattle.whole_texts.proofs.Outcomes.{never_refused, ages_told}
use Rattle.whole_texts.proofs.chain_lines.put_asked.Goals as goal

pub returns-in_default : goal.returns-in_default
returns-in_default c whole accepted known =
    let said = rw c.from.ensures at c.ages.ensures in
    absurd (never_refused _ whole accepted _ known _ said c.in_default.is)

pub returns : goal.returns
returns c whole accepted known =
    let said = rw c.from.ensures at c.ages.ensures in
    rw (← ages_told _ whole accepted _ known _ said c.in-Ok.is) c.put_chain.ensures
