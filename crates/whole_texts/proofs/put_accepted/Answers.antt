-- `whole_texts::put_accepted` meets its contract. Assumes nothing.
use mathlib.Core.Path.{◌≡◌, ap}
use Rattle.outcomes.specs.Outcome.{gives}
use Rattle.table.specs.Image.{Whole, read_image}
use Rattle.frames.specs.Counts.{RightRound}
use Rattle.whole_texts.proofs.Outcomes.{right_round, is_round, never_above, too_long_text, whole_text_lem}
use Rattle.whole_texts.proofs.put_accepted.Goals as goal
use Rattle.whole_texts.proofs.put_accepted.Goals.{In-Some}

-- the table is right, and its round is told
right : (c : In-Some)
    → (whole : Whole) → read_image c.args.image.now ≡ gives whole → c.args.table.now ≡ whole.table
    → RightRound c.args.table.now c.in-Some.round
right c whole accepted is =
    right_round _ whole accepted _ is _ (is_round _ whole accepted _ is _ c.hyperperiod.ensures c.in-Some.is)

pub returns-in_default : goal.returns-in_default
returns-in_default c whole accepted is =
    absurd (never_above _ whole accepted _ is _ c.hyperperiod.ensures c.in_default.is)

pub returns-then-some_too_long : goal.returns-then-some_too_long
returns-then-some_too_long c whole accepted is =
    let long = c.some_too_long.ensures (right (goal.at.returns-then-some_too_long c).In-Some whole accepted is) in
    rw (too_long_text whole _ is long c.if-some_too_long.true) (rw c.into.ensures at c.put_refusal.ensures)

pub returns : goal.returns
returns c whole accepted is =
    let of_table = right (goal.at.returns c).In-Some whole accepted is in
    whole_text_lem whole _ is (c.some_too_long.ensures of_table) c.if-some_too_long.false
    (c.put_first_part.ensures of_table)
    (c.put_chains.ensures whole accepted (ap (λ table. table.chains) is))
