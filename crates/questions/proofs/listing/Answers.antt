-- `questions::listing` meets its contract. Assumes nothing.
use mathlib.Core.Path.{sym, ap, ◌∙◌}
use Rattle.questions.specs.Questions.{bytes_listed, core_listed, lent_after, listing}
use Rattle.questions.proofs.AcceptedRight.{accepted_right, accepted_asked, refused_asked}
use Rattle.image_arrays.proofs.ArraysTaken.{nothing_held}
use Rattle.questions.proofs.listing.Goals as goal

pub read_arrays-answer-requires : goal.read_arrays-answer-requires
read_arrays-answer-requires c = nothing_held c.empty-table.ensures

pub core_listed-requires : goal.core_listed-requires
core_listed-requires c = accepted_right _ c.in-Ok.ensures.whole

pub returns-clause-said : goal.returns-clause-said
unfolding listing
returns-clause-said c =
    c.core_listed.ensures.0 ∙ ap bytes_listed (sym (accepted_asked _ c.in-Ok.ensures.whole (λ whole. core_listed whole.table c.args.core _)))

pub returns-clause-lent : goal.returns-clause-lent
unfolding listing
returns-clause-lent c =
    c.core_listed.ensures.1
    ∙ ap (λ outcome. lent_after outcome c.args.buffer.now)
    (sym (accepted_asked _ c.in-Ok.ensures.whole (λ whole. core_listed whole.table c.args.core _)))

pub returns-in_default-clause-said : goal.returns-in_default-clause-said
unfolding listing bytes_listed
returns-in_default-clause-said c =
    sym (ap bytes_listed (refused_asked _ c.read_arrays-answer.ensures.whole c.unwrap_err.ensures (λ whole. core_listed whole.table c.args.core _)))

pub returns-in_default-clause-lent : goal.returns-in_default-clause-lent
unfolding listing lent_after
returns-in_default-clause-lent c =
    sym (ap (λ outcome. lent_after outcome c.args.buffer.now)
    (refused_asked _ c.read_arrays-answer.ensures.whole c.unwrap_err.ensures (λ whole. core_listed whole.table c.args.core _)))
