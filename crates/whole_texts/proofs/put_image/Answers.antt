-- `whole_texts::put_image` meets its contract. Assumes nothing.
use Rattle.printing.specs.Printed.{printable}
use Rattle.images.proofs.Asked.{refused_image, shown_whole}
use Rattle.whole_texts.proofs.Outcomes.{of_accepted, of_refused}
use Rattle.whole_texts.proofs.put_image.Goals as goal

pub returns-in_default : goal.returns-in_default
returns-in_default c =
    let shown = shown_whole _ _ c.read_table-read.ensures c.in_default.is in
    rw (of_accepted _ shown.0 shown.1) (c.put_accepted.ensures shown.0 shown.1 shown.2)

pub returns : goal.returns
returns c =
    let refused = refused_image _ _ c.read_table-read.ensures c.in-Err.is printable in
    rw (of_refused _ refused) (rw c.into.ensures at c.put_refusal.ensures)
