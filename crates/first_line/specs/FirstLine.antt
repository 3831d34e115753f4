-- The hyperperiod H of an image: what the first line prints. Assumes nothing.
use Rattle.std.specs.Prelude.{ℕ, List, Result}
use Rattle.outcomes.specs.Outcome.{Outcome, gives, asked_of}
use Rattle.table.specs.Refusals.{said_of}
use Rattle.table.specs.Table.{hyperperiod_of}
use Rattle.table.specs.Image.{read_image}
use Rattle.table.specs.declared.Refused.{Refused}

-- H, or the refusal's number and place
abbrev pub said_of_hyperperiod : Result ℕ Refused → Outcome ℕ
said_of_hyperperiod answer = said_of answer

-- the hyperperiod of an accepted image's table, or the image's refusal
unfoldable pub hyperperiod : List ℕ → Outcome ℕ
hyperperiod image = asked_of (read_image image) (λ whole. gives (hyperperiod_of whole.table))
