-- `case_lines::case_at` meets its contract. Assumes nothing.
use Rattle.std.proofs.Common.{◌≡◌, ℕ, ◌≤◌, List, take, length, arith, sym, ap, ◌∙◌}
use Rattle.std.proofs.lemmas.List.{take_at}
use Rattle.lists.specs.Lists.{over}
use Rattle.lists.proofs.Over.{over_appended}
use Rattle.lines.specs.Numbers.{numbers_at}
use Rattle.case_lines.proofs.case_at.Goals as goal

-- the entries over the first ones of a list are its first ones
front : (entries held room : List ℕ) (count : ℕ) → count ≡ length entries → count ≤ length held
    → room ≡ over entries held → take count room ≡ entries
front entries held room count counted within lent =
    rw (lent, over_appended entries held (omega arith)) (take_at entries _ count (sym counted))

pub returns-clause-said : goal.returns-clause-said
returns-clause-said c =
    let end = c.first_from-end.result in
    let first = c.first_from-end.ensures in
    let read = c.bytes_at-read.ensures in
    let image = front _ c.args.room.now c.bytes_at-read.new.room _ read.counted (omega arith) read.lent in (
      end,
      (omega arith, first.inside, first.there, λ k after before. first.none_before k (omega arith) before),
      c.in_ok-question.ensures,
      sym (c.in_ok-numbers.ensures ∙ ap (λ n. numbers_at c.args.line.now end n) c.asked_by.ensures),
      image,
      omega (arith, ap length image),
    )
