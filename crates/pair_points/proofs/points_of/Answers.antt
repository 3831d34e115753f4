-- `pair_points::points_of` meets its contract. Assumes nothing.
use Rattle.std.proofs.Common.{sym, ◌∙◌}
use Rattle.pair_points.proofs.PointsOf.{not_askable, not_joined, points_given}
use Rattle.pair_points.proofs.points_of.Goals as goal

pub returns-then-not-askable : goal.returns-then-not-askable
returns-then-not-askable c = sym (not_askable _ _ _ _ (sym c.askable.ensures ∙ c.if-not-askable.true))

pub returns-then-not-joined : goal.returns-then-not-joined
returns-then-not-joined c =
    sym (not_joined _ _ _ _ (sym c.askable.ensures ∙ c.if-not-askable.false) (sym c.joined.ensures ∙ c.if-not-joined.true))

pub returns : goal.returns
returns c =
    rw (
      points_given _ _ _ _ (sym c.askable.ensures ∙ c.if-not-askable.false) (sym c.joined.ensures ∙ c.if-not-joined.false),
      c.publishing.ensures,
      c.reading.ensures,
      c.timing_of-of_reader.ensures,
      c.timing_of-of_writer.ensures,
    )
