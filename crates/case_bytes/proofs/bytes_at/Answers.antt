-- `case_bytes::bytes_at` meets its contract. Assumes nothing.
use Rattle.std.proofs.Common.{◌≡◌, length, arith, sym, ◌∙◌}
use Rattle.std.proofs.lemmas.List.{set-get_or}
use Rattle.std.proofs.lemmas.Grind.{common_steps}
use Rattle.lists.specs.Lists.{over}
use Rattle.case_bytes.specs.Images.{bytes_from}
use Rattle.case_bytes.proofs.BytesInside.{byte_inside}
use Rattle.case_bytes.proofs.BytesFrom.{filled_none, filled_length, filled_more, filled_stopped, filled_full}
use Rattle.case_bytes.proofs.bytes_at.Goals as goal
use Rattle.case_bytes.proofs.bytes_at.Goals.{In-Some, In_default, After-loop-count}

pub loop-count-init : goal.loop-count-init
loop-count-init c = filled_none _ _ _

-- no byte stands there
stopped : (c : In_default) → let all = bytes_from c.args.text.now (length c.args.room.now) c.args.at in
    (c.loop-count.count ≡ length all) × (c.loop-count.room ≡ over all c.args.room.now)
stopped c = filled_stopped _ _ _ _ _ _ c.loop-count.invariant (sym c.byte_at.ensures ∙ c.in_default.is)

pub returns-in_default-clause-counted : goal.returns-in_default-clause-counted
returns-in_default-clause-counted c = (stopped c).0

pub returns-in_default-clause-lent : goal.returns-in_default-clause-lent
returns-in_default-clause-lent c = set-get_or _ _ _ ∙ (stopped c).1

pub overflow_add-end : goal.overflow_add-end
overflow_add-end c =
    omega (arith, byte_inside c.args.text.now c.loop-count.end (grind (arith, common_steps)))

pub loop-count-preserved : goal.loop-count-preserved
loop-count-preserved c =
    filled_more _ _ _ _ _ _ c.loop-count.invariant
    (omega (arith, filled_length _ _ _ _ _ _ c.loop-count.invariant)) _ (sym c.byte_at.ensures ∙ c.in-Some.is)

-- the room is full
full : (c : After-loop-count) → let all = bytes_from c.args.text.now (length c.args.room.now) c.args.at in
    (c.loop-count.count ≡ length all) × (c.loop-count.room ≡ over all c.args.room.now)
full c = filled_full _ _ _ _ _ _ c.loop-count.invariant (omega arith)

pub returns-clause-counted : goal.returns-clause-counted
returns-clause-counted c = omega (arith, c.loop-count.auto.room, (full c).0)

pub returns-clause-lent : goal.returns-clause-lent
returns-clause-lent c = (full c).1
