-- `frames::walk::Frames::next` meets its contract. The loop's invariant: no frame was passed. Assumes nothing.
use Prim.Native.Nat.{◌<◌}
use mathlib.Core.Path.{◌≡◌, refl}
use native.Mathlib.Omega.{arith}
use borrow.Rule.Slice.Mut.{set_vals}
use Rattle.frames.proofs.Walking.{Stepped, passing_none, passing_more, frame_given, none_given}
use Rattle.frames.proofs.walk.FramesIterator.next.Goals as goal
use Rattle.frames.proofs.walk.FramesIterator.next.Goals.{Joined-due-start, then-due-start, else-due-start}

pub loop-self-init : goal.loop-self-init
loop-self-init c = passing_none _

module _ (c : Joined-due-start) where
  -- the walk moves on, to the next instant where that is later
  moved : (c.loop-self.self.t < c.if-due-start.self)
      × (c.loop-self.self.t < c.instant_at-due.result.next → c.if-due-start.self ≡ c.instant_at-due.result.next)
  moved = elim c.if-due-start.branch [
    | then-due-start w ↦ (omega (arith, w.self-is, w.if-due-start.true), λ later. w.self-is)
    | else-due-start w ↦
        (omega (arith, w.self-is, c.loop-self-test.true), λ later. absurd (omega (arith, later, w.if-due-start.false)))
  ]

  stepped : Stepped c.loop-self.self c.instant_at-due.result (record c.loop-self.self {
    t = c.if-due-start.self;
    publishing = set_vals c.instant_at-due.new.publishing c.loop-self.self.publishing;
    reading = set_vals c.instant_at-due.new.reading c.loop-self.self.reading;
  })
  stepped = record {
    went_on = record {
      same_round = refl;
      same_table = refl;
      same_masks = refl;
      publishing_long = c.instant_at-due.auto.publishing;
      reading_long = c.instant_at-due.auto.reading;
      publishing_name = refl;
      reading_name = refl;
    };
    inside = c.loop-self-test.true;
    is = c.instant_at-due.ensures.due;
    fits = c.instant_at-due.ensures.few.1;
    later = moved.0;
    next = moved.1;
    publishing = c.instant_at-due.ensures.gone.0;
    reading = c.instant_at-due.ensures.gone.1;
  }

pub returns-then-due-gt0-clause-steps : goal.returns-then-due-gt0-clause-steps
returns-then-due-gt0-clause-steps c =
    frame_given c.loop-self.invariant (stepped (goal.at.returns-then-due-gt0-clause-steps c).Joined-due-start)
    c.if-due-gt0.true c.instant_at-due.ensures.few.0

pub loop-self-preserved : goal.loop-self-preserved
loop-self-preserved c =
    passing_more c.loop-self.invariant (stepped (goal.at.loop-self-preserved c).Joined-due-start)
    (omega (arith, c.if-due-gt0.false))

pub returns-clause-steps : goal.returns-clause-steps
returns-clause-steps c = none_given c.loop-self.invariant c.loop-self-test.false
