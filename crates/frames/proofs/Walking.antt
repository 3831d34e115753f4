-- A walk over the frames of a core: it passes instants without a copy, comes to one with a frame, or to the end of the
-- round. No contract cites this file. Assumes nothing.
use Prim.Native.Nat.{ℕ, ◌+◌, ◌<◌, ◌≤◌, ◌^◌, min}
use mathlib.Core.Bool.{true, false}
use mathlib.Core.Path.{◌≡◌, refl, sym, ap, ◌∙◌}
use mathlib.Core.List.{map}
use native.Mathlib.Omega.{arith}
use lib.Count.{ones}
use lib.ListN.{length}
use Rattle.std.specs.Prelude.{Some, None}
use Rattle.copies.specs.Copies.{copies_at}
use Rattle.copies.proofs.Turns.{passed_before, all_passed, passed_none, passed_frame, no_copies, some_copies}
use Rattle.counters.specs.Advanced.{stepped, masks_due, labels_due, count_due, next_due}
use Rattle.frames.specs.Walk.{Walks, WentOn, NextFrame, GivesFrame}
use Rattle.frames.specs.declared.instant.Instant.{Instant}
use Rattle.frames.specs.declared.walk.Frames.{Frames}
use Rattle.frames.proofs.ReadyTurn.{ReadyTurn, ready_turn}

-- from the one state to the other no frame was passed
pub record Passing (s t : Frames) : Type 0 where
  pub went_on : WentOn s t
  pub later : s.t ≤ t.t
  pub walks : (core : ℕ) → Walks core s
      → Walks core t × (passed_before s.table.now core t.t ≡ passed_before s.table.now core s.t)

pub passing_none : (s : Frames) → Passing s s
passing_none s = record {
  went_on = record {
    same_round = refl;
    same_table = refl;
    same_masks = refl;
    publishing_long = refl;
    reading_long = refl;
    publishing_name = refl;
    reading_name = refl;
  };
  later = omega arith;
  walks = λ core walks. (walks, refl);
}

pub went_on_then : {r s t : Frames} → WentOn r s → WentOn s t → WentOn r t
went_on_then first second = record {
  same_round = second.same_round ∙ first.same_round;
  same_table = second.same_table ∙ first.same_table;
  same_masks = second.same_masks ∙ first.same_masks;
  publishing_long = second.publishing_long ∙ first.publishing_long;
  reading_long = second.reading_long ∙ first.reading_long;
  publishing_name = second.publishing_name ∙ first.publishing_name;
  reading_name = second.reading_name ∙ first.reading_name;
}

-- what `instant_at` says is due at the tick of a walk
abbrev pub due_at : Frames → Instant
due_at s = record {
  serves = masks_due s.t s.reading.now;
  written = labels_due s.t s.masks.now.written s.masks.now.read s.publishing.now;
  read = labels_due s.t s.masks.now.written s.masks.now.read s.reading.now;
  copies = ones (labels_due s.t s.masks.now.written s.masks.now.read s.publishing.now)
      + count_due s.t s.masks.now.written s.masks.now.read s.reading.now;
  next = min (next_due false s.table.now.period s.t s.publishing.now) (next_due true s.table.now.period s.t s.reading.now);
}

-- the walk went on over an instant
pub record Stepped (s : Frames) (due : Instant) (t : Frames) : Type 0 where
  pub went_on : WentOn s t
  pub inside : s.t < s.round
  pub is : due ≡ due_at s
  pub fits : due.written < 2 ^ 64
  pub later : s.t < t.t
  pub next : s.t < due.next → t.t ≡ due.next
  pub publishing : t.publishing.now ≡ map (stepped false s.table.now.period s.t) s.publishing.now
  pub reading : t.reading.now ≡ map (stepped true s.table.now.period s.t) s.reading.now

module _ {s t : Frames} {due : Instant} (step : Stepped s due t) (core : ℕ) (walks : Walks core s) where
  turned : ReadyTurn s.table.now core s.t s.masks.now s.publishing.now s.reading.now
  turned =
      let is = walks.right.is in
      let inside = step.inside in
      ready_turn s.table.now core s.t _ _ walks.right.right (omega arith) walks.ready walks.masks

  many : due.copies ≡ length (copies_at s.table.now core s.t)
  many = ap (λ r. r.copies) step.is ∙ turned.many (rw step.is at step.fits)

  next_is : t.t ≡ (due_at s).next
  next_is =
      let is = ap (λ r. r.next) step.is in
      step.next (omega (arith, is, turned.turn.later)) ∙ is

  walks_on : Walks core t
  walks_on = record {
    right = rw (step.went_on.same_table, step.went_on.same_round) walks.right;
    masks = rw (step.went_on.same_table, step.went_on.same_masks) walks.masks;
    ready = rw (step.went_on.same_table, next_is, step.publishing, step.reading) turned.ready;
  }

  passed_over : due.copies ≡ 0 → passed_before s.table.now core t.t ≡ passed_before s.table.now core s.t
  passed_over none = rw next_is (passed_none s.table.now core turned.turn (no_copies _ (sym many ∙ none)))

  next_frame : 0 < due.copies → NextFrame core s s.t due t
  next_frame some =
      let copy = some_copies (copies_at s.table.now core s.t) (omega (arith, many)) in
      record {
        inside = step.inside;
        copies = rw step.is turned.copies;
        many = many;
        passed = rw next_is (passed_frame s.table.now core turned.turn copy.0 copy.1 copy.2);
        walks = walks_on;
      }

module _ {r s t : Frames} (passing : Passing r s) where
  pub passing_more : {due : Instant} → Stepped s due t → due.copies ≡ 0 → Passing r t
  passing_more step none = record {
    went_on = went_on_then passing.went_on step.went_on;
    later = omega (arith, passing.later, step.later);
    walks = λ core walks.
        let before = passing.walks core walks in
        (walks_on step core before.0, (rw passing.went_on.same_table at (passed_over step core before.0 none)) ∙ before.1);
  }

  pub frame_given : {due : Instant} → Stepped s due t → 0 < due.copies → due.copies ≤ 65600
      → GivesFrame r (Some (s.t, due)) t
  frame_given step some few = record {
    went_on = went_on_then passing.went_on step.went_on;
    later = (omega (arith, passing.later, step.later), some, few);
    frame = λ core walks.
        let before = passing.walks core walks in
        let next = next_frame step core before.0 some in
        record {
          inside = rw passing.went_on.same_round at next.inside;
          copies = rw passing.went_on.same_table at next.copies;
          many = rw passing.went_on.same_table at next.many;
          passed = rw (← before.1) (rw passing.went_on.same_table at next.passed);
          walks = next.walks;
        };
  }

-- all frames were passed
pub none_given : {r s : Frames} → Passing r s → s.round ≤ s.t → GivesFrame r None s
none_given {r} {s} passing end = record {
  went_on = passing.went_on;
  later = passing.later;
  frame = λ core walks.
      let before = passing.walks core walks in
      let is = walks.right.is in
      let same = passing.went_on.same_round in
      sym before.1 ∙ all_passed r.table.now core s.t (omega arith);
}
