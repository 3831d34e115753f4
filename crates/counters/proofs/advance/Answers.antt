-- `counters::advance` meets its contract. Assumes nothing.
use Rattle.std.proofs.Common.{◌+◌, ◌∙◌, sym, arith, rules}
use Rattle.std.proofs.lemmas.Bool.{eq-eqb, ne_eqb}
use Rattle.counters.specs.Advanced.{stepped}
use Rattle.counters.proofs.Turn.{advancing_more, advanced_next, folding_more, folded_all}
use Rattle.counters.proofs.advance.Goals as goal
use Rattle.counters.proofs.advance.Goals.{then-tick_in-t, else-tick_in-t}

pub add-requires : goal.add-requires
add-requires g c =
    (0, c.loop-counter.invariant.room 1 (omega (arith, c.loop-counter-test.true)))

pub loop-counter-preserved : goal.loop-counter-preserved
unfolding stepped
loop-counter-preserved g c =
    let so_far = c.loop-counter.invariant in
    let more = c.loop-counter-test.true in
    elim c.if-tick_in-t.branch [
      | then-tick_in-t w ↦
          let due = eq-eqb _ _ (sym c.tick_in.ensures ∙ w.if-tick_in-t.true) in
          record {
            passed = advancing_more _ _ _ _ so_far.passed more (w.counter-is ∙ w.gone_on.ensures ∙ rw due) (search rules);
            tallied = folding_more _ _ _ _ so_far.passed more so_far.tallied (w.tally-is ∙ rw due w.add.ensures.one_more);
            room = λ n few. rw w.tally-is (w.add.ensures.room n (so_far.room (n + 1) (omega (arith, few))));
          }
      | else-tick_in-t w ↦
          let not_due = ne_eqb _ _ (λ e. w.if-tick_in-t.false (c.tick_in.ensures ∙ e)) in
          record {
            passed = advancing_more _ _ _ _ so_far.passed more (rw (w.counter-is, not_due)) (search rules);
            tallied = folding_more _ _ _ _ so_far.passed more so_far.tallied (w.tally-is ∙ rw not_due);
            room = λ n few. rw w.tally-is (so_far.room n (omega (arith, few)));
          }
    ]

pub returns-clause-due : goal.returns-clause-due
returns-clause-due g c =
    folded_all _ _ _ _ c.loop-counter.invariant.passed c.loop-counter-test.false c.loop-counter.invariant.tallied

pub returns-clause-next : goal.returns-clause-next
returns-clause-next g c =
    c.tick_in-2.ensures ∙ advanced_next _ _ _ _ c.loop-counter.invariant.passed c.loop-counter-test.false
