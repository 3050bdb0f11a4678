use Rattle.std.proofs.Common.{refl}
use Rattle.pairs.proofs.Leaving.{leave_again, left, breaks}
use Rattle.breaches.specs.Counts.{tally_of}
use Rattle.breaches.proofs.exploration.Exploration.leave.Goals as goal

pub loop-k-preserved : goal.loop-k-preserved
loop-k-preserved g c = leave_again _ _ _ _ _ c.requires.stage _ c.requires.below _ c.entry-from.ensures _ c.standing_after-standing.ensures.value _ c.step_count-k-end.ensures _ _ _ c.loop-k.invariant _ _ (tally_of c.keep.new.self) _
    c.requires.depth c.standing_after-standing.ensures.below c.loop-k-test.true c.step-state.ensures.value c.step-state.ensures.inside c.is_breach.ensures c.if-is_breach.false c.keep.ensures

pub returns : goal.returns
returns g c = left _ _ _ _ _ c.requires.stage _ c.requires.below _ c.entry-from.ensures _ c.standing_after-standing.ensures.value _ c.step_count-k-end.ensures _ _ _ c.loop-k.invariant c.loop-k-test.false

pub returns-then-is_breach : goal.returns-then-is_breach
returns-then-is_breach g c = (
  refl,
  breaks _ _ _ _ _ c.requires.stage _ c.requires.below _ c.entry-from.ensures _ c.standing_after-standing.ensures.value _ c.step_count-k-end.ensures _ _ _ c.loop-k.invariant _ _
      c.loop-k-test.true c.step-state.ensures.value c.is_breach.ensures c.if-is_breach.true,
)
