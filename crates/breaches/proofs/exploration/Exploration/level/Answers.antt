use Rattle.pairs.proofs.Leveling.{part_more}
use Rattle.breaches.specs.Counts.{tally_of}
use Rattle.breaches.proofs.exploration.Exploration.level.Goals as goal

pub loop-i-preserved : goal.loop-i-preserved
loop-i-preserved g c = part_more _ _ _ _ _ _ _ _ (tally_of c.loop-i.kept) _ (tally_of c.leave.new.kept) c.loop-i-test.true c.requires.stage c.loop-i.invariant c.in_ok-leave.ensures
