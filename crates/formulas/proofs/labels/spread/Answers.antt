use Rattle.std.proofs.Common.{refl}
use Rattle.logic.specs.Formula.{on}
use Rattle.formulas.proofs.Steps.{spread_more}
use Rattle.formulas.proofs.labels.spread.Goals as goal

pub loop-j-preserved : goal.loop-j-preserved
unfolding on
loop-j-preserved c =
    spread_more c.args.keep.now c.loop-j.j c.args.label c.loop-j.was _ c.loop-j-test.true
    (c.requires.below c.loop-j.j c.loop-j-test.true) refl c.loop-j.invariant
