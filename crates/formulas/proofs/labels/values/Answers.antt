use Rattle.std.proofs.Common.{rules}
use Rattle.formulas.proofs.Steps.{group_valued_more}
use Rattle.formulas.proofs.labels.values.Goals as goal

pub loop-k-preserved : goal.loop-k-preserved
loop-k-preserved c =
    group_valued_more c.args.nodes.now c.requires.ordered c.args.group c.args.was.now c.loop-k.k c.loop-k.holds _ c.loop-k-test.true
    (search rules) c.loop-k.invariant
