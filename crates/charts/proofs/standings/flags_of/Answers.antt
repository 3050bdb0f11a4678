use Rattle.charting.specs.Sets.{bit_of}
use Rattle.charting.proofs.SetSteps.{flags_more}
use Rattle.charts.proofs.standings.flags_of.Goals as goal

pub loop-i-preserved : goal.loop-i-preserved
loop-i-preserved c =
    flags_more (bit_of c.args.standing.now) c.loop-i.i c.loop-i.flags c.has_label.result c.loop-i-test.true c.has_label.ensures c.loop-i.invariant
