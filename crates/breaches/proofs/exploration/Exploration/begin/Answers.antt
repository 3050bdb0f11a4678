use Rattle.pairs.proofs.Leaving.{begin_again, begun, started}
use Rattle.breaches.specs.Charts.{reader_of, standings_of}
use Rattle.breaches.specs.Counts.{tally_of}
use Rattle.breaches.proofs.exploration.Exploration.begin.Goals as goal

pub loop-k-preserved : goal.loop-k-preserved
loop-k-preserved g c = begin_again _ _ _ _ _ c.start_count-k-end.ensures _ _ _ c.loop-k.invariant _ _ (tally_of c.keep.new.self) _
    c.args.self.now.filled c.loop-k-test.true c.start-state.ensures.value c.start-state.ensures.inside c.is_breach.ensures c.if-is_breach.false c.keep.ensures

pub returns : goal.returns
returns g c = begun _ _ _ _ _ c.start_count-k-end.ensures _ (tally_of c.loop-k.kept) _ c.loop-k.invariant c.loop-k-test.false

pub returns-then-is_breach : goal.returns-then-is_breach
returns-then-is_breach g c =
    started (g.M.Machine.meaning c.args.self.now.machine.now) (reader_of c.args.self.now.chart.now) (standings_of c.args.self.now.chart.now) _ _ _ _
    c.start_count-k-end.ensures c.loop-k-test.true c.start-state.ensures.value c.is_breach.ensures c.if-is_breach.true
