use Rattle.pairs.specs.Stages.{Tries, state_at}
use Rattle.breaches.specs.Charts.{reader_of, standings_of}
use Rattle.breaches.specs.Counts.{tally_of}
use Rattle.breaches.proofs.exploration.Exploration.leave.Given as goal

abbrev pub invariant-loop-k : goal.invariant-loop-k
invariant-loop-k g l =
    let m = g.M.Machine.meaning l.self.machine.now in
    Tries m (reader_of l.self.chart.now) (standings_of l.self.chart.now) l.fn.kept.list.area.now (tally_of l.fn.kept) (m.steps (state_at l.fn.kept.list.area.now l.i)) l.standing l.kept.list.area.now (tally_of l.kept) l.k
