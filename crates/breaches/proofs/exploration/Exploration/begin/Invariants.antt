use Rattle.pairs.specs.Stages.{Tries, nothing_kept}
use Rattle.breaches.specs.Charts.{reader_of, standings_of}
use Rattle.breaches.specs.Counts.{tally_of}
use Rattle.breaches.proofs.exploration.Exploration.begin.Given as goal

abbrev pub invariant-loop-k : goal.invariant-loop-k
invariant-loop-k g l =
    let m = g.M.Machine.meaning l.self.machine.now in
    Tries m (reader_of l.self.chart.now) (standings_of l.self.chart.now) l.fn.kept.list.area.now nothing_kept m.starts 0 l.kept.list.area.now (tally_of l.kept) l.k
