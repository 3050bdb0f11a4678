use Rattle.pairs.specs.Stages.{LevelPart}
use Rattle.breaches.specs.Charts.{reader_of, standings_of}
use Rattle.breaches.specs.Counts.{tally_of}
use Rattle.breaches.proofs.exploration.Exploration.level.Given as goal

abbrev pub invariant-loop-i : goal.invariant-loop-i
invariant-loop-i g l =
    LevelPart (g.M.Machine.meaning l.self.machine.now) (reader_of l.self.chart.now) (standings_of l.self.chart.now) l.fn.kept.list.area.now (tally_of l.fn.kept) l.low l.i l.kept.list.area.now (tally_of l.kept)
