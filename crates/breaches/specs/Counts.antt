-- How far an exploration has come, by the pairs kept. Their count is the list's length. Assumes nothing.
use Rattle.meaning.specs.Machines.{Meaning}
use Rattle.charts.specs.declared.chart.Chart.{Chart}
use Rattle.pairs.specs.Stages.{Tally, StageOf}
use Rattle.breaches.specs.declared.kept.KeptPairs.{KeptPairs}
use Rattle.breaches.specs.Charts.{reader_of, standings_of}

-- how far an exploration has come, by the pairs that it keeps
abbrev pub tally_of : KeptPairs → Tally
tally_of k = record { base = k.base; count = k.list.len; full = k.full; depth = k.depth }

-- the pairs kept are at a stage of an exploration of m by c
abbrev pub Staged : Meaning → Chart → KeptPairs → Type 0
Staged m c k = StageOf m (reader_of c) (standings_of c) k.list.area.now (tally_of k)
