-- A chart as a deterministic table: how it reads words. Assumes nothing.
use Rattle.std.specs.Prelude.{ℕ}
use Rattle.charts.specs.declared.chart.Chart.{Chart}
use Rattle.charting.specs.Filled.{after, breached}
use Rattle.pairs.specs.Readers.{Reader}

-- how many standings it holds; none where it is blank
abbrev pub standings_of : Chart → ℕ
standings_of c = c.standing_count

-- the next standing by standing and letter, and whether a standing is one of breaches
abbrev pub reader_of : Chart → Reader
reader_of c = record { next = λ q a. after c.next.now q a; says = λ q. breached c.standings.now q }
