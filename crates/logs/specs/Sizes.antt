-- The sizes of the areas that a new table or chart is lent. Assumes nothing.
use Rattle.std.specs.Prelude.{vec_len}
use Rattle.meaning.specs.Charts.{Areas}
use Rattle.meaning.specs.Files.{Rooms}
use Rattle.logs.specs.declared.areas.TableAreas.{TableAreas}
use Rattle.logs.specs.declared.areas.ChartAreas.{ChartAreas}

-- those of a table
abbrev pub sizes_of_table : TableAreas → Rooms
sizes_of_table a = record { states = vec_len a.states; steps = vec_len a.steps }

-- those of a chart
abbrev pub sizes_of_chart : ChartAreas → Areas
sizes_of_chart a = record { labels = vec_len a.labels; records = vec_len a.standings; nexts = vec_len a.next }
