-- Two new sheets, tables and charts. Assumes nothing.
use Rattle.std.specs.Prelude.{◌≡◌, ℕ, List, [], ◌∷◌, map, Some, slice_get}
use Rattle.meaning.specs.Kinds.{no_lines}
use Rattle.meaning.specs.Printed.{table_rooms, chart_areas}
use Rattle.machines.specs.declared.table.Table.{Table}
use Rattle.machines.specs.Held.{held_lines, rooms_of}
use Rattle.charts.specs.declared.chart.Chart.{Chart}
use Rattle.charts.specs.Fills.{areas}
use Rattle.charts.specs.Led.{ChartLed}
use Rattle.replay.specs.Objects.{Lent}

-- no table has a line
abbrev pub AllBlank : List Table → Type 0
AllBlank ts = (n : ℕ) (t : Table) → slice_get ts n ≡ Some t → held_lines t ≡ no_lines

-- no call filled a chart, and none began a watch
abbrev pub AllNew : List Chart → Type 0
AllNew cs = (n : ℕ) (c : Chart) → slice_get cs n ≡ Some c → ChartLed [] n c

-- what no call changes, where there are two sheets beside these tables and charts
abbrev pub with_two_sheets : List Table → List Chart → Lent
with_two_sheets ts cs = record { sheets = 2; rooms = map rooms_of ts; areas = map areas cs }

-- the same, where two charts have the areas that the report of a file has
abbrev pub with_tables : List Table → Lent
with_tables ts = record { sheets = 2; rooms = map rooms_of ts; areas = chart_areas ∷ (chart_areas ∷ []) }

-- the same of two sheets, tables and charts, whose rooms and areas are those that the report of a file has
abbrev pub new_objects : Lent
new_objects = record { sheets = 2; rooms = table_rooms ∷ (table_rooms ∷ []); areas = chart_areas ∷ (chart_areas ∷ []) }
