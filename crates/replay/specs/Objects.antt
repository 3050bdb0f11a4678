-- Sheets, tables and charts as a list of calls left them. Assumes nothing.
use base.Fml.{GName}
use Rattle.std.specs.Prelude.{◌≡◌, ℕ, List, [], map, length, Some, None, slice_get}
use Rattle.meaning.specs.Charts.{Areas}
use Rattle.meaning.specs.Files.{Rooms}
use Rattle.meaning.specs.Kinds.{no_lines}
use Rattle.meaning.specs.Whole.{ChartIs}
use Rattle.meaning.specs.Calls.{History}
use Rattle.rules.specs.declared.sheet.Sheet.{Sheet}
use Rattle.rules.specs.Led.{SheetIs, SheetLed}
use Rattle.machines.specs.declared.table.Table.{Table}
use Rattle.machines.specs.Held.{held_lines, rooms_of}
use Rattle.charts.specs.declared.chart.Chart.{Chart}
use Rattle.charts.specs.Fills.{areas}
use Rattle.charts.specs.Led.{ChartLed, held_of, mode_of}
use Rattle.loading.specs.Led.{TableLed}

-- the objects, each kind numbered from 0
pub record Objects : Type 0 where
  pub sheets : List Sheet
  pub tables : List Table
  pub charts : List Chart

-- three lists of them
abbrev pub objects : List Sheet → List Table → List Chart → Objects
objects ss ts cs = record { sheets = ss; tables = ts; charts = cs }

-- each object is as the history says of its number
pub record ObjectsLed (h : History) (o : Objects) : Type 0 where
  pub sheets : (n : ℕ) (s : Sheet) → slice_get o.sheets n ≡ Some s → SheetLed h n s
  pub tables : (n : ℕ) (t : Table) → slice_get o.tables n ≡ Some t → TableLed h n t
  pub charts : (n : ℕ) (c : Chart) → slice_get o.charts n ≡ Some c → ChartLed h n c

-- the objects are new: sheets without names and rules, tables without lines, charts that no call filled
pub record AllNew (o : Objects) : Type 0 where
  pub sheets : (n : ℕ) (s : Sheet) → slice_get o.sheets n ≡ Some s → SheetIs [] [] s
  pub tables : (n : ℕ) (t : Table) → slice_get o.tables n ≡ Some t → held_lines t ≡ no_lines
  pub charts : (n : ℕ) (c : Chart) → slice_get o.charts n ≡ Some c → ChartIs None None (held_of c) (mode_of c.state)

-- what no call changes: how many sheets there are, the rooms of each table and the areas of each chart
pub record Lent : Type 0 where
  pub sheets : ℕ
  pub rooms : List Rooms
  pub areas : List Areas

-- that of objects
abbrev pub lent : Objects → Lent
lent o = record { sheets = length o.sheets; rooms = map rooms_of o.tables; areas = map areas o.charts }

-- the loans that the areas of the tables and charts are on
pub record Loans : Type 0 where
  pub tables : List (GName × GName)
  pub charts : List (GName × GName × GName)

-- of a table
abbrev pub table_loans : Table → GName × GName
table_loans t = (t.states.ghost_name, t.steps.ghost_name)

-- of a chart
abbrev pub chart_loans : Chart → GName × GName × GName
chart_loans c = (c.labels.ghost_name, c.standings.ghost_name, c.next.ghost_name)

-- of all tables and charts
abbrev pub loans : Objects → Loans
loans o = record { tables = map table_loans o.tables; charts = map chart_loans o.charts }
