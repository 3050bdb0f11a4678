-- A loading as one of a list of calls, and a table as such a list left it. Assumes nothing.
use Rattle.std.specs.Prelude.{◌≡◌, ℕ, ◌∷◌, Result}
use Rattle.meaning.specs.declared.refusals.FileFault.{FileFault}
use Rattle.meaning.specs.Bytes.{Text}
use Rattle.meaning.specs.Files.{Rooms}
use Rattle.meaning.specs.Calls.{loading, Event, History}
use Rattle.meaning.specs.Histories.{table_lines}
use Rattle.meaning.specs.Right.{Right}
use Rattle.machines.specs.declared.table.Table.{Table}
use Rattle.machines.specs.Held.{held_lines}
use Rattle.rules.specs.declared.sheet.Sheet.{Sheet}
use Rattle.rules.specs.Led.{SheetLed}

-- the table is as the history h says of table number t
abbrev pub TableLed : History → ℕ → Table → Type 0
TableLed h t x = held_lines x ≡ table_lines h t

-- a loading of a file into sheet s and table t, with its answer
abbrev pub loaded : ℕ → ℕ → Rooms → Text → Result (Unit {0}) FileFault → Event
loaded s t r file x = record { call = loading s t r file; answer = x }

-- after any list of calls the answer is right, and with it the sheet and the table are as the list says
abbrev pub LedByLoading : Rooms → Text → Result (Unit {0}) FileFault → Sheet → Table → Type 0
LedByLoading r file x sheet table = (h : History) (s t : ℕ) →
    Right h (loading s t r file) x
    × SheetLed (loaded s t r file x ∷ h) s sheet
    × TableLed (loaded s t r file x ∷ h) t table
