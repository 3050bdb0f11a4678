-- What one line does to a sheet and a table. Assumes nothing.
use Rattle.std.specs.Prelude.{◌≡◌, Bool, true, false, [], Some, None, Ok, Err, Option, Result}
use Rattle.meaning.specs.declared.refusals.LineFault.{LineFault}
use Rattle.meaning.specs.Kinds.{Lines}
use Rattle.meaning.specs.Files.{Rooms, Content, Entry, placed, added, added_if, lines_in, SaidOfLine}
use Rattle.rules.specs.declared.sheet.Sheet.{Sheet}
use Rattle.rules.specs.Led.{SheetIs}

-- the sheet, the table with the lines ls and the flag hold what the lines so far have set
pub record Holds (s : Sheet) (ls : Lines) (opened : Bool) (c : Content) : Type 0 where
  pub sheet : SheetIs c.names c.rules s
  pub table : ls ≡ lines_in c
  pub begun : opened ≡ c.opened
  pub early : opened ≡ false → c.rules ≡ []

-- a line is good and adds its entry, or something is said of it
abbrev pub Takes : Rooms → Content → Option Entry → Result (Unit {0}) LineFault → Sheet → Lines → Type 0
Takes r c e (Ok u) s ls = SaidOfLine r c e None × Holds s ls true (added_if c e)
Takes r c e (Err x) s ls = SaidOfLine r c e (Some x)

-- the same of an entry for the sheet
abbrev pub TakesOnSheet : Rooms → Content → Entry → Result (Unit {0}) LineFault → Sheet → Type 0
TakesOnSheet r c e (Ok u) s = SaidOfLine r c (placed c (Some e)) None × (placed c (Some e) ≡ Some e) × SheetIs (added c e).names (added c e).rules s
TakesOnSheet r c e (Err x) s = SaidOfLine r c (placed c (Some e)) (Some x)

-- the same of an entry for the table
abbrev pub TakesOnTable : Rooms → Content → Entry → Result (Unit {0}) LineFault → Lines → Type 0
TakesOnTable r c e (Ok u) ls = SaidOfLine r c (placed c (Some e)) None × (placed c (Some e) ≡ Some e) × (ls ≡ lines_in (added c e))
TakesOnTable r c e (Err x) ls = SaidOfLine r c (placed c (Some e)) (Some x)
