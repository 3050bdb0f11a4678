-- What a loading says and leaves. Assumes nothing.
use Rattle.std.specs.Prelude.{◌≡◌, ℕ, [], Ok, Err, Result}
use Rattle.meaning.specs.declared.refusals.LineFault.{LineFault}
use Rattle.meaning.specs.declared.refusals.FileFault.{FileFault}
use Rattle.meaning.specs.Bytes.{Text}
use Rattle.meaning.specs.Kinds.{Lines, no_lines}
use Rattle.meaning.specs.Files.{content, lines_in}
use Rattle.rules.specs.declared.sheet.Sheet.{Sheet}
use Rattle.rules.specs.Model.{Stands}
use Rattle.rules.specs.Led.{SheetIs}

-- the line beside what was said of it
abbrev pub with_line : ℕ → Result (Unit {0}) LineFault → Result (Unit {0}) FileFault
with_line n (Ok u) = Ok u
with_line n (Err e) = Err (record { line = n; fault = e })

-- a refused loading leaves a blank sheet and a table without lines
abbrev pub Cleared : Result (Unit {0}) FileFault → Sheet → Lines → Type 0
Cleared (Ok u) s t = Unit {0}
Cleared (Err x) s t = Stands s [] [] × (t ≡ no_lines)

-- the sheet has the names and rules of the file, and the table its states and steps
abbrev pub HasFile : Text → Sheet → Lines → Type 0
HasFile file s ls = SheetIs (content file).names (content file).rules s × (ls ≡ lines_in (content file))

-- a blank sheet, and a table without lines
abbrev pub Blank : Sheet → Lines → Type 0
Blank s ls = SheetIs [] [] s × (ls ≡ no_lines)

-- an accepted loading leaves what the file says, a refused one nothing
abbrev pub Loaded : Text → Result (Unit {0}) FileFault → Sheet → Lines → Type 0
Loaded file (Ok u) s ls = HasFile file s ls
Loaded file (Err x) s ls = Blank s ls
