-- What a line of the report says, whatever calls were made before. Assumes nothing.
use Rattle.std.specs.Prelude.{◌≡◌, ℕ, List, ◌++◌, length, None, Result}
use Rattle.meaning.specs.declared.refusals.SearchingFault.{SearchingFault}
use Rattle.meaning.specs.declared.answers.Verdict.{Verdict}
use Rattle.meaning.specs.Bytes.{Text}
use Rattle.meaning.specs.declared.refusals.FileFault.{FileFault}
use Rattle.meaning.specs.Files.{RightLoading}
use Rattle.meaning.specs.Calls.{searching, table, History}
use Rattle.meaning.specs.Histories.{filled_rule, watch}
use Rattle.meaning.specs.Right.{Right}
use Rattle.meaning.specs.Printed.{table_rooms, rule_line, verdict, PrintsRule, PrintsRules, PrintsLoaded}
use Rattle.machines.specs.declared.table.Table.{Table}
use Rattle.rules.specs.declared.sheet.Sheet.{Sheet}
use Rattle.rules.specs.Led.{SheetLed}
use Rattle.charts.specs.declared.chart.Chart.{Chart}
use Rattle.charts.specs.Led.{ChartLed}
use Rattle.loading.specs.Led.{TableLed}

-- the line of rule k after a right answer to a call that looks for a breach with chart k over table 0
abbrev pub PrintsVerdict : History → ℕ → Text → Type 0
PrintsVerdict h k out =
    (w : List ℕ) × (x : Result Verdict SearchingFault × List ℕ) × (length w ≡ 1025) × Right h (searching k (table 0) 1024 w) x × (out ≡ rule_line k (verdict x))

-- ... wherever a list of calls led to the chart and the table
abbrev pub VerdictLed : Chart → Table → ℕ → Text → Type 0
VerdictLed c t k out = (h : History) → ChartLed h k c → TableLed h 0 t → PrintsVerdict h k out

-- a text grew by a line of which P holds
abbrev pub GrownBy : Text → Text → (Text → Type 0) → Type 0
GrownBy before after P = (line : Text) × (after ≡ before ++ line) × P line

-- a list of calls led to the sheet and the table, and every chart is as new
pub record Fresh (h : History) (s : Sheet) (t : Table) : Type 0 where
  pub sheet : SheetLed h 0 s
  pub table : TableLed h 0 t
  pub unfilled : (c : ℕ) → filled_rule h c ≡ None
  pub unwatched : (c : ℕ) → watch h c ≡ None

-- the line of rule k after such a list
abbrev pub RuleLed : Sheet → Table → ℕ → Text → Type 0
RuleLed s t k out = (h : History) → Fresh h s t → PrintsRule h k out

-- the lines of the first n rules after such a list
abbrev pub RulesLed : Sheet → Table → ℕ → Text → Type 0
RulesLed s t n out = (h : History) → Fresh h s t → PrintsRules h n 0 out

-- what is printed for a file that is not too long
abbrev pub PrintsShort : Text → Text → Type 0
PrintsShort file out = ∥ ((x : Result (Unit {0}) FileFault) × RightLoading table_rooms file x × PrintsLoaded file x out) ∥₁
