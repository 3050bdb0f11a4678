-- What the program prints for a file: the answers of the calls that it makes. Assumes nothing.
use Rattle.std.specs.Prelude.{◌≡◌, ℕ, zero, suc, ◌+◌, ◌<◌, ◌≤◌, ◌⊎◌, List, [], ◌∷◌, ◌++◌, length, take, Ok, Err, codes, decimal, Result}
use Rattle.std.specs.List.{flat_map}
use Rattle.meaning.specs.declared.refusals.LineFault.TheVariants.{Table}
use Rattle.meaning.specs.declared.refusals.TableFault.TheVariants.{NoRoom}
use Rattle.meaning.specs.declared.refusals.FileFault.{FileFault}
use Rattle.meaning.specs.declared.refusals.FillingFault.{FillingFault}
use Rattle.meaning.specs.declared.refusals.SearchingFault.{SearchingFault}
use Rattle.meaning.specs.declared.answers.Verdict.{Verdict}
use Rattle.meaning.specs.declared.answers.Verdict.TheVariants.{Shown, Clear}
use Rattle.meaning.specs.Refusals.{number_of_line_fault, place_of_line_fault, layer_of_line_fault, number_of_filling, number_of_searching}
use Rattle.meaning.specs.Bytes.{Text}
use Rattle.meaning.specs.Charts.{Areas}
use Rattle.meaning.specs.Files.{Rooms, RightLoading, content}
use Rattle.meaning.specs.Calls.{loading, filling, searching, table, Event, History}
use Rattle.meaning.specs.Right.{Right}

-- the program's room for a table: 256 states and 1,024 steps
abbrev pub table_rooms : Rooms
table_rooms = record { states = 256; steps = 1024 }

-- its room for a chart: 512 labels and 32 standings
abbrev pub chart_areas : Areas
chart_areas = record { labels = 512; records = 32; nexts = 8192 }

-- a number as a field behind a comma
abbrev pub field : ℕ → Text
field n = 44 ∷ decimal n

-- numbers as fields, each behind a comma
abbrev pub fields : List ℕ → Text
fields ns = flat_map field ns

-- what is printed of a refused file: `file,refused,` line, layer, number, place
abbrev pub fault_text : FileFault → Text
fault_text x = codes "file,refused," ++ (decimal x.line ++ (44 ∷ (layer_of_line_fault x.fault ++ (field (number_of_line_fault x.fault) ++ field (place_of_line_fault x.fault)))))

-- its line
abbrev pub fault_line : FileFault → Text
fault_line x = fault_text x ++ codes "\n"

-- what is printed of a rule: `rule,` number, and what follows
abbrev pub rule_text : ℕ → Text → Text
rule_text k rest = codes "rule," ++ (decimal k ++ rest)

-- its line
abbrev pub rule_line : ℕ → Text → Text
rule_line k rest = rule_text k rest ++ codes "\n"

-- what follows: the verdict, and then states with the walk, or pairs, or the refusal's number
abbrev pub verdict : Result Verdict SearchingFault × List ℕ → Text
verdict (Ok (Shown n), w) = codes ",broken" ++ (field n ++ fields (take n w))
verdict (Ok (Clear n), w) = codes ",clear" ++ field n
verdict (Err e, w) = codes ",refused" ++ field (number_of_searching e)

-- the history behind an accepted loading of the file into a new sheet and table
abbrev pub loaded : Text → History
loaded file = record { call = loading 0 0 table_rooms file; answer = Ok tt } ∷ []

-- an accepted filling of chart k with rule k of that sheet
abbrev pub filled : ℕ → ℕ × ℕ → Event
filled k n = record { call = filling k 0 k chart_areas; answer = Ok n }

-- the line of rule k: a new chart is filled with it, and searched with if that was accepted
abbrev pub PrintsRule : History → ℕ → Text → Type 0
PrintsRule h k out =
    ∥ (((e : FillingFault) × Right h (filling k 0 k chart_areas) (Err e) × (out ≡ rule_line k (codes ",refused" ++ field (number_of_filling e))))
    ⊎ ((n : ℕ × ℕ) × (w : List ℕ) × (x : Result Verdict SearchingFault × List ℕ) × Right h (filling k 0 k chart_areas) (Ok n) × (length w ≡ 1025)
    × Right (filled k n ∷ h) (searching k (table 0) 1024 w) x × (out ≡ rule_line k (verdict x)))) ∥₁

-- the lines of n rules from rule k on
abbrev pub PrintsRules : History → ℕ → ℕ → Text → Type 0
PrintsRules h zero k out = out ≡ []
PrintsRules h (suc n) k out = ∥ ((line rest : Text) × PrintsRule h k line × PrintsRules h n (k + 1) rest × (out ≡ line ++ rest)) ∥₁

-- the text behind a loading: one line for a refused file, else the lines of its rules
abbrev pub PrintsLoaded : Text → Result (Unit {0}) FileFault → Text → Type 0
PrintsLoaded file (Err x) out = out ≡ fault_line x
PrintsLoaded file (Ok u) out = PrintsRules (loaded file) (length (content file).rules) 0 out

-- 19, of the program: a file has more than 8,192 bytes
abbrev pub FileIsTooLong : Text → Type 0
FileIsTooLong file = 8192 < length file

-- the text for a file: of over 8,192 bytes it gives line 0 with 19
abbrev pub Prints : Text → Text → Type 0
Prints file out =
    (FileIsTooLong file × (out ≡ fault_line (record { line = 0; fault = Table NoRoom })))
    ⊎ ((length file ≤ 8192) × ∥ ((x : Result (Unit {0}) FileFault) × RightLoading table_rooms file x × PrintsLoaded file x out) ∥₁)
