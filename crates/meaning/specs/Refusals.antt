-- The number, layer and place of every refusal. Assumes nothing.
use Rattle.std.specs.Prelude.{ℕ, List, codes}
use Rattle.meaning.specs.declared.refusals.NamesFault.{NamesFault}
use Rattle.meaning.specs.declared.refusals.NamesFault.TheVariants.{Unfit}
use Rattle.meaning.specs.declared.refusals.RuleFault.{RuleFault}
use Rattle.meaning.specs.declared.refusals.RuleFault.TheVariants.{WrongWord, WordWanted, BytesFollow, TooDeep}
use Rattle.meaning.specs.declared.refusals.SheetFault.{SheetFault}
use Rattle.meaning.specs.declared.refusals.SheetFault.TheVariants.{Rule, OverKept, SheetFull}
use Rattle.meaning.specs.declared.refusals.FillingFault.{FillingFault}
use Rattle.meaning.specs.declared.refusals.FillingFault.TheVariants.{NoRule, LabelsExceed, StandingsExceed}
use Rattle.meaning.specs.declared.refusals.BeginningFault.{BeginningFault}
use Rattle.meaning.specs.declared.refusals.BeginningFault.TheVariants.{Blank as BeginBlank}
use Rattle.meaning.specs.declared.refusals.ScanningFault.{ScanningFault}
use Rattle.meaning.specs.declared.refusals.ScanningFault.TheVariants.{Blank as ScanBlank, NoWatch, AlreadyBroken}
use Rattle.meaning.specs.declared.refusals.SearchingFault.{SearchingFault}
use Rattle.meaning.specs.declared.refusals.SearchingFault.TheVariants.{Blank as SearchBlank, NoStart, ManyStates, ShortWalkArea, PairsExceed}
use Rattle.meaning.specs.declared.refusals.TableFault.{TableFault}
use Rattle.meaning.specs.declared.refusals.TableFault.TheVariants.{Form, NoRoom}
use Rattle.meaning.specs.declared.refusals.LineFault.{LineFault}
use Rattle.meaning.specs.declared.refusals.LineFault.TheVariants.{Names, Sheet, Table}
use Rattle.meaning.specs.declared.refusals.FittingFault.{FittingFault}
use Rattle.meaning.specs.declared.refusals.FittingFault.TheVariants.{TooLarge}

-- opening: unfit names
abbrev pub number_of_names : NamesFault → ℕ
number_of_names Unfit = 1

-- entering: a wrong word; a word is wanted and no byte is left; bytes follow the formula; an operator below 32 others
abbrev pub number_of_rule : RuleFault → ℕ
number_of_rule (WrongWord p) = 2
number_of_rule (WordWanted p) = 3
number_of_rule (BytesFollow p) = 4
number_of_rule (TooDeep p) = 5

-- entering: over 32 kept; a 17th rule or over 256 different subformulas
abbrev pub number_of_sheet : SheetFault → ℕ
number_of_sheet (Rule e) = number_of_rule e
number_of_sheet OverKept = 6
number_of_sheet SheetFull = 7

-- filling: no such rule; labels, standings exceed their room
abbrev pub number_of_filling : FillingFault → ℕ
number_of_filling NoRule = 8
number_of_filling LabelsExceed = 9
number_of_filling StandingsExceed = 10

-- beginning, scanning, searching: the chart is blank
abbrev pub number_of_beginning : BeginningFault → ℕ
number_of_beginning BeginBlank = 11

-- scanning: no watch begun; the watch is already broken
abbrev pub number_of_scanning : ScanningFault → ℕ
number_of_scanning ScanBlank = 11
number_of_scanning NoWatch = 12
number_of_scanning AlreadyBroken = 13

-- searching: no start; over 65,536 states; walk area not longer than pair area; neither shown nor clear
abbrev pub number_of_searching : SearchingFault → ℕ
number_of_searching SearchBlank = 11
number_of_searching NoStart = 14
number_of_searching ManyStates = 15
number_of_searching ShortWalkArea = 16
number_of_searching PairsExceed = 17

-- loading: a line breaks its form; states, steps or the program's file exceed area or limit
abbrev pub number_of_table : TableFault → ℕ
number_of_table Form = 18
number_of_table NoRoom = 19

-- loading: the number of the layer that refused the line
abbrev pub number_of_line_fault : LineFault → ℕ
number_of_line_fault (Names e) = number_of_names e
number_of_line_fault (Sheet e) = number_of_sheet e
number_of_line_fault (Table e) = number_of_table e

-- fitting: more than 32,768 states or a width over 524,288 below, or a signal above 7
abbrev pub number_of_fitting : FittingFault → ℕ
number_of_fitting TooLarge = 20

-- the place of a text's fault: a byte of the rule text
abbrev pub place_of_rule : RuleFault → ℕ
place_of_rule (WrongWord p) = p
place_of_rule (WordWanted p) = p
place_of_rule (BytesFollow p) = p
place_of_rule (TooDeep p) = p

-- entering: the place of the text's fault, and 0 elsewhere
abbrev pub place_of_sheet : SheetFault → ℕ
place_of_sheet (Rule e) = place_of_rule e
place_of_sheet OverKept = 0
place_of_sheet SheetFull = 0

-- loading: the place of the text's fault, and 0 elsewhere
abbrev pub place_of_line_fault : LineFault → ℕ
place_of_line_fault (Names e) = 0
place_of_line_fault (Sheet e) = place_of_sheet e
place_of_line_fault (Table e) = 0

-- the layer that refused a text: rule (2 to 5) or sheet (6, 7)
abbrev pub layer_of_sheet : SheetFault → List ℕ
layer_of_sheet (Rule e) = codes "rule"
layer_of_sheet OverKept = codes "sheet"
layer_of_sheet SheetFull = codes "sheet"

-- the layer that refused a line: names (1), rule (2 to 5), sheet (6, 7), table (18, 19)
abbrev pub layer_of_line_fault : LineFault → List ℕ
layer_of_line_fault (Names e) = codes "names"
layer_of_line_fault (Sheet e) = layer_of_sheet e
layer_of_line_fault (Table e) = codes "table"
