-- What is printed of an answer: the word of its call, and then what came back. Assumes nothing.
use Rattle.std.specs.Prelude.{ℕ, List, ◌∷◌, ◌++◌, take, Ok, Err, Result, codes, decimal}
use Rattle.meaning.specs.declared.refusals.NamesFault.{NamesFault}
use Rattle.meaning.specs.declared.refusals.SheetFault.{SheetFault}
use Rattle.meaning.specs.declared.refusals.FileFault.{FileFault}
use Rattle.meaning.specs.declared.refusals.FillingFault.{FillingFault}
use Rattle.meaning.specs.declared.refusals.BeginningFault.{BeginningFault}
use Rattle.meaning.specs.declared.refusals.ScanningFault.{ScanningFault}
use Rattle.meaning.specs.declared.refusals.SearchingFault.{SearchingFault}
use Rattle.meaning.specs.declared.answers.Scanned.{Scanned as Scan}
use Rattle.meaning.specs.declared.answers.Scanned.TheVariants.{GoingOn, Broken}
use Rattle.meaning.specs.declared.answers.Verdict.{Verdict}
use Rattle.meaning.specs.declared.answers.Verdict.TheVariants.{Shown, Clear}
use Rattle.meaning.specs.Bytes.{Text}
use Rattle.meaning.specs.Refusals.{number_of_names, number_of_sheet, place_of_sheet, layer_of_sheet, number_of_line_fault, place_of_line_fault, layer_of_line_fault, number_of_filling, number_of_beginning, number_of_scanning, number_of_searching}
use Rattle.meaning.specs.Printed.{field, fields}
use Rattle.replay.specs.declared.answer.Answer.{Answer}
use Rattle.replay.specs.declared.answer.Answer.TheVariants.{Opened, Entered, Loaded, Filled, Begun, Scanned, Searched, NoSuchObject, ManyLayers}

-- of an opening
abbrev pub opened_text : Result (Unit {0}) NamesFault → Text
opened_text (Ok u) = codes "open,done"
opened_text (Err e) = codes "open,refused" ++ field (number_of_names e)

-- of an entering: the number of the rule; or the layer, the refusal's number, and the place
abbrev pub entered_text : Result ℕ SheetFault → Text
entered_text (Ok k) = codes "enter,done" ++ field k
entered_text (Err e) = codes "enter,refused," ++ (layer_of_sheet e ++ (field (number_of_sheet e) ++ field (place_of_sheet e)))

-- of a loading: a refusal has the line of the file in front
abbrev pub loaded_text : Result (Unit {0}) FileFault → Text
loaded_text (Ok u) = codes "load,done"
loaded_text (Err x) = codes "load,refused," ++ (decimal x.line ++ (44 ∷ (layer_of_line_fault x.fault ++ (field (number_of_line_fault x.fault) ++ field (place_of_line_fault x.fault)))))

-- of a filling: the numbers of labels and standings
abbrev pub filled_text : Result (ℕ × ℕ) FillingFault → Text
filled_text (Ok n) = codes "fill,done" ++ (field n.0 ++ field n.1)
filled_text (Err e) = codes "fill,refused" ++ field (number_of_filling e)

-- of a beginning
abbrev pub begun_text : Result (Unit {0}) BeginningFault → Text
begun_text (Ok u) = codes "begin,done"
begun_text (Err e) = codes "begin,refused" ++ field (number_of_beginning e)

-- of a scan
abbrev pub scanned_text : Result Scan ScanningFault → Text
scanned_text (Ok GoingOn) = codes "scan,going on"
scanned_text (Ok Broken) = codes "scan,broken"
scanned_text (Err e) = codes "scan,refused" ++ field (number_of_scanning e)

-- how many states the walk has, and which; or the number of pairs
abbrev pub verdict_text : Verdict → List ℕ → Text
verdict_text (Shown n) w = codes "find,broken" ++ (field n ++ fields (take n w))
verdict_text (Clear n) w = codes "find,clear" ++ field n

-- of a look for a breach
abbrev pub found_text : Result Verdict SearchingFault → List ℕ → Text
found_text (Ok v) w = verdict_text v w
found_text (Err e) w = codes "find,refused" ++ field (number_of_searching e)

-- of any answer
abbrev pub answer_text : Answer → Text
answer_text (Opened x) = opened_text x
answer_text (Entered x) = entered_text x
answer_text (Loaded x) = loaded_text x
answer_text (Filled x) = filled_text x
answer_text (Begun x) = begun_text x
answer_text (Scanned x) = scanned_text x
answer_text (Searched x w) = found_text x w.items
answer_text NoSuchObject = codes "no such object"
answer_text ManyLayers = codes "too many layers"
