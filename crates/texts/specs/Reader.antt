-- The reader and the faults of the specification. Assumes nothing.
use Rattle.std.specs.Prelude.{◌≡◌, List, Some, None, Ok, Err, Option, Result}
use Rattle.logic.specs.Rule.{Rule}
use Rattle.meaning.specs.declared.refusals.RuleFault.{RuleFault}
use Rattle.meaning.specs.Bytes.{Text}
use Rattle.meaning.specs.Faults.{text_fault}
use Rattle.texts.specs.Fit.{Fit}
use Rattle.texts.specs.Judged.{read_rule}

-- the fault that a reading found; none where it found a rule
abbrev pub fault_of : Result Rule RuleFault → Option RuleFault
fault_of (Ok r) = None
fault_of (Err e) = Some e

-- the reader finds the fault of the specification, and a rule exactly where there is none
abbrev pub ReadingFindsTheFault : Type 0
ReadingFindsTheFault = (ns : List Text) → Fit ns → (t : Text) → text_fault ns t ≡ fault_of (read_rule ns t)
