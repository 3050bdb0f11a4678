-- A sheet by its names and rules, and a sheet as a list of calls left it. Assumes nothing.
use Rattle.std.specs.Prelude.{◌≡◌, ℕ, List, [], ◌∷◌, ◌++◌, Ok, Err, Result}
use Rattle.fixed.specs.Held.{held}
use Rattle.logic.specs.Formula.{Formula}
use Rattle.meaning.specs.declared.refusals.NamesFault.{NamesFault}
use Rattle.meaning.specs.declared.refusals.SheetFault.{SheetFault}
use Rattle.meaning.specs.Bytes.{Text}
use Rattle.meaning.specs.Names.{names_of}
use Rattle.meaning.specs.Entering.{RightEntering}
use Rattle.meaning.specs.Calls.{opening, entering, History}
use Rattle.meaning.specs.Histories.{names, rules}
use Rattle.meaning.specs.Right.{Right}
pub use Rattle.texts.specs.Entered.{BreachFormulas}
use Rattle.rules.specs.declared.sheet.Sheet.{Sheet}
use Rattle.rules.specs.Stands.{PartsStand}
use Rattle.rules.specs.Stored.{nodes_held}

-- the parts of the sheet stand for the names ns and the breach formulas fs
abbrev pub SheetStands : Sheet → List Text → List Formula → Type 0
SheetStands s ns fs = PartsStand s.names (nodes_held s.store) (held s.roots) ns fs

-- the sheet has the names ns and the rules ts: it stands for their breach formulas
abbrev pub SheetIs : List Text → List Text → Sheet → Type 0
SheetIs ns ts s = ∥ ((fs : List Formula) × SheetStands s ns fs × BreachFormulas ns ts fs) ∥₁

-- the sheet is as the history h says of sheet number n
abbrev pub SheetLed : History → ℕ → Sheet → Type 0
SheetLed h n s = SheetIs (names h n) (rules h n) s

-- no call of the history gave sheet number n a name or a rule that it still has
abbrev pub Untouched : History → ℕ → Type 0
Untouched h n = (names h n ≡ []) × (rules h n ≡ [])

-- ---- opening

-- the sheet after opening s with a text: blank but for the names of the text; a refusal changes nothing
abbrev pub OpeningIs : Sheet → Text → Result (Unit {0}) NamesFault → Sheet → Type 0
OpeningIs s t (Ok u) s' = SheetIs (names_of t) [] s'
OpeningIs s t (Err e) s' = s' ≡ s

-- the answer is right after the history h, and the sheet is as the history with this call says
abbrev pub OpeningLed : History → ℕ → Text → Result (Unit {0}) NamesFault → Sheet → Type 0
OpeningLed h n t r s = Right h (opening n t) r × SheetLed (record { call = opening n t; answer = r } ∷ h) n s

-- ---- entering

-- the sheet after entering the text t where it had the names ns and the rules ts: with t as its last rule, or as it was
abbrev pub Entered : List Text → List Text → Text → Result ℕ SheetFault → Sheet → Type 0
Entered ns ts t (Ok n) s = SheetIs ns (ts ++ (t ∷ [])) s
Entered ns ts t (Err e) s = SheetIs ns ts s

-- the answer is the right one, and so is the sheet after it
abbrev pub EnteringIs : List Text → List Text → Text → Result ℕ SheetFault → Sheet → Type 0
EnteringIs ns ts t r s = RightEntering ns ts t r × Entered ns ts t r s

-- the answer is right after the history h, and the sheet is as the history with this call says
abbrev pub EnteringLed : History → ℕ → Text → Result ℕ SheetFault → Sheet → Type 0
EnteringLed h n t r s = Right h (entering n t) r × SheetLed (record { call = entering n t; answer = r } ∷ h) n s
