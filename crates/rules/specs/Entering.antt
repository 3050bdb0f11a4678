-- What reading the breach formula of a text answers. Assumes nothing.
use Rattle.std.specs.Prelude.{◌≡◌, ℕ, ◌<◌, Bool, false, List, length, Ok, Err, Result}
use Rattle.logic.specs.Formula.{Formula}
use Rattle.formulas.specs.declared.node.Node.{Node}
use Rattle.meaning.specs.declared.refusals.SheetFault.{SheetFault}
use Rattle.meaning.specs.Bytes.{Text}
use Rattle.texts.specs.Listed.{added, StandsAt}
use Rattle.texts.specs.Judged.{judged}
use Rattle.rules.specs.Nodes.{Means}
use Rattle.rules.specs.Kept.{FewKept}

-- what it answers, and what an accepted text leaves in the store
abbrev pub ReadsBreach : List Text → Bool → List Formula → Text → List Node → Result ℕ SheetFault → Type 0
ReadsBreach ns full gs text nodes (Ok k) = (f : Formula) × (judged ns full gs text ≡ Ok f) × Means nodes (added gs f) × StandsAt (added gs f) f k
ReadsBreach ns full gs text nodes (Err e) = judged ns full gs text ≡ Err e

-- accepted only where there is room for a rule, and with a number that can be a breach formula
abbrev pub HasRoom : Bool → List Node → Result ℕ SheetFault → Type 0
HasRoom full nodes (Ok k) = (full ≡ false) × (k < length nodes) × FewKept nodes k
HasRoom full nodes (Err e) = Unit {0}
