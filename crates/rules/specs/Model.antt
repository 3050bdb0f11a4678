-- What a sheet stands for: names, and the breach formulas of its rules. Assumes nothing.
use Rattle.std.specs.Prelude.{◌≡◌, ℕ, ◌<◌, ◌≤◌, true, false, List, [], ◌∷◌, ◌++◌, length, Some, None, Ok, Err, Option, Result, nat_le, slice_index, slice_index_or}
use Rattle.fixed.specs.Held.{held}
use Rattle.logic.specs.Formula.{Formula, tru}
use Rattle.formulas.specs.declared.breach.BreachFormula.{BreachFormula}
use Rattle.meaning.specs.declared.refusals.NamesFault.{NamesFault}
use Rattle.meaning.specs.declared.refusals.SheetFault.{SheetFault}
use Rattle.meaning.specs.Bytes.{Text}
use Rattle.meaning.specs.Names.{names_of, fit}
use Rattle.texts.specs.Fit.{Fit}
use Rattle.texts.specs.Judged.{judged}
use Rattle.texts.specs.Listed.{listed, StandsAt}
use Rattle.rules.specs.declared.sheet.Sheet.{Sheet}
use Rattle.rules.specs.Names.{names_held}
use Rattle.rules.specs.Stored.{Holds}
use Rattle.rules.specs.Kept.{formula_of}

-- a sheet with the names ns and the breach formulas fs: it holds their subformulas, each once, and no other
pub record Stands (s : Sheet) (ns : List Text) (fs : List Formula) : Type 0 where
  pub named : names_held s.names ≡ ns
  pub fit : Fit ns
  pub means : Holds s.store (listed fs)
  pub count : length fs ≡ length (held s.roots)
  pub rooted : (i : ℕ) → i < length fs → StandsAt (listed fs) (slice_index_or fs i tru) (slice_index (held s.roots) i)

-- what entering a text answers, and the sheet after it
abbrev pub Enters : List Text → List Formula → Text → Result ℕ SheetFault → Sheet → Type 0
Enters ns fs text (Ok n) s = (f : Formula) × (judged ns (nat_le 16 (length fs)) (listed fs) text ≡ Ok f) × (n ≡ length fs) × Stands s ns (fs ++ (f ∷ []))
Enters ns fs text (Err e) s = (judged ns (nat_le 16 (length fs)) (listed fs) text ≡ Err e) × Stands s ns fs

-- a refused entering changes nothing
abbrev pub Unchanged : Result ℕ SheetFault → Sheet → Sheet → Type 0
Unchanged (Ok n) s s' = Unit {0}
Unchanged (Err e) s s' = s' ≡ s

-- what opening with a text answers, and the sheet after it: blank but for the names of the text, where they are fit
abbrev pub Opened : Sheet → Text → Result (Unit {0}) NamesFault → Sheet → Type 0
Opened s text (Ok u) s' = (fit text ≡ true) × Stands s' (names_of text) []
Opened s text (Err e) s' = (fit text ≡ false) × (s' ≡ s)

-- what asking for the breach formula of a rule answers
abbrev pub Asked : List Formula → ℕ → Option BreachFormula → Type 0
Asked fs rule (Some b) = (rule < length fs) × (formula_of b ≡ slice_index_or fs rule tru)
Asked fs rule None = length fs ≤ rule
