-- The kept formulas of a breach formula, in the order of their nodes. Assumes nothing.
use Rattle.std.specs.Prelude.{ℕ, List}
use Rattle.logic.specs.Formula.{Formula}
use Rattle.fixed.specs.Held.{held}
use Rattle.formulas.specs.Keeps.{kept_formulas}
use Rattle.formulas.specs.Values.{AllBefore}
use Rattle.formulas.specs.declared.breach.BreachFormula.{BreachFormula}

-- the formulas with the numbers that a breach formula keeps
abbrev pub kept_of : BreachFormula → List Formula
kept_of b = kept_formulas (held b.nodes) (held b.kept)

-- words of the kept formulas that tell what each letter in front makes of a label
abbrev pub TellLetters : BreachFormula → ℕ → List (List ℕ) → Type 0
TellLetters b label words = AllBefore (held b.nodes) (held b.kept) label words
