-- How many formulas are kept of a stored formula. Assumes nothing.
use Rattle.std.specs.Prelude.{◌≡◌, ℕ, ◌≤◌, List, length}
use Rattle.logic.specs.Formula.{Formula}
use Rattle.fixed.specs.Held.{held}
use Rattle.formulas.specs.declared.node.Node.{Node}
use Rattle.formulas.specs.declared.breach.BreachFormula.{BreachFormula}
use Rattle.formulas.specs.Nodes.{formula}
use Rattle.formulas.specs.Keeps.{Keeps}
use Rattle.formulas.specs.Marks.{ManyKept}

-- at most 32 formulas are kept of number k, so that it can be a breach formula
abbrev pub FewKept : List Node → ℕ → Type 0
FewKept nodes k = ManyKept nodes k → ⊥

-- b is the breach formula with number k among the nodes
pub record BreachAt (nodes : List Node) (k : ℕ) (b : BreachFormula) : Type 0 where
  pub nodes_are : held b.nodes ≡ nodes
  pub root_is : b.root ≡ k
  pub few : ∥ ((xs : List ℕ) × Keeps nodes k xs × (length xs ≤ 32)) ∥₁

-- the formula that a breach formula is
abbrev pub formula_of : BreachFormula → Formula
formula_of b = formula (held b.nodes) b.root
