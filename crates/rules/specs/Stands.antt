-- What the parts of a sheet stand for: names, and the breach formulas of its rules. Assumes nothing.
use Rattle.std.specs.Prelude.{◌≡◌, ℕ, ◌<◌, List, length, slice_index, slice_index_or}
use Rattle.logic.specs.Formula.{Formula, tru}
use Rattle.formulas.specs.declared.node.Node.{Node}
use Rattle.meaning.specs.Bytes.{Text}
use Rattle.texts.specs.Fit.{Fit}
use Rattle.texts.specs.Listed.{listed, StandsAt}
use Rattle.texts.specs.Entered.{BreachFormulas}
use Rattle.rules.specs.declared.names.Names.{Names}
use Rattle.rules.specs.Names.{names_held}
use Rattle.rules.specs.Nodes.{Means}

-- the names are ns; the nodes are the subformulas of the breach formulas fs, each once, and no other; the roots are the numbers of fs
pub record PartsStand (names : Names) (nodes : List Node) (roots : List ℕ) (ns : List Text) (fs : List Formula) : Type 0 where
  pub named : names_held names ≡ ns
  pub fit : Fit ns
  pub means : Means nodes (listed fs)
  pub count_is : length fs ≡ length roots
  pub rooted : (i : ℕ) → i < length fs → StandsAt (listed fs) (slice_index_or fs i tru) (slice_index roots i)

-- they stand for the breach formulas of some texts
abbrev pub SomeRules : Names → List Node → List ℕ → Type 0
SomeRules names nodes roots = ∥ ((ns : List Text) × (ts : List Text) × (fs : List Formula) × PartsStand names nodes roots ns fs × BreachFormulas ns ts fs) ∥₁
