-- The nodes of a store, and what a call leaves of them. Assumes nothing.
use Rattle.std.specs.Prelude.{ℕ, List, length, Option}
use Rattle.fixed.specs.Held.{held}
use Rattle.logic.specs.Formula.{Formula}
use Rattle.formulas.specs.declared.node.Node.{Node}
use Rattle.rules.specs.declared.store.Store.{Store}
use Rattle.rules.specs.Nodes.{Below, Means, Longer}

-- the nodes that a store holds
abbrev pub nodes_held : Store → List Node
nodes_held s = held s.nodes

-- the number, if there is one, is that of a node in the store
abbrev pub IsStored : Store → Option ℕ → Type 0
IsStored s r = Below r (length (nodes_held s))

-- the store's nodes are the formulas gs
abbrev pub Holds : Store → List Formula → Type 0
Holds s gs = Means (nodes_held s) gs

-- all nodes that were in the store are still there, with their numbers
abbrev pub Grown : Store → Store → Type 0
Grown old new = Longer (nodes_held old) (nodes_held new)
