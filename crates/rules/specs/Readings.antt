-- What reading a rule text leaves in the store. Assumes nothing.
use Rattle.std.specs.Prelude.{◌≡◌, ℕ, ◌<◌, true, false, List, length, Some, None, Ok, Err, Option, Result}
use Rattle.std.specs.Borrow.{Bor}
use Rattle.logic.specs.Formula.{Formula, and, or, until, release}
use Rattle.texts.specs.declared.words.Leaf.{Leaf}
use Rattle.texts.specs.declared.words.Leaf.TheVariants.{True, False, Name}
use Rattle.texts.specs.declared.words.Binary.{Binary}
use Rattle.texts.specs.declared.words.Binary.TheVariants.{And, Or, Implies, Until, Release}
use Rattle.formulas.specs.declared.node.Node.{Node}
use Rattle.formulas.specs.declared.node.Node.TheVariants as N
use Rattle.meaning.specs.declared.refusals.RuleFault.{RuleFault}
use Rattle.logic.specs.Rule.{Rule}
use Rattle.meaning.specs.Bytes.{Text}
use Rattle.texts.specs.Parse.{parse}
use Rattle.texts.specs.Listed.{added, StandsAt}
use Rattle.rules.specs.Nodes.{Means, Below}

-- the node of a leaf
abbrev pub positive_node : Leaf → Node
positive_node True = N.True
positive_node False = N.False
positive_node (Name i) = N.Signal i true

-- the node of a leaf under `!`
abbrev pub negated_node : Leaf → Node
negated_node True = N.False
negated_node False = N.True
negated_node (Name i) = N.Signal i false

-- the node of two operands; `a -> b` is the `|` of the readings of its operands
abbrev pub binary_node : Binary → ℕ → ℕ → Node
binary_node And a b = N.And a b
binary_node Or a b = N.Or a b
binary_node Implies a b = N.Or a b
binary_node Until a b = N.Until a b
binary_node Release a b = N.Release a b

-- the formula of two operands; `a -> b` is the `|` of the readings of its operands
abbrev pub binary_formula : Binary → Formula → Formula → Formula
binary_formula And a b = and a b
binary_formula Or a b = or a b
binary_formula Implies a b = or a b
binary_formula Until a b = until a b
binary_formula Release a b = release a b

-- the operator under `!`
abbrev pub dual_of : Binary → Binary
dual_of And = Or
dual_of Or = And
dual_of Implies = And
dual_of Until = Release
dual_of Release = Until

-- what stands in the store after f was read over gs: all of f, and its number; or no number, since there are too many
abbrev pub Outcome : List Formula → Formula → Option ℕ → List Node → Type 0
Outcome gs f (Some k) nodes = Means nodes (added gs f) × StandsAt (added gs f) f k
Outcome gs f None nodes = ((hs : List Formula) × Means nodes hs) × (256 < length (added gs f))

-- the same of f and then g
abbrev pub Both : List Formula → Formula → Formula → Option ℕ → Option ℕ → List Node → Type 0
Both gs f g (Some i) b nodes = StandsAt (added gs f) f i × Outcome (added gs f) g b nodes
Both gs f g None b nodes = ((hs : List Formula) × Means nodes hs) × (256 < length (added gs f))

-- what a reading of w answers, and leaves in the store
abbrev pub Reads : (Rule → Formula) → List Text → ℕ → ℕ → Text → List Formula → List Node → Result (Option ℕ × Bor Text) RuleFault → Type 0
Reads pol ns total d w gs nodes (Ok x) = (r : Rule) × (parse ns total d w ≡ Ok (r, x.1.now)) × Outcome gs (pol r) x.0 nodes
Reads pol ns total d w gs nodes (Err e) = parse ns total d w ≡ Err e

-- the number that a reading answers is below n
abbrev pub Numbered : ℕ → Result (Option ℕ × Bor Text) RuleFault → Type 0
Numbered n (Ok x) = Below x.0 n
Numbered n (Err e) = Unit {0}
