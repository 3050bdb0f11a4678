-- What the nodes of a store mean. Assumes nothing.
use Rattle.std.specs.Prelude.{◌≡◌, ℕ, ◌<◌, ◌≤◌, List, length, Some, None, Option, ◌≢◌, slice_index_or}
use Rattle.logic.specs.Formula.{Formula, tru}
use Rattle.formulas.specs.declared.node.Node.{Node}
use Rattle.formulas.specs.Nodes.{made_of, reach}
use Rattle.texts.specs.Listed.{add, StandsAt}

-- a number, if there is one, is below n
abbrev pub Below : Option ℕ → ℕ → Type 0
Below (Some k) n = k < n
Below None n = Unit {0}

-- the nodes are the formulas gs: operands stand before, and each formula once
pub record Means (nodes : List Node) (gs : List Formula) : Type 0 where
  pub size : length gs ≡ length nodes
  pub at : (i : ℕ) (d : Node) → i < length nodes → slice_index_or gs i tru ≡ made_of gs (slice_index_or nodes i d)
  pub before : (i : ℕ) (d : Node) → i < length nodes → reach (slice_index_or nodes i d) ≤ i
  pub differ : (i j : ℕ) → i < j → j < length nodes → slice_index_or gs i tru ≢ slice_index_or gs j tru

-- all of xs are the first of ys
pub record Longer (xs ys : List Node) : Type 0 where
  pub more : length xs ≤ length ys
  pub stays : (k : ℕ) (d : Node) → k < length xs → slice_index_or ys k d ≡ slice_index_or xs k d

-- what interning f answers where the nodes mean gs: the number of f, or none where f is one too many
abbrev pub Interned : List Formula → Formula → Option ℕ → List Node → Type 0
Interned gs f (Some k) nodes = Means nodes (add f gs) × StandsAt (add f gs) f k
Interned gs f None nodes = Means nodes gs × (256 < length (add f gs))

-- none of the nodes is x
abbrev pub Lacks : List Node → Node → Type 0
Lacks xs x = (k : ℕ) (d : Node) → k < length xs → slice_index_or xs k d ≢ x

-- number k of the nodes is x
abbrev pub Finds : List Node → Node → ℕ → Type 0
Finds xs x k = (k < length xs) × ((d : Node) → slice_index_or xs k d ≡ x)
