-- The nodes under a root, and those of them that are kept. Assumes nothing.
use Rattle.std.specs.Prelude.{◌≡◌, ℕ, ◌<◌, ◌⊎◌, List, ◌∷◌, map, length, slice_index, slice_index_or}
use Rattle.logic.specs.Formula.{Formula}
use Rattle.logic.specs.Labels.{label}
use Rattle.logic.specs.Masks.{mask}
use Rattle.formulas.specs.declared.node.Node.{Node}
use Rattle.formulas.specs.declared.node.Node.TheVariants.{True, False, Signal, And, Or, Next, Until, Release}
use Rattle.formulas.specs.Nodes.{formula}

-- c is a part of a node
abbrev pub Part : Node → ℕ → Type 0
Part True c = ⊥
Part False c = ⊥
Part (Signal i p) c = ⊥
Part (And a b) c = (c ≡ a) ⊎ (c ≡ b)
Part (Or a b) c = (c ≡ a) ⊎ (c ≡ b)
Part (Next a) c = c ≡ a
Part (Until a b) c = (c ≡ a) ⊎ (c ≡ b)
Part (Release a b) c = (c ≡ a) ⊎ (c ≡ b)

-- k is the root r, or a part of a node under it
pub data Under (ns : List Node) (r : ℕ) : ℕ → Type 0 where
  top : Under ns r r
  down : {k c : ℕ} → Under ns r k → Part (slice_index_or ns k True) c → Under ns r c

-- what a node keeps besides the root: itself (number k) where it is temporal, and the operand of a next
abbrev pub KeepsAt : ℕ → Node → ℕ → Type 0
KeepsAt k True c = ⊥
KeepsAt k False c = ⊥
KeepsAt k (Signal i p) c = ⊥
KeepsAt k (And a b) c = ⊥
KeepsAt k (Or a b) c = ⊥
KeepsAt k (Next a) c = (c ≡ k) ⊎ (c ≡ a)
KeepsAt k (Until a b) c = c ≡ k
KeepsAt k (Release a b) c = c ≡ k

-- node c is kept of the root r
pub data KeptNode (ns : List Node) (r : ℕ) : ℕ → Type 0 where
  root : KeptNode ns r r
  at : {k c : ℕ} → Under ns r k → KeepsAt k (slice_index_or ns k True) c → KeptNode ns r c

-- xs are the numbers of the kept nodes, in order
pub record Keeps (ns : List Node) (r : ℕ) (xs : List ℕ) : Type 0 where
  pub below : (j : ℕ) → j < length xs → slice_index xs j < length ns
  pub rising : (i j : ℕ) → i < j → j < length xs → slice_index xs i < slice_index xs j
  pub are : (j : ℕ) → j < length xs → KeptNode ns r (slice_index xs j)
  pub all : (k : ℕ) → KeptNode ns r k → (j : ℕ) × (j < length xs) × (slice_index xs j ≡ k)

-- their formulas
abbrev pub kept_formulas : List Node → List ℕ → List Formula
kept_formulas ns xs = map (formula ns) xs

-- what one letter more in front makes of a label
pub record Before (ns : List Node) (xs : List ℕ) (letter old new : ℕ) : Type 0 where
  pub is : (w : List ℕ) → old ≡ mask (label (kept_formulas ns xs) w) → new ≡ mask (label (kept_formulas ns xs) (letter ∷ w))
