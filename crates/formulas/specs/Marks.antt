-- Marks on nodes: those under the root, and those kept. Assumes nothing.
use Rattle.std.specs.Prelude.{◌≡◌, ℕ, ◌<◌, ◌≤◌, Bool, true, false, List, length, get_or, ◌≢◌, slice_index, slice_index_or, slice_set}
use Rattle.formulas.specs.declared.node.Node.{Node}
use Rattle.formulas.specs.declared.node.Node.TheVariants.{True, False, Signal, And, Or, Next, Until, Release}
use Rattle.formulas.specs.Nodes.{formula}
use Rattle.formulas.specs.Keeps.{Part, Under, KeepsAt, KeptNode}

-- the parts of a node marked
abbrev pub mark_parts : List Bool → Node → List Bool
mark_parts us True = us
mark_parts us False = us
mark_parts us (Signal i p) = us
mark_parts us (And a b) = slice_set (slice_set us a true) b true
mark_parts us (Or a b) = slice_set (slice_set us a true) b true
mark_parts us (Next a) = slice_set us a true
mark_parts us (Until a b) = slice_set (slice_set us a true) b true
mark_parts us (Release a b) = slice_set (slice_set us a true) b true

-- what a node keeps marked
abbrev pub mark_kept : ℕ → List Bool → Node → List Bool
mark_kept k fs True = fs
mark_kept k fs False = fs
mark_kept k fs (Signal i p) = fs
mark_kept k fs (And a b) = fs
mark_kept k fs (Or a b) = fs
mark_kept k fs (Next a) = slice_set (slice_set fs k true) a true
mark_kept k fs (Until a b) = slice_set fs k true
mark_kept k fs (Release a b) = slice_set fs k true

-- marks that are whole for the nodes from j on
pub record Marking (ns : List Node) (r j : ℕ) (us fs : List Bool) : Type 0 where
  pub us_size : length us ≡ 256
  pub fs_size : length fs ≡ 256
  pub us_root : get_or us r false ≡ true
  pub fs_root : get_or fs r false ≡ true
  pub us_right : (c : ℕ) → slice_index_or us c false ≡ true → Under ns r c
  pub fs_right : (c : ℕ) → slice_index_or fs c false ≡ true → KeptNode ns r c
  pub us_done : (k : ℕ) → j ≤ k → slice_index_or us k false ≡ true → (c : ℕ) → Part (slice_index_or ns k True) c → slice_index_or us c false ≡ true
  pub fs_done : (k : ℕ) → j ≤ k → slice_index_or us k false ≡ true → (c : ℕ) → KeepsAt k (slice_index_or ns k True) c → slice_index_or fs c false ≡ true

-- the marks of the kept nodes
pub record Marked (ns : List Node) (r : ℕ) (fs : List Bool) : Type 0 where
  pub right : (c : ℕ) → slice_index_or fs c false ≡ true → KeptNode ns r c
  pub whole : (c : ℕ) → KeptNode ns r c → slice_index_or fs c false ≡ true

-- xs are the marked numbers below n, in order, and there are at most 32
pub record Picked (fs : List Bool) (n : ℕ) (xs : List ℕ) : Type 0 where
  pub few : length xs ≤ 32
  pub below : (j : ℕ) → j < length xs → slice_index xs j < n
  pub rising : (i j : ℕ) → i < j → j < length xs → slice_index xs i < slice_index xs j
  pub are : (j : ℕ) → j < length xs → slice_index_or fs (slice_index xs j) false ≡ true
  pub all : (k : ℕ) → k < n → slice_index_or fs k false ≡ true → (j : ℕ) × (j < length xs) × (slice_index xs j ≡ k)

-- 33 marked numbers
pub record Beyond (fs : List Bool) : Type 0 where
  pub number : ℕ → ℕ
  pub rising : (i j : ℕ) → i < j → j < 33 → number i < number j
  pub are : (j : ℕ) → j < 33 → slice_index_or fs (number j) false ≡ true

-- more than 32 nodes are kept of the root
pub record ManyKept (ns : List Node) (r : ℕ) : Type 0 where
  pub number : ℕ → ℕ
  pub rising : (i j : ℕ) → i < j → j < 33 → number i < number j
  pub are : (j : ℕ) → j < 33 → KeptNode ns r (number j)

-- no two nodes are the same formula
abbrev pub Different : List Node → Type 0
Different ns = (i j : ℕ) → i < j → j < length ns → formula ns i ≢ formula ns j
