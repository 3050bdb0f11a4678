-- Formulas as a row of numbered nodes. Assumes nothing.
use Rattle.std.specs.Prelude.{ℕ, suc, ◌<◌, ◌≤◌, max, List, [], ◌∷◌, ◌++◌, length, slice_index_or}
use Rattle.logic.specs.Formula.{Formula, tru, fls, lit, and, or, next, until, release}
use Rattle.formulas.specs.declared.node.Node.{Node}
use Rattle.formulas.specs.declared.node.Node.TheVariants.{True, False, Signal, And, Or, Next, Until, Release}

-- the formula of a node, from the formulas of its parts
abbrev pub made_of : List Formula → Node → Formula
made_of fs True = tru
made_of fs False = fls
made_of fs (Signal i p) = lit i p
made_of fs (And a b) = and (slice_index_or fs a tru) (slice_index_or fs b tru)
made_of fs (Or a b) = or (slice_index_or fs a tru) (slice_index_or fs b tru)
made_of fs (Next a) = next (slice_index_or fs a tru)
made_of fs (Until a b) = until (slice_index_or fs a tru) (slice_index_or fs b tru)
made_of fs (Release a b) = release (slice_index_or fs a tru) (slice_index_or fs b tru)

-- the formulas fs of the nodes before, and behind them those of further nodes
unfoldable pub grown : List Formula → List Node → List Formula
grown fs [] = fs
grown fs (n ∷ ns) = grown (fs ++ (made_of fs n ∷ [])) ns

-- the formulas of all nodes
unfoldable pub formulas : List Node → List Formula
formulas ns = grown [] ns

-- the formula of node k
unfoldable pub formula : List Node → ℕ → Formula
formula ns k = slice_index_or (formulas ns) k tru

-- a node at place k: its parts have smaller numbers, its signal is one of eight
abbrev pub Placed : ℕ → Node → Type 0
Placed k True = Unit {0}
Placed k False = Unit {0}
Placed k (Signal i p) = i < 8
Placed k (And a b) = (a < k) × (b < k)
Placed k (Or a b) = (a < k) × (b < k)
Placed k (Next a) = a < k
Placed k (Until a b) = (a < k) × (b < k)
Placed k (Release a b) = (a < k) × (b < k)

-- at most 256 nodes, each behind its parts, and signals are among the eight
pub record Topological (ns : List Node) : Type 0 where
  pub few : length ns ≤ 256
  pub placed : (k : ℕ) → k < length ns → Placed k (slice_index_or ns k True)

-- one more than the greatest operand; 0 where there is none
abbrev pub reach : Node → ℕ
reach True = 0
reach False = 0
reach (Signal i p) = 0
reach (And a b) = suc (max a b)
reach (Or a b) = suc (max a b)
reach (Next a) = suc a
reach (Until a b) = suc (max a b)
reach (Release a b) = suc (max a b)

-- a signal's number; 0 of other nodes
abbrev pub signal_of : Node → ℕ
signal_of True = 0
signal_of False = 0
signal_of (Signal i p) = i
signal_of (And a b) = 0
signal_of (Or a b) = 0
signal_of (Next a) = 0
signal_of (Until a b) = 0
signal_of (Release a b) = 0

-- operands stand before what they are operands of: as an invariant can hold it
abbrev pub OperandsFirst : List Node → Type 0
OperandsFirst ns = (k : ℕ) (d : Node) → k < length ns → reach (slice_index_or ns k d) ≤ k

-- signals are among the eight: as an invariant can hold it
abbrev pub SignalsSmall : List Node → Type 0
SignalsSmall ns = (k : ℕ) (d : Node) → k < length ns → signal_of (slice_index_or ns k d) < 8
