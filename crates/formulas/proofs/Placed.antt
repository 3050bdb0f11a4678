-- A node at its place, by the numbers that an invariant can hold. Assumes nothing.
use Rattle.std.proofs.Common.{ℕ, ◌<◌, ◌≤◌, List, length, get_or, subst, arith}
use Rattle.std.proofs.lemmas.List.{get_or_default}
use Rattle.formulas.specs.declared.node.Node.{Node}
use Rattle.formulas.specs.declared.node.Node.TheVariants.{True, False, Signal, Next}
use Rattle.formulas.specs.Nodes.{Placed, Topological, reach, signal_of, OperandsFirst, SignalsSmall}

pub placed : (k : ℕ) (n : Node) → reach n ≤ k → signal_of n < 8 → Placed k n
placed k True r s = tt
placed k False r s = tt
placed k (Signal i p) r s = s
placed k (Next a) r s = omega arith
placed k _ r s = (omega arith, omega arith)

pub reaches : (k : ℕ) (n : Node) → Placed k n → reach n ≤ k
reaches k (Next a) p = omega arith
reaches k _ p = omega arith

pub signals : (k : ℕ) (n : Node) → Placed k n → signal_of n < 8
signals k (Signal i q) p = p
signals k _ p = omega arith

pub topological : (ns : List Node) → length ns ≤ 256 → OperandsFirst ns → SignalsSmall ns → Topological ns
topological ns few first small = record { few = few; placed = λ k l. placed k (get_or ns k True) (first k True l) (small k True l) }

pub operands_first : (ns : List Node) → Topological ns → OperandsFirst ns
operands_first ns t k d l = subst (λ n. reach n ≤ k) (get_or_default ns k True d l) (reaches k (get_or ns k True) (t.placed k l))

pub signals_small : (ns : List Node) → Topological ns → SignalsSmall ns
signals_small ns t k d l = subst (λ n. signal_of n < 8) (get_or_default ns k True d l) (signals k (get_or ns k True) (t.placed k l))
