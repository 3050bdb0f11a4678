-- Whether two nodes are the same. Assumes nothing.
use Rattle.std.specs.Prelude.{Bool, true, false, ◌==◌, ◌&&◌}
use Rattle.std.specs.Bool.{beq}
use Rattle.formulas.specs.declared.node.Node.{Node}
use Rattle.formulas.specs.declared.node.Node.TheVariants.{True, False, Signal, And, Or, Next, Until, Release}

-- nodes of one kind with the same operands, or the same signal wanted alike
abbrev pub same_node : Node → Node → Bool
same_node True True = true
same_node False False = true
same_node (Signal i p) (Signal j q) = (i == j) && beq p q
same_node (And a b) (And c d) = (a == c) && (b == d)
same_node (Or a b) (Or c d) = (a == c) && (b == d)
same_node (Next a) (Next c) = a == c
same_node (Until a b) (Until c d) = (a == c) && (b == d)
same_node (Release a b) (Release c d) = (a == c) && (b == d)
same_node _ _ = false
