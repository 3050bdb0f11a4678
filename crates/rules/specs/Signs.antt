-- The sign that a part of a rule is read with: as it stands, or negated. Assumes nothing.
use Rattle.logic.specs.Formula.{Formula}
use Rattle.logic.specs.Rule.{Rule, positive, negated}
use Rattle.texts.specs.declared.words.Leaf.{Leaf}
use Rattle.texts.specs.declared.words.Binary.{Binary}
use Rattle.texts.specs.declared.words.Binary.TheVariants.{And, Or, Implies, Until, Release}
use Rattle.formulas.specs.declared.node.Node.{Node}
use Rattle.rules.specs.declared.sign.Sign.{Sign}
use Rattle.rules.specs.declared.sign.Sign.TheVariants.{Positive, Negated}
use Rattle.rules.specs.Readings.{positive_node, negated_node, dual_of}

-- the formula that a rule is read as
abbrev pub reading_of : Sign → Rule → Formula
reading_of Positive r = positive r
reading_of Negated r = negated r

-- the sign under `!`
abbrev pub flipped : Sign → Sign
flipped Positive = Negated
flipped Negated = Positive

-- the sign of an operator's left operand
abbrev pub left_sign : Sign → Binary → Sign
left_sign s And = s
left_sign s Or = s
left_sign s Implies = flipped s
left_sign s Until = s
left_sign s Release = s

-- the node of a leaf
abbrev pub leaf_node : Sign → Leaf → Node
leaf_node Positive l = positive_node l
leaf_node Negated l = negated_node l

-- the operator, or its dual under `!`
abbrev pub signed : Sign → Binary → Binary
signed Positive op = op
signed Negated op = dual_of op
