use Rattle.std.proofs.Common.{false, replicate, refl, rules}
use Rattle.formulas.proofs.Marking.{marking_start, last_placed, behind_start, behind_on, behind_off, behind_done, none_marked}
use Rattle.formulas.proofs.marks.mark.Goals as goal

pub loop-k-init : goal.loop-k-init
loop-k-init c =
    behind_start (search rules) (search rules) (marking_start c.args.nodes.now c.args.root (replicate 256 false) c.requires.ordered c.requires.root refl (none_marked 256))

pub mark_node-requires-clause-placed : goal.mark_node-requires-clause-placed
mark_node-requires-clause-placed c =
    let s = c.in-Some.ensures.steps.1 in
    last_placed _ c.in-Some.node.now s.0 c.loop-k.invariant c.requires.ordered c.in-Some.k s.1

pub loop-k-preserved-then-under-k : goal.loop-k-preserved-then-under-k
loop-k-preserved-then-under-k c =
    let s = c.in-Some.ensures.steps in
    let b = behind_on _ c.in-Some.node.now s.1.0 c.loop-k.invariant c.requires.ordered c.in-Some.k _ s.1.1 s.0 c.if-under-k.true in
    rw (c.mark_node.ensures.under, c.mark_node.ensures.flags) b

pub loop-k-preserved : goal.loop-k-preserved
loop-k-preserved c =
    let s = c.in-Some.ensures.steps in
    behind_off _ c.in-Some.node.now s.1.0 c.loop-k.invariant c.requires.ordered c.in-Some.k _ s.1.1 s.0 c.if-under-k.false

pub returns : goal.returns
returns c = behind_done c.requires.ordered c.loop-k.invariant c.in-None.ensures.steps.1.0
