use Rattle.std.proofs.Common.{ℕ, ◌<◌, List, length, get_or, sym, refl, subst}
use Rattle.formulas.specs.declared.node.Node.{Node}
use Rattle.fixed.specs.Held.{held}
use Rattle.formulas.specs.Nodes.{Topological, OperandsFirst, SignalsSmall}
use Rattle.formulas.specs.Keeps.{Keeps}
use Rattle.formulas.proofs.Marking.{keeps_picked, many_picked}
use Rattle.formulas.proofs.Placed.{operands_first, signals_small}
use Rattle.formulas.proofs.breach.BreachFormula.of.Goals as goal

pub returns-in_err-kept : goal.returns-in_err-kept
returns-in_err-kept c = rw c.from_residual.ensures (λ _ _. many_picked c.args.nodes.now c.args.root c.mark-flags.result c.mark-flags.ensures c.in_err-kept.ensures)

pub invariant_of-result : goal.invariant_of-result
invariant_of-result c =
    let ns = c.args.nodes.now in
    let t : Topological ns = c.if-not-is_topological.ensures.0 refl in
    let r : c.args.root < length ns = c.if-root-nodes.false in
    let e = sym c.in_ok-nodes.ensures in
    let k = keeps_picked ns c.args.root c.mark-flags.result (held c.in_ok-kept.kept) t r c.mark-flags.ensures c.in_ok-kept.ensures in
    record {
      ordered = subst OperandsFirst e (operands_first ns t);
      signals = subst SignalsSmall e (signals_small ns t);
      rooted = subst (λ (ms : List Node). c.args.root < length ms) e r;
      below = subst (λ (ms : List Node). (j : ℕ) → j < length (held c.in_ok-kept.kept) → get_or (held c.in_ok-kept.kept) j 0 < length ms) e k.below;
      keeps = subst (λ (ms : List Node). ∥ Keeps ms c.args.root (held c.in_ok-kept.kept) ∥₁) e ∣ k ∣₁;
    }
