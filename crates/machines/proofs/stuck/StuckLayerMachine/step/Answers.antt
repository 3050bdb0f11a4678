use Rattle.std.proofs.Common.{◌∙◌, arith}
use Rattle.meaning.specs.Kinds.{stuck_fits}
use Rattle.machines.proofs.StuckSteps.{fitted_is, step_even, step_odd, step_none, sum_small}
use Rattle.machines.proofs.stuck.StuckLayerMachine.step.Goals as goal

pub returns-in_err-t : goal.returns-in_err-t
returns-in_err-t g c =
    let f = fitted_is (λ x. stuck_fits (g.M.Machine.meaning x) c.args.self.now.signal) _ _ c.in_ok-below.ensures in
    rw f.1 (c.from_residual-in_err-t.ensures ∙ step_none (g.M.Machine.meaning c.in_ok-below.below.now) c.args.self.now.signal f.0 c.count-n.result c.count-n.ensures c.args.s c.args.k c.if-s-n.false c.in_err-t.ensures)

pub overflow_add-result-else-k-eq0 : goal.overflow_add-result-else-k-eq0
overflow_add-result-else-k-eq0 g c =
    let f = fitted_is (λ x. stuck_fits (g.M.Machine.meaning x) c.args.self.now.signal) _ _ c.in_ok-below.ensures in
    omega (arith, sum_small (g.M.Machine.meaning c.in_ok-below.below.now) c.args.self.now.signal f.0 c.count-n.result c.count-n.ensures (g.M.Machine.lawful c.in_ok-below.below.now) _ _ c.in_ok-t.t c.in_ok-t.ensures)

pub returns-then-k-eq0 : goal.returns-then-k-eq0
returns-then-k-eq0 g c =
    let f = fitted_is (λ x. stuck_fits (g.M.Machine.meaning x) c.args.self.now.signal) _ _ c.in_ok-below.ensures in
    rw f.1 (step_even (g.M.Machine.meaning c.in_ok-below.below.now) c.args.self.now.signal f.0 c.count-n.result c.count-n.ensures c.args.s c.args.k c.in_ok-t.t c.if-s-n.false c.if-k-eq0.true c.in_ok-t.ensures)

pub returns-else-k-eq0 : goal.returns-else-k-eq0
returns-else-k-eq0 g c =
    let f = fitted_is (λ x. stuck_fits (g.M.Machine.meaning x) c.args.self.now.signal) _ _ c.in_ok-below.ensures in
    rw f.1 (step_odd (g.M.Machine.meaning c.in_ok-below.below.now) c.args.self.now.signal f.0 c.count-n.result c.count-n.ensures c.args.s c.args.k c.in_ok-t.t c.if-s-n.false c.if-k-eq0.false c.in_ok-t.ensures)
