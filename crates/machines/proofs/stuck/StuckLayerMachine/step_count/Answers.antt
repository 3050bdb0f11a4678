use Rattle.meaning.specs.Kinds.{stuck_fits}
use Rattle.machines.proofs.StuckSteps.{fitted_is, steps_doubled}
use Rattle.machines.proofs.stuck.StuckLayerMachine.step_count.Goals as goal

pub returns : goal.returns
returns g c =
    let f = fitted_is (λ x. stuck_fits (g.M.Machine.meaning x) c.args.self.now.signal) _ _ c.in_ok-below.ensures in
    rw f.1 (steps_doubled (g.M.Machine.meaning c.in_ok-below.below.now) c.args.self.now.signal f.0 c.count-n.result c.count-n.ensures c.args.s _ c.if-s-n.false c.in_ok-step_count.ensures)
