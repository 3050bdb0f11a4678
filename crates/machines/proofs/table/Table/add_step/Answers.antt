use Rattle.std.proofs.Common.{ap, arith, length-set}
use Rattle.machines.specs.Rows.{state_line}
use Rattle.machines.proofs.OfAdding.{step_held, step_rows}
use Rattle.machines.proofs.OfRows.{written}
use Rattle.machines.proofs.table.Table.add_step.Goals as goal

pub invariant_of-self-clause-steps_within : goal.invariant_of-self-clause-steps_within
invariant_of-self-clause-steps_within c = let t = c.args.self.now in omega (arith, length-set t.steps.now t.step_count (record { from = c.args.from; to = c.args.to }))

pub invariant_of-self-clause-rows : goal.invariant_of-self-clause-rows
invariant_of-self-clause-rows c =
    let t = c.args.self.now in
    written t.states.now t.steps.now t.state_count t.step_count t.start_count t.rows (record { from = c.args.from; to = c.args.to })

pub invariant_of-self-2-clause-rows : goal.invariant_of-self-2-clause-rows
invariant_of-self-2-clause-rows c =
    let t = c.args.self.now in
    step_rows t c.last_from.result c.args.from c.args.to c.with_step-source.result c.last_from.ensures c.if-from-last_from.false c.if-from-self.false c.if-to-self.false c.if-at-self.false c.with_step-source.ensures

pub returns-clause-lines : goal.returns-clause-lines
returns-clause-lines c = step_held c.args.self.now c.args.from c.with_step-source.result _ (ap state_line c.with_step-source.ensures) c.if-at-self.false
