use Rattle.std.proofs.Common.{refl, arith, rules}
use Rattle.machines.proofs.OfAdding.{state_held, state_rows}
use Rattle.machines.proofs.OfRows.{numbered}
use Rattle.machines.proofs.table.Table.add_state.Goals as goal

pub invariant_of-self-clause-rows : goal.invariant_of-self-clause-rows
invariant_of-self-clause-rows c =
    let t = c.args.self.now in
    numbered t.states.now t.steps.now t.state_count t.step_count t.start_count t.rows t.start_count t.state_count (omega arith) (search rules)

pub invariant_of-self-2-clause-rows : goal.invariant_of-self-2-clause-rows
invariant_of-self-2-clause-rows c =
    let t = c.args.self.now in
    rw c.from.ensures (state_rows t c.args.start c.args.letter (search rules) c.if-at-self.false)

pub returns-clause-lines : goal.returns-clause-lines
returns-clause-lines c = let t = c.args.self.now in state_held t t.start_count _ _ refl c.if-at-self.false
