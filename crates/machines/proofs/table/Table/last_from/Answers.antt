use Rattle.std.proofs.Common.{take, rules}
use Rattle.machines.proofs.OfAdding.{last_known}
use Rattle.machines.proofs.table.Table.last_from.Goals as goal

pub returns : goal.returns
returns c =
    let t = c.args.self.now in
    last_known (take t.step_count t.steps.now) c.last.result c.map_or.result c.last.ensures.value (search rules)
