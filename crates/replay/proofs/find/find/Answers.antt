use Rattle.std.proofs.Common.{ℕ}
use Rattle.replay.specs.Meant.{machine}
use Rattle.replay.proofs.OneCall.{looked, if_ok_then}
use Rattle.replay.proofs.find.find.Goals as goal

pub returns : goal.returns
returns g c =
    let over = λ (n : ℕ). machine g.M.Machine.meaning g.M.Machine.lawful n c.args.wanted.now.machine.now in
    if_ok_then c.on.result
    (λ a looks. looked c.args.tables.now c.args.charts.now c.args.wanted.now.chart c.args.wanted.now.pairs c.args.wanted.now.walk over a _ c.if-wanted-charts.false c.index-charts-wanted.is looks)
    c.on.ensures
