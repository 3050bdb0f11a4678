use Rattle.std.proofs.Common.{[], refl}
use Rattle.logs.proofs.NewObjects.{if_matched, two_sheets}
use Rattle.logs.proofs.answers.answer_with.Goals as goal

pub returns : goal.returns
returns g c = λ blank new.
    if_matched _ c.replay.result
    (λ v replayed. two_sheets g.M.Machine.meaning g.M.Machine.lawful c.args.calls.now v.items c.new.result c.new-2.result c.args.tables.now c.args.charts.now _
    (c.new.ensures.led [] 0 (refl, refl)) (c.new-2.ensures.led [] 1 (refl, refl)) blank new replayed)
    c.replay.ensures.led
