use Rattle.std.proofs.Common.{◌∙◌, subst, []}
use Rattle.replay.specs.Replayed.{RightAnswers}
use Rattle.logs.proofs.NewObjects.{two_pushed, if_ok_then, new_charts, chart_areas_are}
use Rattle.logs.proofs.answers.answer_on.Goals as goal

pub returns : goal.returns
returns g c =
    let two = c.as_mut_slice.ensures.value ∙ two_pushed _ _ _ _ _ c.new-charts.ensures.items c.in_ok-push.ensures.items c.in_ok-push-2.ensures.items in
    let new = new_charts _ _ _ two c.chart.ensures.led c.chart-2.ensures.led in
    let areas = chart_areas_are c.args.tables.now _ _ _ two (c.chart.ensures.areas ∙ c.in_ok-first.ensures) (c.chart-2.ensures.areas ∙ c.in_ok-second.ensures) in
    λ blank. if_ok_then c.answer_with.result (λ v right. subst (λ l. RightAnswers g.M.Machine.meaning g.M.Machine.lawful l [] c.args.calls.now v.items) areas right)
    (c.answer_with.ensures blank new)
