use Rattle.replay.proofs.OneCall.{begun}
use Rattle.replay.proofs.steps.begin.Goals as goal

pub returns : goal.returns
returns c = begun c.args.charts.now c.args.chart c.index-charts-chart.result c.begin.new.self c.begin.result c.if-chart-charts.false c.begin.ensures.led c.begin.ensures.stays
