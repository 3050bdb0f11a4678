use Rattle.replay.proofs.OneCall.{scanned}
use Rattle.replay.proofs.steps.scan.Goals as goal

pub returns : goal.returns
returns c = scanned c.args.charts.now c.args.chart c.args.letter c.index-charts-chart.result c.scan.new.self c.scan.result c.if-chart-charts.false c.scan.ensures.led c.scan.ensures.stays
