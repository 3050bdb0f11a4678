use Rattle.replay.proofs.OneCall.{filled}
use Rattle.replay.proofs.steps.fill.Goals as goal

pub returns : goal.returns
returns c = filled c.args.sheets.now c.args.charts.now c.args.chart c.args.sheet c.args.rule c.index-sheets-sheet.result c.index-charts-chart.result c.fill.new.self c.fill.result c.if-sheet-sheets.false c.if-chart-charts.false c.index-sheets-sheet.is c.fill.ensures.led c.fill.ensures.sizes c.fill.ensures.lent
