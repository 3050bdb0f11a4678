use Rattle.std.proofs.Common.{rules}
use Rattle.charts.proofs.WatchSteps.{begins}
use Rattle.charts.proofs.LedCalls.{begins as begins_led}
use Rattle.charts.proofs.chart.Chart.begin.Goals as goal

pub returns-clause-watches : goal.returns-clause-watches
returns-clause-watches c = begins c.args.self.now c.react.new.self c.react.ensures.stays c.map_err.result (search rules)

pub returns-clause-led : goal.returns-clause-led
returns-clause-led c = begins_led c.args.self.now c.react.new.self c.react.ensures.stays c.map_err.result (search rules)
