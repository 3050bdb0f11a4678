use Rattle.std.proofs.Common.{arith}
use Rattle.charts.proofs.WatchSteps.{scans}
use Rattle.charts.proofs.LedCalls.{scans as scans_led}
use Rattle.charts.proofs.chart.Chart.scan.Goals as goal

pub returns-clause-watches : goal.returns-clause-watches
returns-clause-watches c = let e = c.react.ensures in scans c.args.self.now c.react.new.self e.stays c.args.letter (omega arith) c.react.result e.reacts

pub returns-clause-led : goal.returns-clause-led
returns-clause-led c = let e = c.react.ensures in scans_led c.args.self.now c.react.new.self e.stays c.args.letter (omega arith) c.react.result e.reacts
