use Rattle.std.proofs.Common.{rules}
use Rattle.machines.specs.Held.{rooms_of}
use Rattle.loading.proofs.OfLed.{led_is}
use Rattle.loading.proofs.load.load.Goals as goal

pub returns-then-is_err-clause-led : goal.returns-then-is_err-clause-led
returns-then-is_err-clause-led c = led_is (rooms_of c.args.table.now) c.args.file.now c.load_lines-loaded.result c.clear-then-is_err.new.self _ (search rules) (search rules)

pub returns-else-is_err-clause-led : goal.returns-else-is_err-clause-led
returns-else-is_err-clause-led c = led_is (rooms_of c.args.table.now) c.args.file.now c.load_lines-loaded.result c.load_lines-loaded.new.sheet _ (search rules) (search rules)
