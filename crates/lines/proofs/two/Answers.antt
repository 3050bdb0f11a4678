use Rattle.std.proofs.Common.{rules}
use Rattle.lines.proofs.OfFields.{two_is}
use Rattle.lines.proofs.two.Goals as goal

pub returns : goal.returns
returns c = two_is c.args.text.now (c.in_ok-a.a, c.in_ok-a.b) c.cut-2.result c.then_some.result c.in_ok-a.ensures c.cut-2.ensures (search rules)
