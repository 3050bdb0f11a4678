use Rattle.std.proofs.Common.{◌≡◌, ◌<◌, length, get_or, rules}
use Rattle.fixed.specs.Held.{held}
use Rattle.rules.proofs.OfModel.{asked}
use Rattle.rules.proofs.sheet.Sheet.breach.Goals as goal

pub returns : goal.returns
returns c =
    let h : c.args.rule < length (held c.args.self.now.roots) = search rules in
    let e : c.in_ok-root.root.now ≡ get_or (held c.args.self.now.roots) c.args.rule 0 = search rules in
    λ ns fs st. asked c.args.self.now c.args.rule ns fs c.breach.result h st (rw (← e) c.breach.ensures)
