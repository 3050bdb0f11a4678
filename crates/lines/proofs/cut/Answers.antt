use Rattle.lines.proofs.OfFields.{uncut, cut_at}
use Rattle.lines.proofs.cut.Goals as goal

pub returns-in_err-i : goal.returns-in_err-i
returns-in_err-i c = rw c.from_residual.ensures (uncut c.args.at c.args.text.now c.in_err-i.ensures)

pub returns : goal.returns
returns c = cut_at c.args.at c.in_ok-i.i c.args.text.now c.in_ok-i.ensures
