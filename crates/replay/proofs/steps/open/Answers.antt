use Rattle.replay.proofs.OneCall.{opened}
use Rattle.replay.proofs.steps.open.Goals as goal

pub returns : goal.returns
returns c = opened c.args.sheets.now c.args.sheet c.index-sheets-sheet.result c.open.new.self c.args.names.now c.open.result c.if-sheet-sheets.false c.open.ensures.led
