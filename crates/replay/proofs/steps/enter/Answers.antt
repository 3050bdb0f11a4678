use Rattle.replay.proofs.OneCall.{entered}
use Rattle.replay.proofs.steps.enter.Goals as goal

pub returns : goal.returns
returns c = entered c.args.sheets.now c.args.sheet c.index-sheets-sheet.result c.enter.new.self c.args.rule.now c.enter.result c.if-sheet-sheets.false c.enter.ensures.led
