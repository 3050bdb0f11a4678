use Rattle.replay.proofs.OneCall.{loaded}
use Rattle.replay.proofs.steps.load_file.Goals as goal

pub returns : goal.returns
returns c = loaded c.args.sheets.now c.args.tables.now c.args.sheet c.args.table c.index-sheets-sheet.result c.load.new.sheet c.index-tables-table.result c.load.new.table c.args.file.now c.load.result c.if-sheet-sheets.false c.if-table-tables.false c.load.ensures.led c.load.ensures.areas
