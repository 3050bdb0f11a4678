use Rattle.replay.proofs.make.make.Goals as goal

pub returns-in-Open : goal.returns-in-Open
returns-in-Open g c = rw c.in-Open.is (record { led = rw c.as_slice.ensures.value at (c.open.ensures c.args.tables.now c.args.charts.now) })

pub returns-in-Enter : goal.returns-in-Enter
returns-in-Enter g c = rw c.in-Enter.is (record { led = rw c.as_slice-in-Enter.ensures.value at (c.enter.ensures c.args.tables.now c.args.charts.now) })

pub returns-in-Load : goal.returns-in-Load
returns-in-Load g c = rw c.in-Load.is (record { led = rw c.as_slice-in-Load.ensures.value at (c.load_file.ensures c.args.charts.now) })

pub returns-in-Fill : goal.returns-in-Fill
returns-in-Fill g c = rw c.in-Fill.is (record { led = c.fill.ensures c.args.tables.now })

pub returns-in-Begin : goal.returns-in-Begin
returns-in-Begin g c = rw c.in-Begin.is (record { led = c.begin.ensures c.args.sheets.now c.args.tables.now })

pub returns-in-Scan : goal.returns-in-Scan
returns-in-Scan g c = rw c.in-Scan.is (record { led = c.scan.ensures c.args.sheets.now c.args.tables.now })
