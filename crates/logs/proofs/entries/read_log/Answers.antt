use Rattle.std.proofs.Common.{map}
use Rattle.logs.specs.Told.{call}
use Rattle.logs.proofs.ReadLines.{line_read, all_read, all_read_with_last}
use Rattle.logs.proofs.entries.read_log.Goals as goal

pub loop-line-preserved : goal.loop-line-preserved
loop-line-preserved c =
    let r = c.loop-line.invariant in
    line_read c.args.text.now c.loop-line.rest.now c.in-Some.line.now c.in-Some.more.now _ _ _ _ r c.in-Some.ensures.0 (c.in_ok-add.ensures (map call r.before) r.held)

pub returns-then-is_empty : goal.returns-then-is_empty
returns-then-is_empty c = all_read c.args.text.now c.loop-line.rest.now _ _ c.loop-line.invariant c.in_default.ensures c.if-is_empty.ensures

pub returns : goal.returns
returns c =
    let r = c.loop-line.invariant in
    all_read_with_last c.args.text.now c.loop-line.rest.now _ _ _ _ r c.in_default.ensures c.if-is_empty.ensures (c.in_ok-add-2.ensures (map call r.before) r.held)
