use Rattle.std.proofs.Common.{arith}
use Rattle.logs.specs.Told.{call}
use Rattle.logs.proofs.NewObjects.{if_ok_then}
use Rattle.logs.proofs.ReadLines.{call_held, unread_held}
use Rattle.logs.proofs.entries.Log.add.Goals as goal

pub returns-in_ok-push-in-Ok-2 : goal.returns-in_ok-push-in-Ok-2
returns-in_ok-push-in-Ok-2 c = λ ts h. call_held ts _ _ _ _ _ c.in-Ok.call c.len-number.result h c.in-Ok.ensures (omega arith) c.in_ok-push-in-Ok.ensures.items c.in_ok-push-in-Ok-2.ensures.items

pub returns-in-Err : goal.returns-in-Err
returns-in-Err c = λ ts h. if_ok_then c.add_unread.result (λ u a. unread_held ts (call c.args.line.now) _ _ _ _ c.in-Err.unread h c.in-Err.ensures a) c.add_unread.ensures
