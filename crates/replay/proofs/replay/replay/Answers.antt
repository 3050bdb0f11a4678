use Rattle.std.proofs.Common.{◌+◌, ◌∷◌, [], ◌++◌, arith}
use Rattle.std.proofs.lemmas.Result.{MatchResult-from_err}
use Rattle.replay.proofs.ListOfCalls.{next_replayed}
use Rattle.replay.proofs.replay.replay.Goals as goal

pub returns-in_err-make : goal.returns-in_err-make
returns-in_err-make g c =
    record {
      led = MatchResult-from_err _ _ _ c.from_residual.ensures.0 (λ y. record {
        made = c.loop-call.call-index;
        answers = c.loop-call.answers.items;
        within = omega arith;
        replayed = rw c.in_err-make.ensures.led c.loop-call.invariant;
      });
    }

pub returns-in_err-push : goal.returns-in_err-push
returns-in_err-push g c =
    record {
      led = MatchResult-from_err _ _ _ c.from_residual-in_err-push.ensures.0 (λ y. record {
        made = c.loop-call.call-index + 1;
        answers = c.loop-call.answers.items ++ (c.in_ok-make.field-0 ∷ []);
        within = omega arith;
        replayed = next_replayed g.M.Machine.meaning g.M.Machine.lawful c.args.calls.now c.loop-call.call-index _ c.call-item.result c.in_ok-make.field-0 _ _ _
            (omega arith) c.call-item.is c.loop-call.invariant c.in_ok-make.ensures.led;
      });
    }

pub loop-call-preserved : goal.loop-call-preserved
loop-call-preserved g c =
    rw c.in_ok-push.ensures.items (next_replayed g.M.Machine.meaning g.M.Machine.lawful c.args.calls.now c.loop-call.call-index _ c.call-item.result c.in_ok-make.field-0 _ _ _
    (omega arith) c.call-item.is c.loop-call.invariant c.in_ok-make.ensures.led)
