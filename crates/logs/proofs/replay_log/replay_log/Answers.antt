use Rattle.std.proofs.Common.{string_bytes}
use Rattle.logs.proofs.NewObjects.{if_ok_then}
use Rattle.logs.proofs.PlayedBack.{played_back}
use Rattle.logs.proofs.replay_log.replay_log.Goals as goal

pub returns : goal.returns
returns c =
    let right = rw c.as_slice.ensures.value at c.in_ok-answers.ensures in
    let written = rw (c.as_slice-2.ensures.value, c.as_slice-3.ensures.value) at c.write_lines.ensures in
    record { prints = if_ok_then c.write_lines.result (λ s e. played_back c.args.log.now (string_bytes s) c.in_ok-read.read.numbers.items c.in_ok-read.read.calls.items c.in_ok-answers.answers.items c.in_ok-read.ensures right e) written }
