use Rattle.std.proofs.Common.{arith}
use Rattle.fixed.specs.Held.{held}
use Rattle.formulas.proofs.Marking.{picked_more, picked_skip, beyond}
use Rattle.formulas.proofs.marks.pick.Goals as goal
use Rattle.formulas.proofs.marks.pick.Goals.{then-flag+in_ok-push, else-flag}

pub returns-in_err-push : goal.returns-in_err-push
returns-in_err-push c =
    rw c.from_residual.ensures
    (beyond c.loop-k.invariant c.args.n c.in_err-push.ensures.0 c.loop-k-test.true c.if-flag.true)

pub loop-k-preserved : goal.loop-k-preserved
loop-k-preserved c =
    elim c.if-flag.branch [
      | then-flag+in_ok-push w ↦
          let e = w.in_ok-push.ensures in
          rw (w.numbers-is, e.2) (picked_more c.loop-k.invariant c.args.n (omega (arith, e)) c.loop-k-test.true w.if-flag.true)
      | else-flag w ↦ rw w.numbers-is (picked_skip c.args.n c.args.flags.now c.loop-k.k (held c.loop-k.numbers) c.loop-k-test.true w.if-flag.false c.loop-k.invariant)
    ]
