use Rattle.std.proofs.Common.{◌≡◌, ◌∙◌, ◌+◌, ◌-◌, ◌*◌, min, get_or, arith}
use Rattle.std.proofs.lemmas.Bool.Decides.{nat_tests}
use Rattle.lines.proofs.OfFields.{next_digit}
use Rattle.lines.proofs.digits.Goals as goal

pub loop-b-preserved : goal.loop-b-preserved
loop-b-preserved c =
    let m : c.min-n.result ≡ min 65536 (c.loop-b.n * 10 + (get_or c.args.text.now c.loop-b.b-index 0 - 48)) = grind (arith, nat_tests) in
    (omega arith, next_digit c.loop-b.n _ c.args.text.now c.loop-b.b-index c.loop-b-test.true (omega (arith, c.if-not-is_ascii_digit.ensures.cases)) (omega (arith, c.if-not-is_ascii_digit.ensures.cases)) m ∙ c.loop-b.invariant.1)
