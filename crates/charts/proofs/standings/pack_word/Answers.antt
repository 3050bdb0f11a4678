use Rattle.std.proofs.Common.{◌+◌, ◌-◌, ◌*◌, ◌<◌, sym, ◌∙◌, rules, arith}
use Rattle.charting.specs.Sets.{upto}
use Rattle.charting.proofs.SetSteps.{upto_in, upto_out, word_more, word_small, none_left}
use Rattle.charts.proofs.standings.pack_word.Goals as goal

pub loop-b-init : goal.loop-b-init
loop-b-init g c = (search rules, λ p h. none_left (upto c.args.count p) (c.args.w * 64) 64 _ (λ k l m. upto_out c.args.count p k (omega (arith, c.min-end.ensures, c.saturating_sub.ensures))))

pub loop-b-preserved : goal.loop-b-preserved
loop-b-preserved g c =
    let i = c.loop-b.invariant in
    let n = c.args.count in
    let k = c.args.w * 64 + (c.loop-b.b - 1) in
    let below : k < n = omega (arith, c.min-end.ensures, c.saturating_sub.ensures) in (
      word_small c.loop-b.b c.loop-b.word c.test.result c.loop-b-test.true (omega arith) i.0,
      λ p h. word_more (upto n p) (c.args.w * 64) c.loop-b.b c.loop-b.word c.test.result c.loop-b-test.true (omega arith)
          (h k _ below c.test.ensures ∙ sym (upto_in n p k below)) (i.1 p h),
    )
