use Rattle.std.proofs.Common.{◌∙◌, below_more, arith}
use Rattle.charts.proofs.standings.turn.Goals as goal

pub loop-letter-preserved : goal.loop-letter-preserved
loop-letter-preserved c =
    let i = c.loop-letter.invariant in
    let e = c.turn_letter.ensures in (
      e.len ∙ i.0,
      below_more _ _ (λ s l k h. e.rest _ (omega (arith, c.requires.few)) ∙ i.1 s l k h) e.column,
    )

pub returns : goal.returns
returns c = let i = c.loop-letter.invariant in record { turned = record { at = λ s k l h. i.1 s (omega arith) k h }; len = i.0 }
