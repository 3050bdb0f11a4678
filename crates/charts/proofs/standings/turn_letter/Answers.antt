use Rattle.std.proofs.Common.{◌+◌, ◌*◌, ◌≢◌, ◌<◌, length, ◌∙◌, below_more, length-set, get_or-set_other, get_or-set_same, arith}
use Rattle.charts.proofs.standings.turn_letter.Goals as goal

pub loop-i-preserved : goal.loop-i-preserved
loop-i-preserved c =
    let i = c.loop-i.invariant in
    let cs = c.loop-i.columns in
    let at = c.args.letter * 512 + c.loop-i.i in
    let fits : at < length cs = omega (arith, i.0, c.requires.room, c.requires.few, c.requires.letter) in (
      simp length-set i.0,
      below_more _ _ (λ k l. let ne : c.args.letter * 512 + k ≢ at = omega arith in get_or-set_other cs at _ _ 0 ne ∙ i.1 k l) (get_or-set_same cs at _ 0 fits),
      (λ k l. let ne : k ≢ at = omega arith in get_or-set_other cs at k _ 0 ne ∙ i.2 k l),
    )
