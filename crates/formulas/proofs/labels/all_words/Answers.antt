use Rattle.std.proofs.Common.{[], ◌<◌, length, ◌≢◌, below_more, length-set, get_or-set_other, get_or-set_same, arith}
use Rattle.formulas.proofs.labels.all_words.Goals as goal

pub loop-group-preserved : goal.loop-group-preserved
loop-group-preserved c =
    let gs = c.loop-group.groups in
    let n = c.loop-group.group in
    let i = c.loop-group.invariant in
    let fits : n < length gs = omega (arith, i.0) in (
      simp length-set i.0,
      below_more _ _ (λ g l. let ne : g ≢ n = omega arith in rw (get_or-set_other gs n g _ [] ne) (i.1 g l))
          (rw (get_or-set_same gs n _ [] fits) (record { all = c.values.result; valued = c.values.ensures; are = c.kept_words.ensures })),
    )
