use Rattle.std.proofs.Common.{ap, subst, sym, arith, rules, ◌∙◌}
use Rattle.charting.specs.Filled.{breached}
use Rattle.charts.specs.declared.state.State.TheVariants.{Watching}
use Rattle.charts.specs.Sound.{BlankOrWhole}
use Rattle.charts.proofs.SoundSteps.{begun_sound, broken_sound, going_sound, watching_some, inside}
use Rattle.charts.proofs.chart.Chart.react.Goals as goal

pub standing_after-standing-requires : goal.standing_after-standing-requires
standing_after-standing-requires c = let w = c.in-Watching-Scan in watching_some c.args.self.now w.from w.letter w.is-0 (omega arith)

pub is_breach-requires : goal.is_breach-requires
is_breach-requires c =
    let w = c.in-Watching-Scan in
    let n = c.standing_after-standing.ensures in
    let i = inside c.args.self.now w.from w.letter w.is-0 (omega arith) in
    omega (arith, n, i)

pub invariant_of-self-clause-whole : goal.invariant_of-self-clause-whole
invariant_of-self-clause-whole c =
    let w = c.in-Watching-Scan in
    let d = c.args.self.now in
    broken_sound d w.from w.letter w.is-0 (omega arith) (ap (breached d.standings.now) (sym c.standing_after-standing.ensures) ∙ sym c.is_breach.ensures ∙ c.if-is_breach.true)

pub invariant_of-self-else-is_breach-clause-whole : goal.invariant_of-self-else-is_breach-clause-whole
invariant_of-self-else-is_breach-clause-whole c =
    let w = c.in-Watching-Scan in
    let d = c.args.self.now in
    subst (λ q. BlankOrWhole d.labels.now d.label_count d.standings.now d.standing_count d.next.now (Watching q)) (sym c.standing_after-standing.ensures)
    (going_sound d w.from w.letter w.is-0 (omega arith) (ap (breached d.standings.now) (sym c.standing_after-standing.ensures) ∙ sym c.is_breach.ensures ∙ c.if-is_breach.false))

pub invariant_of-self-in_default-Begin-clause-whole : goal.invariant_of-self-in_default-Begin-clause-whole
invariant_of-self-in_default-Begin-clause-whole c = begun_sound c.args.self.now (search rules)
