use Rattle.std.proofs.Common.{◌<◌, ◌≤◌, length, drop, sym, refl, ap, ◌∙◌, arith}
use Rattle.pairs.specs.Stages.{depth_at}
use Rattle.pairs.proofs.Ends.{refused, level_clean, level_again, cleared, start_shown, walk_shown}
use Rattle.breaches.specs.Charts.{standings_of}
use Rattle.breaches.specs.Counts.{tally_of}
use Rattle.breaches.proofs.exploration.Exploration.run.Goals as goal
use Rattle.breaches.proofs.exploration.Exploration.run.Goals.{then-loop-kept-test+else-kept-len, else-loop-kept-test}
use mathlib.Core.Bool.{false≢true}

pub returns-in-Break : goal.returns-in-Break
returns-in-Break g c =
    let h = c.in-Break.ensures in
    start_shown _ _ (standings_of c.args.self.now.chart.now) _ _ _ (omega (arith, c.requires.longer)) h.0 h.1

pub overflow_add-kept : goal.overflow_add-kept
overflow_add-kept g c =
    let k = c.loop-kept.kept in
    let s = c.loop-kept.invariant.stage in
    let l : k.base < k.list.len = omega (arith, c.if-kept-len.true, c.len.ensures) in
    omega (arith, s.fresh k.base (omega arith) l, s.low k.base l, s.fits, c.requires.longer, c.loop-kept.invariant.area)

pub returns-in-Break-level : goal.returns-in-Break-level
returns-in-Break-level g c =
    let h = c.in-Break-level.ensures in
    let st = h.2.goes.stage in
    let e = c.in-Break-level.end in
    let F = c.level.new.kept.list.area.now in
    let l : e.entry < c.level.new.kept.list.len = omega (arith, h.1, h.2.goes.grows.more, c.len-kept.ensures) in
    let fits : depth_at F e.entry < length c.show-states.new.walk = omega (arith, l, st.fits, st.low e.entry l, c.requires.longer, h.2.goes.grows.same_length, c.loop-kept.invariant.area, c.loop-kept.auto.walk, c.show-states.auto.walk) in
    walk_shown _ _ _ _ (tally_of c.loop-kept.kept) _ e.entry e.state F _ _ _ _ _
    c.loop-kept.invariant.stage (c.loop-kept.invariant.between c.loop-kept-test.true) refl h.0 (omega (arith, h.1, c.len-kept.ensures)) h.2 c.loop-kept.invariant.area c.show-states.ensures.states fits c.show-states.ensures.written
    (c.show-states.ensures.rest ∙ ap (drop c.show-states.result) c.loop-kept.invariant.walk)

pub loop-kept-preserved : goal.loop-kept-preserved
loop-kept-preserved g c =
    let p = c.in_default-level.ensures in
    let b = c.loop-kept.invariant.between c.loop-kept-test.true in
    record {
      stage = p.goes.stage;
      clean = λ xs w l. level_clean _ _ _ _ _ _ _ _ _ _ refl (sym c.len-kept.ensures) b p xs w (omega (arith, p.goes.depth));
      between = level_again _ _ _ _ (tally_of c.loop-kept.kept) _ _ (tally_of c.level.new.kept) refl c.len-kept.ensures refl b p;
      walk = c.loop-kept.invariant.walk;
      area = p.goes.grows.same_length ∙ c.loop-kept.invariant.area;
    }

pub returns-then-kept : goal.returns-then-kept
returns-then-kept g c = refused _ _ _ _ _ _ _ _ _ _ _ c.loop-kept.invariant.walk c.if-kept.true c.loop-kept.invariant.stage (sym c.loop-kept.invariant.area) c.loop-kept.invariant.clean

pub returns : goal.returns
returns g c =
    let all : c.loop-kept.kept.list.len ≤ c.loop-kept.kept.base = elim c.loop-kept-test.branch [
      | then-loop-kept-test+else-kept-len w ↦ omega (arith, w.len.ensures, w.if-kept-len.false)
      | else-loop-kept-test w ↦ absurd (false≢true (sym c.if-kept.false ∙ w.loop-kept-test.false))
    ] in
    cleared _ _ _ _ _ _ _ _ _ _ _ _ _ c.loop-kept.invariant.walk c.loop-kept.invariant.stage (c.loop-kept.invariant.between c.if-kept.false) all c.loop-kept.invariant.area c.len-pairs.ensures
