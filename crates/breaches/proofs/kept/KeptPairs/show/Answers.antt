use Rattle.std.proofs.Common.{◌≡◌, suc, ◌-◌, ◌<◌, ◌≤◌, length, set, sym, ap, ◌∙◌, subst, arith}
use Rattle.std.proofs.lemmas.List.{drop-set-lt, length-set}
use Rattle.pairs.specs.declared.pair.Pair.{Pair}
use Rattle.pairs.specs.Stages.{depth_at}
use Rattle.pairs.proofs.Showing.{written, written_more, written_first, written_last, up}
use Rattle.breaches.proofs.kept.KeptPairs.show.Goals as goal

pub loop-place-preserved : goal.loop-place-preserved
loop-place-preserved c =
    let E = c.args.self.now.list.area.now in
    let d = c.entry-depth.result.depth in
    let k = c.loop-place.place in
    let w = c.loop-place.walk in
    let at = c.loop-place.at in
    let p = c.entry-pair.result in
    let ep = sym c.entry-pair.ensures in
    let e : k ≡ suc (k - 1) = omega (arith, c.loop-place-test.true) in
    let ed : d ≡ depth_at E c.args.end.entry = ap (λ (z : Pair). z.depth) c.entry-depth.ensures in
    let room : d < length w = omega (arith, c.requires.room, ed, c.loop-place.auto.walk, length-set c.args.walk.now d c.args.end.state) in
    record {
      climbs = subst (λ (z : Pair). 0 < k - 1 → (z.parent ≤ c.args.end.entry) × (depth_at E z.parent ≡ k - 1)) ep (up E c.args.end.entry at k (k - 1) c.requires.rooted e (c.loop-place.invariant.climbs c.loop-place-test.true));
      writes = subst (λ (z : Pair). written E d (k - 1) z.parent (set w (k - 1) z.state) ≡ written E d k at w) ep (written_more E d k (k - 1) at w e c.loop-place.auto.place room) ∙ c.loop-place.invariant.writes;
      rest = drop-set-lt _ w (k - 1) p.state (omega (arith, c.loop-place.auto.place)) ∙ c.loop-place.invariant.rest;
    }

pub returns-clause-written : goal.returns-clause-written
returns-clause-written c =
    let E = c.args.self.now.list.area.now in
    let i = c.args.end.entry in
    let d = c.entry-depth.result.depth in
    let ed : d ≡ depth_at E i = ap (λ (z : Pair). z.depth) c.entry-depth.ensures in
    rw (← ed) (sym (written_last E d c.loop-place.place c.loop-place.at c.loop-place.walk c.loop-place-test.false) ∙ c.loop-place.invariant.writes ∙ written_first E d i c.args.end.state c.args.walk.now (omega (arith, ed, c.requires.room)))
