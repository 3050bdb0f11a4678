use Rattle.std.proofs.Common.{length, refl, ap, ◌∙◌, arith}
use Rattle.std.proofs.lemmas.List.{nil_from_length}
use Rattle.breaches.proofs.Ending.{searchable, gone_by, searched, told, not_early, within}
use Rattle.breaches.proofs.find.find_breach.Goals as goal

pub returns-then-start_count-eq0 : goal.returns-then-start_count-eq0
returns-then-start_count-eq0 g c = told _ _ _ _ _ _ _
    (gone_by _ _ _ _ _ _ _ c.is_blank.ensures c.if-is_blank.false (λ f reads. (nil_from_length _ (omega (arith, c.start_count.ensures, c.if-start_count-eq0.true)), refl)))
    tt (λ e. refl)

pub returns-then-count-gt65536 : goal.returns-then-count-gt65536
returns-then-count-gt65536 g c = told _ _ _ _ _ _ _
    (gone_by _ _ _ _ _ _ _ c.is_blank.ensures c.if-is_blank.false (λ f reads. ((λ e. c.if-start_count-eq0.false (c.start_count.ensures ∙ ap length e)), omega arith, refl)))
    tt (λ e. refl)

pub returns-then-walk-pairs : goal.returns-then-walk-pairs
returns-then-walk-pairs g c = told _ _ _ _ _ _ _
    (gone_by _ _ _ _ _ _ _ c.is_blank.ensures c.if-is_blank.false (λ f reads. ((λ e. c.if-start_count-eq0.false (c.start_count.ensures ∙ ap length e)), omega arith, omega arith, refl)))
    tt (λ e. refl)

pub returns : goal.returns
returns g c =
    let m = g.M.Machine.meaning c.args.machine.now in
    let h = rw c.new.ensures.area at c.run.ensures in
    told _ _ _ _ _ _ _
    (searched _ m (g.M.Machine.lawful c.args.machine.now) _ _ _ _ _ c.is_blank.ensures c.if-is_blank.false (searchable m _ _ (λ e. omega arith) (omega arith) (omega arith)) c.run.auto.walk h)
    (within _ _ _ _ _ _ h) (λ e. absurd (not_early _ _ _ _ _ _ h e))
