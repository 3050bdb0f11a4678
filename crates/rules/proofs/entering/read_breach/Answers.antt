use Rattle.std.proofs.Common.{◌<◌, length, Err, ap, ◌∙◌, rules, true-eqb, false-eqb}
use Rattle.formulas.specs.Marks.{ManyKept}
use Rattle.meaning.specs.declared.refusals.SheetFault.TheVariants.{Rule}
use Rattle.fixed.proofs.Held.{held_fits}
use Rattle.rules.specs.Kept.{BreachAt}
use Rattle.rules.specs.Stored.{nodes_held}
use Rattle.rules.proofs.Faults.{passed, was_none}
use Rattle.rules.proofs.OfKept.{store_topological, over_kept, within_kept, not_over}
use Rattle.rules.proofs.OfEntering.{exit_follow, exit_full, exit_over, exit_kept, exit_ok, reads_err, reads_rule}
use Rattle.rules.proofs.entering.read_breach.Goals as goal

pub returns-in_err-number-clause-reads : goal.returns-in_err-number-clause-reads
returns-in_err-number-clause-reads c =
    let p = passed _ (Rule c.in_err-number.field-0.0) c.from_residual.ensures.1 in
    λ gs m. reads_rule _ _ gs _ _ _ _ p (rw (c.new-reader.ensures.names, c.new-reader.ensures.total) at (c.in_err-number.ensures.reads gs m))

pub returns-then-not-is_empty-clause-reads : goal.returns-then-not-is_empty-clause-reads
returns-then-not-is_empty-clause-reads c = λ gs m. exit_follow _ _ gs _ _ _ _ _ (rw (c.new-reader.ensures.names, c.new-reader.ensures.total) at (c.in_ok-number.ensures.reads gs m)) (false-eqb _ 0 c.if-not-is_empty.ensures) (rw c.new-reader.ensures.total at c.place-place.ensures)

pub returns-then-full-clause-reads : goal.returns-then-full-clause-reads
returns-then-full-clause-reads c = λ gs m. exit_full _ _ gs _ _ _ _ (rw (c.new-reader.ensures.names, c.new-reader.ensures.total) at (c.in_ok-number.ensures.reads gs m)) (true-eqb _ 0 c.if-not-is_empty.ensures) c.if-full.true

pub returns-in_err-root-clause-reads : goal.returns-in_err-root-clause-reads
returns-in_err-root-clause-reads c =
    let p = passed _ c.in_err-root.field-0.0 c.from_residual-in_err-root.ensures.1 in
    let n = was_none c.in_ok-number.number _ _ c.in_err-root.ensures.value in
    λ gs m. reads_err _ _ gs _ _ _ _ (p ∙ ap Err n.1) (exit_over _ _ gs _ _ _ _ (rw (c.new-reader.ensures.names, c.new-reader.ensures.total) at (c.in_ok-number.ensures.reads gs m)) (true-eqb _ 0 c.if-not-is_empty.ensures) n.0)

pub returns-in_err-ok_or-clause-reads : goal.returns-in_err-ok_or-clause-reads
returns-in_err-ok_or-clause-reads c =
    let p = passed _ c.in_err-ok_or.field-0.0 c.from_residual-in_err-ok_or.ensures.1 in
    let n = was_none c.breach.result _ _ c.in_err-ok_or.ensures.value in
    let s = c.negated.new.store in
    let none = n.0 in
    let many : ManyKept (nodes_held s) c.in_ok-root.root = search rules in
    let below : c.in_ok-root.root < length (nodes_held s) = search rules in
    λ gs m. reads_err _ _ gs _ _ _ _ (p ∙ ap Err n.1) (exit_kept _ _ gs _ _ _ _ _ (rw (c.new-reader.ensures.names, c.new-reader.ensures.total) at (c.in_ok-number.ensures.reads gs m)) (true-eqb _ 0 c.if-not-is_empty.ensures) c.in_ok-root.ensures.ok_part c.if-full.false (held_fits s.nodes)
    (λ hs h. over_kept (nodes_held s) hs (store_topological s) h _ below many))

pub returns-clause-room : goal.returns-clause-room
returns-clause-room c =
    let s = c.negated.new.store in
    let b : BreachAt (nodes_held s) c.in_ok-root.root c.in_ok-ok_or.field-0 = search rules in
    (c.if-full.false, search rules, not_over (nodes_held s) _ b.few)

pub returns-clause-reads : goal.returns-clause-reads
returns-clause-reads c =
    let s = c.negated.new.store in
    let b : BreachAt (nodes_held s) c.in_ok-root.root c.in_ok-ok_or.field-0 = search rules in
    let below : c.in_ok-root.root < length (nodes_held s) = search rules in
    λ gs m. exit_ok _ _ gs _ _ _ _ _ (rw (c.new-reader.ensures.names, c.new-reader.ensures.total) at (c.in_ok-number.ensures.reads gs m)) (true-eqb _ 0 c.if-not-is_empty.ensures) c.in_ok-root.ensures.ok_part c.if-full.false (held_fits s.nodes) (λ hs h. within_kept (nodes_held s) hs (store_topological s) h _ below b.few)
