use Rattle.std.proofs.Common.{◌≡◌, ℕ, ◌<◌, leb, List, [], ◌∷◌, ◌++◌, length, get_or, Ok, Err, sym, ◌∙◌, subst, arith}
use Rattle.logic.specs.Formula.{Formula}
use Rattle.meaning.specs.Bytes.{Text}
use Rattle.texts.specs.Judged.{judged}
use Rattle.texts.specs.Listed.{listed}
use Rattle.fixed.specs.Held.{held}
use Rattle.rules.specs.Names.{names_held}
use Rattle.rules.specs.Entering.{ReadsBreach}
use Rattle.rules.specs.Kept.{FewKept}
use Rattle.rules.specs.Led.{SheetStands}
use Rattle.rules.specs.Stands.{PartsStand, SomeRules}
use Rattle.rules.specs.Stored.{nodes_held, Holds}
use Rattle.rules.proofs.Faults.{passed}
use Rattle.rules.proofs.OfKept.{store_topological, few_kept_stays}
use Rattle.rules.proofs.OfLed.{accepted_answers, accepted_led, refused_answers, refused_led}
use Rattle.rules.proofs.OfModel.{one_more_rule, some_rules_more, pushed_roots, full_is}
use Rattle.rules.proofs.OfNodes.{pushed_at}
use Rattle.rules.proofs.OfStands.{by_parts, of_parts}
use Rattle.rules.proofs.sheet.Sheet.enter.Goals as goal
use Rattle.rules.proofs.sheet.Sheet.enter.Goals.{In_ok-rule}

-- what a text that is accepted comes to
read : (c : In_ok-rule) → (gs : List Formula) → Holds c.args.self.now.store gs → ReadsBreach (names_held c.args.self.now.names) (leb 16 (length (held c.args.self.now.roots))) gs c.args.text.now (nodes_held c.read_breach.new.store) (Ok c.in_ok-root.root)
read c gs m = rw (← full_is (length (held c.args.self.now.roots)) c.is_full.result c.is_full.ensures.decides c.is_full.ensures.room) (c.in_ok-root.ensures.reads gs m)

enters : (c : In_ok-rule) (ns : List Text) (fs : List Formula) → SheetStands c.args.self.now ns fs
    → (f : Formula) × (judged ns (leb 16 (length fs)) (listed fs) c.args.text.now ≡ Ok f) × (c.in_ok-rule.rule ≡ length fs) × PartsStand c.args.self.now.names (nodes_held c.read_breach.new.store) (held c.push.new.self) ns (fs ++ (f ∷ []))
enters c ns fs st =
    let s = c.args.self.now in
    let q = pushed_at s.roots c.push.new.self _ _ _ c.in_ok-rule.ensures.ok_part c.push.ensures in
    let p = one_more_rule s.names (nodes_held s.store) (nodes_held c.read_breach.new.store) (held s.roots) c.in_ok-root.root ns fs c.args.text.now st (read c) in
    (p.0, p.1, q.0 ∙ sym st.count_is, subst (λ (rs : List ℕ). PartsStand s.names (nodes_held c.read_breach.new.store) rs ns (fs ++ (p.0 ∷ []))) (sym q.1) p.2)

pub invariant_of-self-2 : goal.invariant_of-self-2
invariant_of-self-2 c =
    let s = c.args.self.now in
    let new = nodes_held c.read_breach.new.store in
    let w = c.in_ok-root.ensures.longer in
    let m = w.more in
    let r = c.in_ok-root.ensures.room in
    let q = pushed_at s.roots c.push.new.self _ _ _ c.in_ok-rule.ensures.ok_part c.push.ensures in
    record {
      rooted = pushed_roots (λ k. k < length new) (held s.roots) (held c.push.new.self) _ q.1 (λ i h. let b = s.rooted i h in omega arith) r.1;
      kept = pushed_roots (FewKept new) (held s.roots) (held c.push.new.self) _ q.1 (λ i h. few_kept_stays (nodes_held s.store) new w (get_or (held s.roots) i 0) (s.rooted i h) (store_topological s.store) (s.kept i h)) r.2;
      stands = subst (SomeRules s.names new) (sym q.1) (some_rules_more s.names (nodes_held s.store) new (held s.roots) _ c.args.text.now s.stands (read c));
    }

-- what a text that is refused comes to
judging : (c : goal.After-from_residual) (gs : List Formula) → Holds c.args.self.now.store gs → judged (names_held c.args.self.now.names) (leb 16 (length (held c.args.self.now.roots))) gs c.args.text.now ≡ Err c.in_err-root.field-0.0
judging c gs m = rw (← full_is (length (held c.args.self.now.roots)) c.is_full.result c.is_full.ensures.decides c.is_full.ensures.room) (c.in_err-root.ensures.reads gs m)

pub returns-in_err-root-clause-answers : goal.returns-in_err-root-clause-answers
returns-in_err-root-clause-answers c =
    refused_answers c.args.self.now _ (λ ns ts h. h) c.args.text.now _ _ (passed _ c.in_err-root.field-0.0 c.from_residual.ensures.1) (judging c)

pub returns-in_err-root-clause-led : goal.returns-in_err-root-clause-led
returns-in_err-root-clause-led c =
    refused_led c.args.self.now c.args.self.now (λ ns ts h. h) c.args.text.now _ _ (passed _ c.in_err-root.field-0.0 c.from_residual.ensures.1) (judging c)

pub returns-clause-enters : goal.returns-clause-enters
returns-clause-enters c = λ ns fs st. let e = enters (goal.at.returns-clause-enters c).In_ok-rule ns fs (by_parts _ ns fs st) in (e.0, e.1, e.2, of_parts _ ns _ e.3)

pub returns-clause-answers : goal.returns-clause-answers
returns-clause-answers c =
    let s = c.args.self.now in
    accepted_answers (SheetStands s) (PartsStand s.names (nodes_held c.read_breach.new.store) (held c.push.new.self)) (λ ns fs st. st.fit) c.args.text.now c.in_ok-rule.rule (enters (goal.at.returns-clause-answers c).In_ok-rule)

pub returns-clause-led : goal.returns-clause-led
returns-clause-led c =
    let s = c.args.self.now in
    accepted_led (SheetStands s) (PartsStand s.names (nodes_held c.read_breach.new.store) (held c.push.new.self)) (λ ns fs st. st.fit) c.args.text.now c.in_ok-rule.rule (enters (goal.at.returns-clause-led c).In_ok-rule)
