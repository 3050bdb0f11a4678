use Rattle.std.proofs.Common.{eqb, ◌++◌, sym, ap, ◌∙◌, subst, rules, tests}
use Rattle.std.proofs.lemmas.List.Sorted.{answers_always}
use Rattle.texts.specs.Fit.{Fit}
use Rattle.rules.specs.Names.{names_held}
use Rattle.rules.proofs.OfOpening.{part_taken, part_held}
use Rattle.rules.proofs.names.opening.read_names.Goals as goal

pub loop-word-preserved : goal.loop-word-preserved
loop-word-preserved c =
    let i = c.loop-word.invariant in
    let s = c.in-Some.ensures.steps in
    let j = c.in_ok-names.ensures i.3 in
    (search rules, tt, part_held _ _ _ _ _ _ i.2 (part_taken _ _ _ _ _ s.0 s.1 (s.2 (λ b. eqb b 44) (answers_always _ _ _ (λ f a r g h. search (rules, tests)))).1) j.0, subst Fit (sym j.0) j.1)

pub returns-in_err-names : goal.returns-in_err-names
returns-in_err-names c =
    let i = c.loop-word.invariant in
    let s = c.in-Some.ensures.steps in
    rw c.from_residual.ensures (λ f. c.in_err-names.ensures i.3 _ (subst Fit (i.2 ∙ ap (λ v. names_held c.loop-word.names ++ v) (part_taken _ _ _ _ _ s.0 s.1 (s.2 (λ b. eqb b 44) (answers_always _ _ _ (λ f a r g h. search (rules, tests)))).1)) f))
