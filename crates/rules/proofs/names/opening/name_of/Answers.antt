use Rattle.std.proofs.Common.{◌≡◌, ◌≤◌, length, None, false-eqb, true-eqb, rules, arith}
use Rattle.texts.specs.Words.{fixed_word}
use Rattle.texts.proofs.OfOpening.{name_fits}
use Rattle.rules.proofs.OfOpening.{fixed_unfit_some}
use Rattle.rules.proofs.names.opening.name_of.Goals as goal
use Rattle.rules.proofs.names.opening.name_of.Goals.{then-is_empty-via-then-is_empty, then-is_empty-via-else-is_empty+then-not-is_lowercase, then-is_empty-via-else-is_empty+else-not-is_lowercase+then-is_some}

pub returns-then-is_empty : goal.returns-then-is_empty
returns-then-is_empty c = λ f. elim c.then-is_empty.branch [
  | then-is_empty-via-then-is_empty w ↦ (let e = true-eqb _ 0 w.if-is_empty.ensures in let s = f.some in omega arith)
  | then-is_empty-via-else-is_empty+then-not-is_lowercase w ↦ w.if-not-is_lowercase.ensures f.lower
  | then-is_empty-via-else-is_empty+else-not-is_lowercase+then-is_some w ↦ fixed_unfit_some _ _ w.fixed_word.ensures w.if-is_some.ensures f
]

pub returns : goal.returns
returns c =
    let n : None ≡ fixed_word c.args.word.now = search rules in
    let h : length c.args.word.now ≤ 8 = search rules in
    (search rules, name_fits _ (false-eqb _ 0 c.if-is_empty.ensures) h c.if-not-is_lowercase.ensures n)
