use Rattle.std.proofs.Common.{◌≡◌, Some, Ok, Err, sym, ap, ◌∙◌, arith, true-eqb, false-eqb}
use Rattle.texts.proofs.OfWords.{heads_none, heads_some, none_at, zero_at}
use Rattle.rules.specs.Names.{names_held}
use Rattle.rules.proofs.Faults.{passed, was_none}
use Rattle.rules.proofs.OfWords.{heads_err, operator_deep, operator_at, operator_above}
use Rattle.texts.specs.Words.{heads, allowed}
use Rattle.rules.proofs.words.Reader.next_word.Goals as goal
use Rattle.rules.proofs.words.Reader.next_word.Goals.{After-word_of}

-- where a word was read
found : (c : After-word_of) → heads (names_held c.args.self.now.names) c.args.self.now.total c.args.depth c.args.rest.now ≡ allowed c.place-place.result c.args.depth c.word_of.result c.split_at.result.1.now
found c =
    heads_some _ _ _ _ _ _ _ _ _ c.place-place.ensures (false-eqb _ 0 c.if-is_empty.ensures) c.length_to.ensures.is c.split_at.ensures.front c.split_at.ensures.back c.word_of.ensures

pub returns-then-is_empty-clause-is : goal.returns-then-is_empty-clause-is
returns-then-is_empty-clause-is c = heads_none _ _ _ _ (true-eqb _ 0 c.if-is_empty.ensures)

pub returns-in_err-word-clause-is : goal.returns-in_err-word-clause-is
returns-in_err-word-clause-is c =
    let n = was_none c.word_of.result _ _ c.in_err-word.ensures.value in
    heads_err _ _ _ _ c.from_residual.result _ (passed _ c.in_err-word.field-0.0 c.from_residual.ensures.1 ∙ ap Err n.1) (none_at _ _ _ _ (found (goal.at.returns-in_err-word-clause-is c).After-word_of) n.0)

pub returns-in-Zero-clause-is : goal.returns-in-Zero-clause-is
returns-in-Zero-clause-is c =
    zero_at _ _ _ _ _ (found (goal.at.returns-in-Zero-clause-is c).After-word_of) (c.in_ok-word.ensures.ok_part ∙ ap Some c.in-Zero.is) ∙ ap (λ w. Ok (w, c.split_at.result.1.now)) (sym c.in-Zero.is)

pub returns-in-One : goal.returns-in-One
returns-in-One c = record { is = operator_deep _ _ _ _ _ (found (goal.at.returns-in-One c).After-word_of) c.in_ok-word.ensures.ok_part c.in-One.is c.if-depth-eq0.true; above = tt }

pub returns-in-One-2 : goal.returns-in-One-2
returns-in-One-2 c =
    record { is = operator_at _ _ _ _ _ _ (found (goal.at.returns-in-One-2 c).After-word_of) c.in_ok-word.ensures.ok_part c.in-One-2.is c.if-depth-eq0.false c.skip_space.ensures; above = operator_above _ _ c.in-One-2.is (omega arith) }
