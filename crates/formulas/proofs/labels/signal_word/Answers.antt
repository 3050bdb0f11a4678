use Rattle.std.proofs.Common.{◌≡◌, ◌∙◌, arith}
use Rattle.formulas.proofs.Words.{signal_0, signal_1, signal_2, signal_3, signal_4, signal_5, signal_6, signal_7}
use Rattle.formulas.proofs.labels.signal_word.Goals as goal

pub returns-in-0 : goal.returns-in-0
returns-in-0 c = λ b l. rw c.in-0.is (signal_0 c.args.group b c.requires.group l)

pub returns-in-1 : goal.returns-in-1
returns-in-1 c = λ b l. rw c.in-1.is (signal_1 c.args.group b c.requires.group l)

pub returns-in-2 : goal.returns-in-2
returns-in-2 c = λ b l. rw c.in-2.is (signal_2 c.args.group b c.requires.group l)

pub returns-in-3 : goal.returns-in-3
returns-in-3 c = λ b l. rw c.in-3.is (signal_3 c.args.group b c.requires.group l)

pub returns-in-4 : goal.returns-in-4
returns-in-4 c = λ b l. rw c.in-4.is (signal_4 c.args.group b c.requires.group l)

pub returns-in-5 : goal.returns-in-5
returns-in-5 c = λ b l. rw c.in-5.is (signal_5 c.args.group b c.requires.group l)

pub returns-in-6 : goal.returns-in-6
returns-in-6 c = λ b l. c.everywhere.ensures b l ∙ rw c.in-6.is (signal_6 c.args.group b c.requires.group l)

pub returns-in_default : goal.returns-in_default
returns-in_default c = λ b l.
    let e : c.args.index ≡ 7 = omega arith in
    c.everywhere-in_default.ensures b l ∙ rw e (signal_7 c.args.group b c.requires.group l)
