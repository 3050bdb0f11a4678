use Rattle.std.proofs.Common.{◌≡◌, length, ◌∙◌, rules}
use Rattle.texts.proofs.OfWords.{long_is, one_is}
use Rattle.rules.proofs.words.fixed_word.Goals as goal

pub returns-in-len1 : goal.returns-in-len1
returns-in-len1 c =
    let l : length c.args.word.now ≡ 1 = search rules in
    c.operator.ensures ∙ one_is c.args.word.now l

pub returns-in_default : goal.returns-in_default
returns-in_default c =
    let l : length c.args.word.now ≡ 1 → ⊥ = search rules in
    c.long_word.ensures ∙ long_is c.args.word.now l
