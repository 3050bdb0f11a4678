use Rattle.std.proofs.Common.{◌∙◌, rules}
use Rattle.texts.proofs.OfWords.{wrong_bytes}
use Rattle.rules.proofs.words.long_word.Goals as goal

pub returns-in_err-ok : goal.returns-in_err-ok
returns-in_err-ok c = c.from_residual.ensures ∙ wrong_bytes c.args.word.now (search rules)
