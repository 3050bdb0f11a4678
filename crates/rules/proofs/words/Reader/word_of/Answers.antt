use Rattle.rules.proofs.OfWords.{word_is}
use Rattle.std.proofs.Common.{rules}
use Rattle.rules.proofs.words.Reader.word_of.Goals as goal

pub returns : goal.returns
returns c = word_is _ _ _ _ c.fixed_word.ensures (search rules)
