use Rattle.texts.proofs.OfFaults.{wrong_words_follow_a_beginning}
use Rattle.texts.proofs.claims.wrong_words_follow_a_beginning.Goals as goal

pub returns : goal.returns
returns c = wrong_words_follow_a_beginning
