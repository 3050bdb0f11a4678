use Rattle.texts.proofs.OfEntered.{judging_answers_rightly}
use Rattle.texts.proofs.claims.judging_answers_rightly.Goals as goal

pub returns : goal.returns
returns c = judging_answers_rightly
