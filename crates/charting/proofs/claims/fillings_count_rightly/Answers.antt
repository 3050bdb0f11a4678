use Rattle.charting.proofs.OfAnswers.{fillings_are_right}
use Rattle.charting.proofs.claims.fillings_count_rightly.Goals as goal

pub returns : goal.returns
returns c = fillings_are_right
