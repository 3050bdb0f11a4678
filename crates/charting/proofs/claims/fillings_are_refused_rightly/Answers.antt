use Rattle.charting.proofs.OfAnswers.{refusals_are_right}
use Rattle.charting.proofs.claims.fillings_are_refused_rightly.Goals as goal

pub returns : goal.returns
returns c = refusals_are_right
