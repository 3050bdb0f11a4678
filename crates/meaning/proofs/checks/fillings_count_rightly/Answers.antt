use Rattle.meaning.proofs.OfSettings.{fillings_count_rightly}
use Rattle.meaning.proofs.checks.fillings_count_rightly.Goals as goal

pub returns : goal.returns
returns c = fillings_count_rightly
