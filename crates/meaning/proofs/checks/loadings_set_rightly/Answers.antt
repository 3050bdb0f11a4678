use Rattle.meaning.proofs.OfSettings.{loadings_set_rightly}
use Rattle.meaning.proofs.checks.loadings_set_rightly.Goals as goal

pub returns : goal.returns
returns c = loadings_set_rightly
