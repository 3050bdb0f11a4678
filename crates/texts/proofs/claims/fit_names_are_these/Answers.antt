use Rattle.texts.proofs.OfFit.{fit_names_are_these}
use Rattle.texts.proofs.claims.fit_names_are_these.Goals as goal

pub returns : goal.returns
returns c = fit_names_are_these
