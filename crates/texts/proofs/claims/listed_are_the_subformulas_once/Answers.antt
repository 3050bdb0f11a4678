use Rattle.texts.proofs.OfCounts.{listed_are_the_subformulas_once}
use Rattle.texts.proofs.claims.listed_are_the_subformulas_once.Goals as goal

pub returns : goal.returns
returns c = listed_are_the_subformulas_once
