use Rattle.meaning.proofs.OfPlaces.{words_tell_one_fault}
use Rattle.meaning.proofs.checks.words_tell_one_fault.Goals as goal

pub returns : goal.returns
returns c = words_tell_one_fault
