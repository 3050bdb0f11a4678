use Rattle.meaning.proofs.OfPlaces.{faults_are_told_by_words}
use Rattle.meaning.proofs.checks.faults_are_told_by_words.Goals as goal

pub returns : goal.returns
returns c = faults_are_told_by_words
