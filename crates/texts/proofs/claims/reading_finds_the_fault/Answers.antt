use Rattle.texts.proofs.OfReader.{reading_finds_the_fault}
use Rattle.texts.proofs.claims.reading_finds_the_fault.Goals as goal

pub returns : goal.returns
returns c = reading_finds_the_fault
