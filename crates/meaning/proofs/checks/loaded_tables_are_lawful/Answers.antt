use Rattle.meaning.proofs.OfLaws.{loaded_tables_are_lawful}
use Rattle.meaning.proofs.checks.loaded_tables_are_lawful.Goals as goal

pub returns : goal.returns
returns c = loaded_tables_are_lawful
