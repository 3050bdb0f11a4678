use Rattle.logic.proofs.Agreeing.{only_named_signals_count}
use Rattle.logic.proofs.only_the_named_signals_of_letters_count.Goals as goal

pub returns : goal.returns
returns c = only_named_signals_count
