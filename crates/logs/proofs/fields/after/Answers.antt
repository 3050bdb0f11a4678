use Rattle.std.proofs.lemmas.Bool.Decides.{Decides-eqb}
use Rattle.std.proofs.lemmas.Slice.Eq.{strip_prefix_is}
use Rattle.logs.proofs.ReadWords.{after_is}
use Rattle.logs.proofs.fields.after.Goals as goal

pub returns : goal.returns
returns c = after_is c.args.word.now c.args.text.now _ (strip_prefix_is Decides-eqb c.args.text.now c.args.word.now _ c.strip_prefix.ensures.cases)
