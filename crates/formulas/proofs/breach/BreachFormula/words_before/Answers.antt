use Rattle.fixed.specs.Held.{held}
use Rattle.fixed.proofs.Held.{held_fits}
use Rattle.formulas.proofs.Placed.{topological}
use Rattle.formulas.proofs.Steps.{all_before}
use Rattle.formulas.proofs.breach.BreachFormula.words_before.Goals as goal

pub returns : goal.returns
returns c =
    let s = c.args.self.now in
    all_before (held s.nodes) _ (held s.kept) _ c.as_slice.ensures.items c.as_slice-kept.ensures.items
    (topological (held s.nodes) (held_fits s.nodes) s.ordered s.signals) s.root s.rooted s.keeps
    c.args.label c.spread-was.result c.all_words.result c.spread-was.ensures c.all_words.ensures
