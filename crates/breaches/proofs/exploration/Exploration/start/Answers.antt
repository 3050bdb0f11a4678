use Rattle.std.proofs.Common.{◌∙◌, IsSome, refl, sym, subst}
use Rattle.std.proofs.lemmas.Option.{slice_get-get_or}
use Rattle.machines.proofs.Asked.{start_value, start_below}
use Rattle.breaches.proofs.exploration.Exploration.start.Goals as goal

pub unwrap-requires : goal.unwrap-requires
unwrap-requires g c = subst IsSome (sym (c.start.ensures ∙ slice_get-get_or (g.M.Machine.meaning c.args.self.now.machine.now).starts c.args.k 0 c.requires)) refl

pub returns-clause-value : goal.returns-clause-value
returns-clause-value g c = start_value (g.M.Machine.meaning c.args.self.now.machine.now) c.args.k c.unwrap.result c.requires (sym c.unwrap.ensures ∙ c.start.ensures)

pub returns-clause-inside : goal.returns-clause-inside
returns-clause-inside g c =
    let machine = c.args.self.now.machine.now in
    start_below (g.M.Machine.meaning machine) (g.M.Machine.lawful machine) c.args.k c.unwrap.result (sym c.unwrap.ensures ∙ c.start.ensures)
