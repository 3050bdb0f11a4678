use Rattle.std.proofs.Common.{◌≡◌, ◌∙◌, Some, None, Option, IsSome, sym, refl}
use Rattle.machines.proofs.Asked.{step_none, step_value, step_below}
use Rattle.breaches.proofs.exploration.Exploration.step.Goals as goal

some : {X : Type 0} (o : Option X) → (None ≡ o → ⊥) → IsSome o
some None h = absurd (h refl)
some (Some x) h = refl

pub unwrap-requires : goal.unwrap-requires
unwrap-requires g c =
    let machine = c.args.self.now.machine.now in
    some c.step.result (λ e. step_none (g.M.Machine.meaning machine) c.args.state c.args.k c.requires.state c.requires.step (e ∙ c.step.ensures))

pub returns-clause-value : goal.returns-clause-value
returns-clause-value g c =
    let machine = c.args.self.now.machine.now in
    step_value (g.M.Machine.meaning machine) c.args.state c.args.k c.unwrap.result c.requires.state c.requires.step (sym c.unwrap.ensures ∙ c.step.ensures)

pub returns-clause-inside : goal.returns-clause-inside
returns-clause-inside g c =
    let machine = c.args.self.now.machine.now in
    step_below (g.M.Machine.meaning machine) (g.M.Machine.lawful machine) c.args.state c.args.k c.unwrap.result (sym c.unwrap.ensures ∙ c.step.ensures)
