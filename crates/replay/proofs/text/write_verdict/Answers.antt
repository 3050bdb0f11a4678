use Rattle.std.proofs.Common.{◌≡◌, take, ap, ◌∙◌}
use Rattle.std.proofs.lemmas.List.{take_min}
use Rattle.replay.proofs.text.write_verdict.Goals as goal

pub returns-in-Shown : goal.returns-in-Shown
returns-in-Shown g c =
    let front : take c.min.result c.args.walk.now ≡ take c.in-Shown.states c.args.walk.now =
    ap (λ n. take n c.args.walk.now) c.min.ensures ∙ take_min c.in-Shown.states c.args.walk.now in
    rw c.in-Shown.is (rw front at c.write_shown.ensures)
