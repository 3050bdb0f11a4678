use Rattle.std.proofs.Common.{◌≡◌, ◌<◌, ◌≢◌, length, ◌∙◌, rules, MatchOption}
use Rattle.std.specs.List.{AllWithin, HoldsAt}
use Rattle.rules.proofs.OfNames.{length_by}
use Rattle.rules.proofs.words.length_to.Goals as goal

pub returns-clause-is : goal.returns-clause-is
returns-clause-is c =
    let xs = c.args.text.now in
    let p : MatchOption c.position.result (AllWithin (λ x. x ≢ c.args.stop) xs 0 (length xs)) (λ i. (i < length xs) × HoldsAt (λ x. x ≡ c.args.stop) xs i × AllWithin (λ x. x ≢ c.args.stop) xs 0 i) = search rules in
    c.unwrap_or.ensures ∙ length_by c.args.stop xs c.position.result p
