use Rattle.std.proofs.Common.{◌≡◌, ◌<◌, ◌≢◌, length, rules, MatchOption}
use Rattle.std.specs.List.{AllWithin, HoldsAt}
use Rattle.fixed.specs.Held.{held}
use Rattle.rules.specs.Names.{letters_of}
use Rattle.rules.proofs.OfNames.{place_is}
use Rattle.rules.proofs.names.Names.place.Goals as goal

pub returns : goal.returns
returns c =
    let w = c.args.word.now in
    let xs = held c.args.self.now.list in
    let p : MatchOption c.position.result (AllWithin (λ n. letters_of n ≢ w) xs 0 (length xs)) (λ i. (i < length xs) × HoldsAt (λ n. letters_of n ≡ w) xs i × AllWithin (λ n. letters_of n ≢ w) xs 0 i) = search rules in
    place_is w xs c.position.result c.map.result p (search rules)
