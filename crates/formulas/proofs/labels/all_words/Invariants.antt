use Rattle.std.proofs.Common.{◌≡◌, ℕ, ◌<◌, [], length, get_or}
use Rattle.formulas.specs.Values.{KeptValued}
use Rattle.formulas.proofs.labels.all_words.Given as goal

abbrev pub invariant-loop-group : goal.invariant-loop-group
invariant-loop-group l =
    (length l.groups ≡ 4)
    × ((g : ℕ) → g < l.group → KeptValued l.nodes l.keep g l.was (get_or l.groups g []))
