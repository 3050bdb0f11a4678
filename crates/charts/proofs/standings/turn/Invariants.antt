use Rattle.std.proofs.Common.{◌≡◌, ℕ, ◌+◌, ◌*◌, ◌<◌, length, get_or}
use Rattle.charts.proofs.standings.turn.Given as goal

abbrev pub invariant-loop-letter : goal.invariant-loop-letter
invariant-loop-letter l =
    (length l.columns ≡ length l.initial.columns)
    × ((s : ℕ) → s < l.letter → (k : ℕ) → k < l.count → get_or l.columns (s * 512 + k) 0 ≡ get_or l.table (k * 256 + s) 0)
