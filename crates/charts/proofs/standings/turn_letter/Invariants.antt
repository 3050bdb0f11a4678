use Rattle.std.proofs.Common.{◌≡◌, ℕ, ◌+◌, ◌*◌, ◌<◌, length, get_or}
use Rattle.charts.proofs.standings.turn_letter.Given as goal

abbrev pub invariant-loop-i : goal.invariant-loop-i
invariant-loop-i l =
    (length l.columns ≡ length l.initial.columns)
    × ((k : ℕ) → k < l.i → get_or l.columns (l.letter * 512 + k) 0 ≡ get_or l.table (k * 256 + l.letter) 0)
    × ((k : ℕ) → k < l.letter * 512 → get_or l.columns k 0 ≡ get_or l.initial.columns k 0)
