use Rattle.std.proofs.Common.{◌≡◌, ℕ, ◌<◌, length, get_or}
use Rattle.formulas.proofs.labels.kept_words.Given as goal

abbrev pub invariant-loop-j : goal.invariant-loop-j
invariant-loop-j l = (length l.words ≡ 32) × ((i : ℕ) → i < l.j → get_or l.words i 0 ≡ get_or l.holds (get_or l.keep i 0) 0)
