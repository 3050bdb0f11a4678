use Rattle.std.proofs.Common.{◌≡◌, ℕ, ◌*◌, ◌<◌, Bool, get_or}
use Rattle.logic.specs.Masks.{mask}
use Rattle.charting.specs.Sets.{bits, upto}
use Rattle.charts.proofs.standings.pack.Given as goal

abbrev pub invariant-loop-w : goal.invariant-loop-w
invariant-loop-w g l = (p : ℕ → Bool) → ((i : ℕ) (r : Bool) → i < l.count → goal.F-post g l.test i r → r ≡ p i) → (k : ℕ) → k < l.w → get_or l.word-items k 0 ≡ mask (bits (upto l.count p) (k * 64) 64)
