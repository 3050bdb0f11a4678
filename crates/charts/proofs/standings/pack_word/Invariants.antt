use Rattle.std.proofs.Common.{◌≡◌, ℕ, ◌-◌, ◌*◌, ◌^◌, ◌<◌, Bool, drop}
use Rattle.logic.specs.Masks.{mask}
use Rattle.charting.specs.Sets.{bits, upto}
use Rattle.charts.proofs.standings.pack_word.Given as goal

abbrev pub invariant-loop-b : goal.invariant-loop-b
invariant-loop-b g l =
    (l.word < 2 ^ (64 - l.b))
    × ((p : ℕ → Bool) → ((i : ℕ) (r : Bool) → i < l.count → goal.F-post g l.test i r → r ≡ p i) → l.word ≡ mask (drop l.b (bits (upto l.count p) (l.w * 64) 64)))
