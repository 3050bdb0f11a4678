use Rattle.std.proofs.Common.{◌≡◌, ◌++◌, length, List, ℕ}
use Rattle.std.specs.Option.{option_map}
use Rattle.meaning.specs.Bytes.{parted}
use Rattle.logs.specs.Told.{bytes_in}
use Rattle.logs.proofs.fields.bytes.Given as goal

abbrev pub invariant-loop-part : goal.invariant-loop-part
invariant-loop-part l = bytes_in (parted 32 l.fn.text) ≡ option_map (λ (ns : List ℕ). l.numbers.items ++ ns) (bytes_in (parted 32 l.rest))

abbrev pub decreases-loop-part : goal.decreases-loop-part
decreases-loop-part l = length l.rest
