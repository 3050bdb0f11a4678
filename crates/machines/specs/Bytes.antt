-- Bytes are letters. Assumes nothing.
use Rattle.std.specs.Prelude.{ℕ, suc, ◌<◌, List, [], ◌∷◌, slice_index}
use Rattle.logic.specs.Formula.{Letters}

-- a list of numbers below 256 is a list of letters
pub bytes_are_letters : (w : List ℕ) → ((i : ℕ) → slice_index w i < 256) → Letters w
bytes_are_letters [] h = tt
bytes_are_letters (a ∷ w) h = (h 0, bytes_are_letters w (λ i. h (suc i)))
