-- A set of numbers below 512 as eight words of 64 bits. Assumes nothing.
use Rattle.std.specs.Prelude.{◌≡◌, ℕ, zero, suc, ◌*◌, ◌/◌, ◌%◌, ◌<◌, Bool, false, ◌&&◌, List, [], ◌∷◌, length, nat_lt, slice_index, slice_index_or}
use Rattle.logic.specs.Formula.{on}
use Rattle.logic.specs.Masks.{mask}

-- whether i is in the set
unfoldable pub bit_of : List ℕ → ℕ → Bool
bit_of r i = on (i % 64) (slice_index r (i / 64))

-- the tests at i, i + 1, .., n of them
unfoldable pub bits : (ℕ → Bool) → ℕ → ℕ → List Bool
bits p i zero = []
bits p i (suc n) = p i ∷ bits p (suc i) n

-- r is the set of the numbers that pass p
pub record Packs (p : ℕ → Bool) (r : List ℕ) : Type 0 where
  pub word : (w : ℕ) → w < 8 → slice_index r w ≡ mask (bits p (w * 64) 64)

-- flags for the numbers below n
pub record Flags (p : ℕ → Bool) (n : ℕ) (flags : List Bool) : Type 0 where
  pub size : length flags ≡ 512
  pub at : (i : ℕ) → i < n → slice_index_or flags i false ≡ p i

-- p, of the numbers below n only
abbrev pub upto : ℕ → (ℕ → Bool) → ℕ → Bool
upto n p i = nat_lt i n && p i
