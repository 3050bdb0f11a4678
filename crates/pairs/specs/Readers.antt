-- Walks as a deterministic table reads them: their standings, pairs and breaches. Assumes nothing.
use Rattle.std.specs.Prelude.{◌≡◌, ℕ, ◌<◌, ◌≤◌, Bool, true, List, length}
use mathlib.Core.List.{foldl}
use Rattle.meaning.specs.Machines.{Meaning}
use Rattle.meaning.specs.Walks.{Walk, word, last, front}

-- a deterministic table: the next standing by standing and letter, and what it says of a standing
pub record Reader : Type 0 where
  pub next : ℕ → ℕ → ℕ
  pub says : ℕ → Bool

-- the standing after a word
abbrev pub after : Reader → List ℕ → ℕ
after r u = foldl r.next 0 u

-- the standing after the letters before the last state
abbrev pub standing_of : Meaning → Reader → List ℕ → ℕ
standing_of m r xs = after r (word m (front xs))

-- two walks have the same pair
abbrev pub SamePair : Meaning → Reader → List ℕ → List ℕ → Type 0
SamePair m r xs ys = (last xs ≡ last ys) × (standing_of m r xs ≡ standing_of m r ys)

-- the table says breach after the whole word
abbrev pub Broken : Meaning → Reader → List ℕ → Type 0
Broken m r xs = r.says (after r (word m xs)) ≡ true

-- a walk after which the table says breach
abbrev pub Breach : Meaning → Reader → List ℕ → Type 0
Breach m r xs = Walk m xs × Broken m r xs

-- the walks of which P holds have n different pairs
pub record Pairs (m : Meaning) (r : Reader) (P : List ℕ → Type 0) (n : ℕ) : Type 0 where
  -- a walk of each pair, by the pair's number
  pub walk : ℕ → List ℕ
  pub walks : (i : ℕ) → i < n → Walk m (walk i) × P (walk i)
  pub differ : (i j : ℕ) → i < j → j < n → SamePair m r (walk i) (walk j) → ⊥
  pub covers : (xs : List ℕ) → Walk m xs → P xs → (i : ℕ) × (i < n) × SamePair m r xs (walk i)

-- the different pairs of the walks of which P holds are no more than room
abbrev pub Fit : Meaning → Reader → ℕ → (List ℕ → Type 0) → Type 0
Fit m r room P = (n : ℕ) × (n ≤ room) × Pairs m r P n

-- a walk has fewer than k states
abbrev pub Shorter : ℕ → List ℕ → Type 0
Shorter k ys = length ys < k

-- no bound: every walk
abbrev pub AnyWalk : List ℕ → Type 0
AnyWalk ys = Unit {0}

-- xs is a breach, and no breach has fewer states
pub record Shortest (m : Meaning) (r : Reader) (xs : List ℕ) : Type 0 where
  pub breach : Breach m r xs
  pub least : (ys : List ℕ) → Breach m r ys → length xs ≤ length ys

-- a walk is to be shown: there is a breach, and the pairs of all walks shorter than the shortest fit
pub record Showable (m : Meaning) (r : Reader) (room : ℕ) : Type 0 where
  pub walk : List ℕ
  pub shortest : Shortest m r walk
  pub fit : Fit m r room (Shorter (length walk))

-- clear is to be said: no walk is a breach, and the pairs of all walks fit
pub record Clearable (m : Meaning) (r : Reader) (room : ℕ) : Type 0 where
  pub none : (ys : List ℕ) → Breach m r ys → ⊥
  pub fit : Fit m r room AnyWalk
