-- Sets of labels by a table of the labels one letter earlier. Assumes nothing.
use Rattle.std.specs.Prelude.{◌≡◌, ℕ, ◌+◌, ◌*◌, ◌<◌, ◌≤◌, Bool, List, [], ◌∷◌, ◌++◌, length, slice_index}
use Rattle.once.specs.Once.{SameWords}
use Rattle.charting.specs.Sets.{bit_of, Packs, upto}
use Rattle.charting.specs.Worklists.{Reaches, Complete, Overflows}

-- each entry of the rows below a is below a
pub record Closed (tb : List ℕ) (a : ℕ) : Type 0 where
  pub room : a * 256 ≤ length tb
  pub few : a ≤ 512
  pub below : (k : ℕ) → k < a * 256 → slice_index tb k < a

-- the rows below a as columns of 512, one for each letter
pub record Turned (tb : List ℕ) (a : ℕ) (columns : List ℕ) : Type 0 where
  pub at : (s i : ℕ) → s < 256 → i < a → slice_index columns (s * 512 + i) ≡ slice_index tb (i * 256 + s)

-- the number of the label of u with a word of label i after it
abbrev pub trace : List ℕ → List ℕ → ℕ → ℕ
trace tb [] i = i
trace tb (s ∷ u) i = slice_index tb (trace tb u i * 256 + s)

-- the labels that lead to one of the set r at a letter s
abbrev pub led : List ℕ → ℕ → List ℕ → ℕ → ℕ → Bool
led tb a r s = upto a (λ i. bit_of r (slice_index tb (i * 256 + s)))

-- r is the set of the labels which u leads back to one of the first set
abbrev pub Reached : List ℕ → ℕ → List ℕ → List ℕ → List ℕ → Type 0
Reached tb a first u r = Packs (upto a (λ i. bit_of first (trace tb u i))) r

-- each of the first n of st is reached by a word
abbrev pub Walks : List ℕ → ℕ → List ℕ → List (List ℕ) → ℕ → Type 0
Walks tb a first st n = Reaches [] (Reached tb a first) st n

-- a word with a letter after it
abbrev pub at_end : ℕ → List ℕ → List ℕ
at_end s u = u ++ s ∷ []

-- the first n of st are the sets that all words reach, each once, the empty word's first; and the next numbers are whole
abbrev pub Charted : List ℕ → ℕ → List ℕ → List (List ℕ) → ℕ → List ℕ → Type 0
Charted tb a first st n nx = Complete SameWords [] (Reached tb a first) at_end st n nx

-- there are more sets than fit: the list is full, without doubles, and another set is reached
abbrev pub Overfull : List ℕ → ℕ → List ℕ → ℕ → Type 0
Overfull tb a first room = Overflows SameWords [] (Reached tb a first) room
