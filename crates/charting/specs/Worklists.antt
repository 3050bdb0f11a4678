-- Lists of what words lead to, each item kept once, and the numbers one letter on. Assumes nothing.
-- `In u x` says that the word u leads to the item x, `more s u` is the word u with the letter s, and d stands where a list has no entry.
use Rattle.std.specs.Prelude.{◌≡◌, ℕ, ◌+◌, ◌*◌, ◌<◌, ◌≤◌, List, [], length, slice_index, slice_index_or}
use Rattle.logic.specs.Formula.{Letters}
use Rattle.once.specs.Once.{Apart}

-- at most 512 items have room, and the next numbers have a row for each
pub record Rooms {X : Type 0} (xs : List X) (nx : List ℕ) : Type 0 where
  pub few : length xs ≤ 512
  pub room : length xs * 256 ≤ length nx

-- a word leads to each of the first n
pub record Reaches {X : Type 0} (d : X) (In : List ℕ → X → Type 0) (xs : List X) (n : ℕ) : Type 0 where
  pub at : (k : ℕ) → k < n → (u : List ℕ) × Letters u × In u (slice_index_or xs k d)

-- row q of the next numbers names, for the letters below b, what is reached by one letter more
pub record LetterRow {X : Type 0} (d : X) (In : List ℕ → X → Type 0) (more : ℕ → List ℕ → List ℕ) (xs : List X) (n : ℕ) (nx : List ℕ) (q b : ℕ) : Type 0 where
  pub below : (s : ℕ) → s < b → slice_index nx (q * 256 + s) < n
  pub names : (s : ℕ) → s < b → (u : List ℕ) → In u (slice_index_or xs q d) → In (more s u) (slice_index_or xs (slice_index nx (q * 256 + s)) d)

-- the first m rows name, for each letter, what is reached by one letter more
pub record LetterRows {X : Type 0} (d : X) (In : List ℕ → X → Type 0) (more : ℕ → List ℕ → List ℕ) (xs : List X) (n : ℕ) (nx : List ℕ) (m : ℕ) : Type 0 where
  pub at : (q : ℕ) → q < m → LetterRow d In more xs n nx q 256

-- the n items fill the area, and a word leads to another
pub record Crowds {X : Type 0} (alike : X → X → Type 0) (d : X) (In : List ℕ → X → Type 0) (xs : List X) (n : ℕ) : Type 0 where
  pub filled : n ≡ length xs
  pub word : List ℕ
  pub letters : Letters word
  pub set : X
  pub reached : In word set
  pub new : (k : ℕ) → k < n → alike (slice_index_or xs k d) set → ⊥

-- the first n of xs are what all words lead to, each once, the empty word's first; and the next numbers are whole
pub record Complete {X : Type 0} (alike : X → X → Type 0) (d : X) (In : List ℕ → X → Type 0) (more : ℕ → List ℕ → List ℕ) (xs : List X) (n : ℕ) (nx : List ℕ) : Type 0 where
  pub fits : n ≤ length xs
  pub some : 0 < n
  pub apart : Apart alike xs n
  pub walks : Reaches d In xs n
  pub empty : In [] (slice_index_or xs 0 d)
  pub rows : LetterRows d In more xs n nx n

-- there are more items than fit: the list is full, without doubles, and a word leads to another
pub record Overflows {X : Type 0} (alike : X → X → Type 0) (d : X) (In : List ℕ → X → Type 0) (room : ℕ) : Type 0 where
  pub sets : List X
  pub apart : Apart alike sets room
  pub walks : Reaches d In sets room
  pub more : Crowds alike d In sets room
