use denote.Ref.{MutBor}
use Rattle.std.specs.Prelude.{◌≡◌, ℕ, ◌+◌, ◌*◌, ◌%◌, ◌^◌, ◌<◌, ◌≤◌, ◌⊎◌, List, length, Some, None, Option, slice_index, slice_index_or, slice_set}

-- no two of the first n entries are the same item
pub record Apart {X : Type 0} (alike : X → X → Type 0) (xs : List X) (n : ℕ) : Type 0 where
  pub differ : (i j : ℕ) (d : X) → i < j → j < n → alike (slice_index_or xs i d) (slice_index_or xs j d) → ⊥

-- none of the first n entries is the same item as x
abbrev pub New : {X : Type 0} → (X → X → Type 0) → List X → ℕ → X → Type 0
New {X} alike xs n x = (k : ℕ) (d : X) → k < n → alike (slice_index_or xs k d) x → ⊥

-- entry k is one of the first n, and the same item as x
abbrev pub At : {X : Type 0} → (X → X → Type 0) → List X → ℕ → X → ℕ → Type 0
At {X} alike xs n x k = (k < n) × ((d : X) → alike (slice_index_or xs k d) x)

-- what an addition of x to the first n of xs answers, and the area and the count after it
abbrev pub Adds : {X : Type 0} → (X → X → Type 0) → List X → ℕ → X → Option ℕ → List X → ℕ → Type 0
Adds alike xs n x None ys m = New alike xs n x × (n ≡ length xs) × (ys ≡ xs) × (m ≡ n)
Adds alike xs n x (Some k) ys m =
    (At alike xs n x k × (ys ≡ xs) × (m ≡ n))
    ⊎ (New alike xs n x × (n < length xs) × (k ≡ n) × (ys ≡ slice_set xs n x) × (m ≡ n + 1))

-- ys with m items at its front has the n of xs first, and is as xs is from its own m on
pub record Grows {X : Type 0} (xs : List X) (n : ℕ) (ys : List X) (m : ℕ) : Type 0 where
  pub more : n ≤ m
  pub stays : (k : ℕ) (d : X) → k < n → slice_index_or ys k d ≡ slice_index_or xs k d
  pub rest : (k : ℕ) (d : X) → m ≤ k → slice_index_or ys k d ≡ slice_index_or xs k d

-- the n items at the front of a lent area go on as the m at the front of another: it is the same loan of the same length,
-- the n are still first, and there are no doubles if there were none
pub record GoesOn {X : Type 0} (alike : X → X → Type 0) (a : MutBor (List X)) (n : ℕ) (b : MutBor (List X)) (m : ℕ) : Type 0 where
  pub lent : b.ghost_name ≡ a.ghost_name
  pub size : length b.now ≡ length a.now
  pub grows : Grows a.now n b.now m
  pub apart : Apart alike a.now n → Apart alike b.now m

-- two records of eight words are the same
pub record SameWords (xs ys : List ℕ) : Type 0 where
  pub at : (k : ℕ) → k < 8 → slice_index xs k ≡ slice_index ys k

-- a number with one word more mixed in, in 64 bits
abbrev pub mix : ℕ → ℕ → ℕ
mix number word = (number * 31 % 2 ^ 64 + word) % 2 ^ 64

-- eight words mixed into one number
abbrev pub mixed : List ℕ → ℕ
mixed xs =
    let at = slice_index xs in
    mix (mix (mix (mix (mix (mix (mix (at 0) (at 1)) (at 2)) (at 3)) (at 4)) (at 5)) (at 6)) (at 7)
