-- The value of each node at a letter. Assumes nothing.
use Rattle.std.specs.Prelude.{◌≡◌, ℕ, ◌+◌, ◌*◌, ◌/◌, ◌%◌, ◌<◌, Bool, true, false, ◌&&◌, ◌||◌, List, [], ◌∷◌, map, take, length, slice_index, slice_index_or}
use Rattle.std.specs.Bool.{beq}
use Rattle.logic.specs.Formula.{on}
use Rattle.logic.specs.Sat.{sat}
use Rattle.logic.specs.Masks.{mask}
use Rattle.formulas.specs.declared.node.Node.{Node}
use Rattle.formulas.specs.declared.node.Node.TheVariants.{True, False, Signal, And, Or, Next, Until, Release}
use Rattle.formulas.specs.Nodes.{formula}
use Rattle.formulas.specs.Keeps.{Under, KeptNode, Before}

-- the value of node k at a letter s, from those of its parts and from what was so after the letter
abbrev pub value : ℕ → List Bool → List Bool → ℕ → Node → Bool
value s was holds k True = true
value s was holds k False = false
value s was holds k (Signal i p) = beq (on i s) p
value s was holds k (And a b) = slice_index_or holds a false && slice_index_or holds b false
value s was holds k (Or a b) = slice_index_or holds a false || slice_index_or holds b false
value s was holds k (Next a) = slice_index_or was a false
value s was holds k (Until a b) = slice_index_or holds b false || (slice_index_or holds a false && slice_index_or was k false)
value s was holds k (Release a b) = slice_index_or holds b false && (slice_index_or holds a false || slice_index_or was k false)

-- the bits of a label, each at the number of its node, for the first n
pub record Spread (xs : List ℕ) (n label : ℕ) (was : List Bool) : Type 0 where
  pub size : length was ≡ 256
  pub at : (p : ℕ → Bool) → ((j : ℕ) → j < length xs → on j label ≡ p (slice_index xs j)) → (j : ℕ) → j < n → slice_index_or was (slice_index xs j) false ≡ p (slice_index xs j)

-- the values of the nodes below n, for each word that the bits `was` are right of
pub record Valued (ns : List Node) (letter : ℕ) (was : List Bool) (n : ℕ) (holds : List Bool) : Type 0 where
  pub size : length holds ≡ 256
  pub at : (r : ℕ) (w : List ℕ) → r < length ns → ((k : ℕ) → KeptNode ns r k → slice_index_or was k false ≡ sat (formula ns k) w)
      → (k : ℕ) → k < n → Under ns r k → slice_index_or holds k false ≡ sat (formula ns k) (letter ∷ w)

-- bit b of each word: where a word says something of 64 letters, what all words say of letter b
abbrev pub column : ℕ → List ℕ → List Bool
column b words = map (on b) words

-- the values of the nodes below n as words, for the 64 letters of a group
pub record GroupValued (ns : List Node) (group : ℕ) (was : List Bool) (n : ℕ) (words : List ℕ) : Type 0 where
  pub at : (b : ℕ) → b < 64 → Valued ns (group * 64 + b) was n (column b words)

-- the values of the kept nodes xs as words, for the 64 letters of a group
pub record KeptValued (ns : List Node) (xs : List ℕ) (group : ℕ) (was : List Bool) (words : List ℕ) : Type 0 where
  pub all : List ℕ
  pub valued : GroupValued ns group was (length ns) all
  pub are : take (length xs) words ≡ map (slice_index all) xs

-- the label of n kept nodes for a letter, by the words for the four groups
abbrev pub label_in : ℕ → List (List ℕ) → ℕ → ℕ
label_in n groups letter = mask (column (letter % 64) (take n (slice_index_or groups (letter / 64) [])))

-- what each letter in front makes of a label is in the words for the four groups
pub record AllBefore (ns : List Node) (xs : List ℕ) (old : ℕ) (groups : List (List ℕ)) : Type 0 where
  pub at : (letter : ℕ) → letter < 256 → Before ns xs letter old (label_in (length xs) groups letter)
