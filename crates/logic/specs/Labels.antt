-- Kept formulas, labels, and a label one letter earlier. Assumes nothing.
use Rattle.std.specs.Prelude.{◌≡◌, ℕ, ◌<◌, Bool, true, false, ◌&&◌, ◌||◌, ◌↔◌, List, [], ◌∷◌, ◌++◌, map, length, slice_index_or}
use Rattle.std.proofs.Math.Logic.{ite}
use Rattle.std.specs.Bool.{beq}
use mathlib.Core.List.{Mem, Memᴰ}
use Rattle.logic.specs.Formula.{Formula, tru, fls, lit, and, or, next, until, release, on, Sub, same}
use Rattle.logic.specs.Witness.{Breach}
use Rattle.logic.specs.Sat.{sat}

-- Kept f g: g is a kept formula of f. These are f, each subformula with next, until or release at its root, and the operand of each next
pub data Kept (f : Formula) : Formula → Type 0 where
  whole : Kept f f
  a_next : {a : Formula} → Sub (next a) f → Kept f (next a)
  an_until : {a b : Formula} → Sub (until a b) f → Kept f (until a b)
  a_release : {a b : Formula} → Sub (release a b) f → Kept f (release a b)
  an_operand : {a : Formula} → Sub (next a) f → Kept f a

-- ks lists the kept formulas of f
abbrev pub ListsKept : Formula → List Formula → Type 0
ListsKept f ks = (g : Formula) → Mem g ks ↔ ∥ Kept f g ∥₁

-- ks lists the kept formulas of all the formulas fs
abbrev pub ListsKeptOf : List Formula → List Formula → Type 0
ListsKeptOf fs ks = (g : Formula) → Mem g ks ↔ ∥ ((f : Formula) × Mem f fs × Kept f g) ∥₁

-- ks holds what is kept of each of its formulas. So does the list of what is kept of one formula, and of several
abbrev pub Closed : List Formula → Type 0
Closed ks = (f g : Formula) → Mem f ks → Kept f g → Mem g ks

-- a list with x put in, unless it holds x
abbrev pub add_once : {A : Type 0} → Discrete A → A → List A → List A
add_once d x [] = x ∷ []
add_once d x (y ∷ ys) = elim (d x y) [ yes e ↦ y ∷ ys | no n ↦ y ∷ add_once d x ys ]

-- a list with each of its elements once
abbrev pub once : {A : Type 0} → Discrete A → List A → List A
once d [] = []
once d (x ∷ xs) = add_once d x (once d xs)

-- what f keeps besides itself, computed: each subformula with next, until or release at its root, and the operand of each next
abbrev pub temporal : Formula → List Formula
temporal tru = []
temporal fls = []
temporal (lit i p) = []
temporal (and a b) = temporal a ++ temporal b
temporal (or a b) = temporal a ++ temporal b
temporal (next a) = next a ∷ (a ∷ temporal a)
temporal (until a b) = until a b ∷ (temporal a ++ temporal b)
temporal (release a b) = release a b ∷ (temporal a ++ temporal b)

-- the kept formulas of f, computed, each once
abbrev pub kept : Formula → List Formula
kept f = once same (f ∷ temporal f)

-- nothing stands twice in a list
abbrev pub NoTwice : {A : Type 0} → List A → Type 0
NoTwice [] = Unit {0}
NoTwice (x ∷ xs) = (Memᴰ x xs → ⊥) × NoTwice xs

-- ℓ is the label of w: it says of each formula of ks whether w is a breach of it
pub record Labels (ks : List Formula) (w : List ℕ) (ℓ : List Bool) : Type 0 where
  pub as_long : length ℓ ≡ length ks
  pub says : (k : ℕ) → k < length ks → (slice_index_or ℓ k false ≡ true) ↔ Breach (slice_index_or ks k tru) w

-- the label of w, computed
abbrev pub label : List Formula → List ℕ → List Bool
label ks w = map (λ g. sat g w) ks

-- the bit that stands at the place of x; false where x has none
abbrev pub look : {A : Type 0} → Discrete A → List A → List Bool → A → Bool
look d [] bs x = false
look d (k ∷ ks) [] x = false
look d (k ∷ ks) (b ∷ bs) x = ite (d x k) b (look d ks bs x)

-- whether g holds at a letter s, from what holds after it
abbrev pub holds : ℕ → (Formula → Bool) → Formula → Bool
holds s after tru = true
holds s after fls = false
holds s after (lit i p) = beq (on i s) p
holds s after (and a b) = holds s after a && holds s after b
holds s after (or a b) = holds s after a || holds s after b
holds s after (next a) = after a
holds s after (until a b) = holds s after b || (holds s after a && after (until a b))
holds s after (release a b) = holds s after b && (holds s after a || after (release a b))

-- the label of a word with s in front, from the label of the word
abbrev pub back : List Formula → ℕ → List Bool → List Bool
back ks s ℓ = map (holds s (look same ks ℓ)) ks
