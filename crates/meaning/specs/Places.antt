-- The fault of a rule text in the subject's words: what its words begin, and where that ends. Assumes nothing.
use Rattle.std.specs.Prelude.{◌≡◌, ℕ, ◌+◌, ◌<◌, ◌≤◌, ◌⊎◌, ◌↔◌, List, [], ◌∷◌, ◌++◌, length}
use Rattle.meaning.specs.declared.refusals.RuleFault.{RuleFault}
use Rattle.meaning.specs.declared.refusals.RuleFault.TheVariants.{WrongWord, WordWanted, BytesFollow, TooDeep}
use Rattle.logic.specs.Rule.{Rule}
use Rattle.meaning.specs.Bytes.{Text, parted}
use Rattle.meaning.specs.Written.{written, Named, depth}
use Rattle.meaning.specs.Faults.{HasFault}
use Rattle.meaning.specs.Reading.{GoodNames}

-- the rule r is written by the words us and then the words vs: the words of a text are its parts between spaces
abbrev pub ByWords : List Text → Rule → List Text → List Text → Type 0
ByWords ns r us vs = Named (length ns) r × (parted 32 (written ns r) ≡ us ++ vs)

-- the words us begin the writing of some rule
abbrev pub Begin : List Text → List Text → Type 0
Begin ns us = ∥ ((r : Rule) × (vs : List Text) × ByWords ns r us vs) ∥₁

-- the words us begin the writing of some rule of nesting at most 32
abbrev pub BeginShallow : List Text → List Text → Type 0
BeginShallow ns us = ∥ ((r : Rule) × (vs : List Text) × (depth r ≤ 32) × ByWords ns r us vs) ∥₁

-- the words us, with a space behind them, begin the writing of some rule of nesting at most 32: another word follows there
abbrev pub WantAWord : List Text → List Text → Type 0
WantAWord ns us = ∥ ((r : Rule) × (v : Text) × (vs : List Text) × (depth r ≤ 32) × ByWords ns r us (v ∷ vs)) ∥₁

-- the place behind the words us: their bytes, and a space behind each
abbrev pub place_behind : List Text → ℕ
place_behind [] = 0
place_behind (u ∷ us) = length u + 1 + place_behind us

-- in the text t the word w stands at place p, behind the words us
abbrev pub WordAt : Text → List Text → Text → ℕ → Type 0
WordAt t us w p = ((ws : List Text) × (parted 32 t ≡ us ++ (w ∷ ws))) × (p ≡ place_behind us)

-- the words of the whole text t are us; an ending space has no word behind it
abbrev pub WordsAre : Text → List Text → Type 0
WordsAre t us = (parted 32 t ≡ us) ⊎ (parted 32 t ≡ us ++ ([] ∷ []))

-- 2 at p: a byte stands at p, what stands before p wants a word, and with the word at p it begins the writing of no rule at all: that word is no operator, constant or name
abbrev pub WrongWordAt : List Text → Text → ℕ → Type 0
WrongWordAt ns t p = (p < length t) × ∥ ((us : List Text) × (w : Text) × WordAt t us w p × WantAWord ns us × ¬ Begin ns (us ++ (w ∷ []))) ∥₁

-- 3 at p: p is the text's length, and the whole text wants a word
abbrev pub WordWantedAt : List Text → Text → ℕ → Type 0
WordWantedAt ns t p = (p ≡ length t) × ∥ ((us : List Text) × WordsAre t us × WantAWord ns us) ∥₁

-- 4 at p: what stands before p is the whole writing of a rule of nesting at most 32, and a space stands at p
abbrev pub BytesFollowAt : List Text → Text → ℕ → Type 0
BytesFollowAt ns t p =
    ∥ ((r : Rule) × (rest : Text) × Named (length ns) r × (depth r ≤ 32) × (t ≡ written ns r ++ (32 ∷ rest)) × (p ≡ length (written ns r))) ∥₁

-- 5 at p: what stands before p wants a word, and with the word at p it begins the writing of some rule, but of none of nesting at most 32: that word is an operator below 32 others
abbrev pub TooDeepAt : List Text → Text → ℕ → Type 0
TooDeepAt ns t p =
    ∥ ((us : List Text) × (w : Text) × WordAt t us w p × WantAWord ns us × Begin ns (us ++ (w ∷ [])) × ¬ BeginShallow ns (us ++ (w ∷ []))) ∥₁

-- the fault that the words of the text t tell, under the names ns
abbrev pub FaultInWords : List Text → Text → RuleFault → Type 0
FaultInWords ns t (WrongWord p) = WrongWordAt ns t p
FaultInWords ns t (TooDeep p) = TooDeepAt ns t p
FaultInWords ns t (WordWanted p) = WordWantedAt ns t p
FaultInWords ns t (BytesFollow p) = BytesFollowAt ns t p

-- the fault of a text is the one that its words tell
abbrev pub FaultsAreToldByWords : Type 0
FaultsAreToldByWords = (ns : List Text) (t : Text) → GoodNames ns → (e : RuleFault) → HasFault ns t e ↔ FaultInWords ns t e

-- the words of a text tell at most one fault
abbrev pub WordsTellOneFault : Type 0
WordsTellOneFault = (ns : List Text) (t : Text) → GoodNames ns → (e f : RuleFault) → FaultInWords ns t e → FaultInWords ns t f → e ≡ f
