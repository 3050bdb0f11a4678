-- The words of a rule text. Assumes nothing.
use Rattle.std.specs.Prelude.{◌≡◌, ℕ, zero, suc, ◌-◌, ◌<◌, cond, List, [], ◌∷◌, length, take, drop, Some, None, Ok, Err, codes, Option, Result, ◌==◌}
use Rattle.std.specs.Borrow.{Bor}
use Rattle.std.specs.Str.{bytes_eq}
use Rattle.texts.specs.declared.words.Leaf.TheVariants.{True, False, Name}
use Rattle.texts.specs.declared.words.Unary.TheVariants.{Not, Next, Finally, Globally}
use Rattle.texts.specs.declared.words.Binary.TheVariants.{And, Or, Implies, Until, Release}
use Rattle.texts.specs.declared.words.Word.{Word}
use Rattle.texts.specs.declared.words.Word.TheVariants.{Zero, One, Two}
use Rattle.meaning.specs.declared.refusals.RuleFault.{RuleFault}
use Rattle.meaning.specs.declared.refusals.RuleFault.TheVariants.{WrongWord, WordWanted, TooDeep}
use Rattle.meaning.specs.Bytes.{Text}
use Rattle.texts.specs.Places.{length_to, place_of}

-- the words of one byte
abbrev pub operator_word : ℕ → Option Word
operator_word c =
    cond (c == 33) (Some (One Not))
    (cond (c == 88) (Some (One Next))
    (cond (c == 70) (Some (One Finally))
    (cond (c == 71) (Some (One Globally))
    (cond (c == 38) (Some (Two And))
    (cond (c == 124) (Some (Two Or))
    (cond (c == 85) (Some (Two Until))
    (cond (c == 86) (Some (Two Release)) None)))))))

-- the longer ones
abbrev pub long_word : Text → Option Word
long_word w =
    cond (bytes_eq w (codes "true")) (Some (Zero True))
    (cond (bytes_eq w (codes "false")) (Some (Zero False))
    (cond (bytes_eq w (codes "->")) (Some (Two Implies)) None))

-- the words that every text has
unfoldable pub fixed_word : Text → Option Word
fixed_word [] = None
fixed_word (c ∷ []) = operator_word c
fixed_word (c ∷ (d ∷ ds)) = long_word (c ∷ (d ∷ ds))

-- a fixed word, else a name
abbrev pub or_name : Option Word → Option ℕ → Option Word
or_name (Some x) p = Some x
or_name None (Some i) = Some (Zero (Name i))
or_name None None = None

-- what a word is, under the names ns
unfoldable pub word_of : List Text → Text → Option Word
word_of ns w = or_name (fixed_word w) (place_of ns w)

-- an operator at depth 0 is refused; behind any other stands one space before its first operand
abbrev pub allowed : ℕ → ℕ → Option Word → Text → Result (Word × Text) RuleFault
allowed p d None after = Err (WrongWord p)
allowed p d (Some (Zero l)) after = Ok (Zero l, after)
allowed p zero (Some (One o)) after = Err (TooDeep p)
allowed p (suc d) (Some (One o)) after = Ok (One o, drop 1 after)
allowed p zero (Some (Two o)) after = Err (TooDeep p)
allowed p (suc d) (Some (Two o)) after = Ok (Two o, drop 1 after)

-- the first word of w, where d operators may still stand one below another, in a text of `total` bytes that ends with w
unfoldable pub heads : List Text → ℕ → ℕ → Text → Result (Word × Text) RuleFault
heads ns total d [] = Err (WordWanted total)
heads ns total d (b ∷ bs) =
    allowed (total - length (b ∷ bs)) d (word_of ns (take (length_to 32 (b ∷ bs)) (b ∷ bs))) (drop (length_to 32 (b ∷ bs)) (b ∷ bs))

-- the same of an answer whose rest is borrowed
abbrev pub Heads : List Text → ℕ → ℕ → Text → Result (Word × Bor Text) RuleFault → Type 0
Heads ns total d w (Ok x) = heads ns total d w ≡ Ok (x.0, x.1.now)
Heads ns total d w (Err e) = heads ns total d w ≡ Err e

-- an operator needs that some depth is left
abbrev pub WordAbove : ℕ → Word → Type 0
WordAbove d (Zero l) = Unit {0}
WordAbove d (One o) = 0 < d
WordAbove d (Two o) = 0 < d

-- an operator is answered only where some depth is left
abbrev pub Above : ℕ → Result (Word × Bor Text) RuleFault → Type 0
Above d (Ok x) = WordAbove d x.0
Above d (Err e) = Unit {0}
