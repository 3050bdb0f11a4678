-- Rules by the word that they begin with. Assumes nothing.
use Rattle.std.specs.Prelude.{ℕ, ◌<◌, List, [], codes, slice_index_or}
use Rattle.logic.specs.Rule.{Rule, rtrue, rfalse, name, not, rnext, finally, globally, both, either, implies, runtil, rrelease}
use Rattle.meaning.specs.Bytes.{Text}
use Rattle.texts.specs.declared.words.Leaf.{Leaf}
use Rattle.texts.specs.declared.words.Leaf.TheVariants.{True, False, Name}
use Rattle.texts.specs.declared.words.Unary.{Unary}
use Rattle.texts.specs.declared.words.Unary.TheVariants.{Not, Next, Finally, Globally}
use Rattle.texts.specs.declared.words.Binary.{Binary}
use Rattle.texts.specs.declared.words.Binary.TheVariants.{And, Or, Implies, Until, Release}
use Rattle.texts.specs.declared.words.Word.{Word}
use Rattle.texts.specs.declared.words.Word.TheVariants.{Zero, One, Two}

-- the rule of a word without operands
abbrev pub leaf : Leaf → Rule
leaf True = rtrue
leaf False = rfalse
leaf (Name i) = name i

-- the rule of an operator and its operand
abbrev pub unary : Unary → Rule → Rule
unary Not a = not a
unary Next a = rnext a
unary Finally a = finally a
unary Globally a = globally a

-- the rule of an operator and its two operands
abbrev pub binary : Binary → Rule → Rule → Rule
binary And a b = both a b
binary Or a b = either a b
binary Implies a b = implies a b
binary Until a b = runtil a b
binary Release a b = rrelease a b

-- a word's bytes, under the names ns
abbrev pub spelled : List Text → Word → Text
spelled ns (Zero True) = codes "true"
spelled ns (Zero False) = codes "false"
spelled ns (Zero (Name i)) = slice_index_or ns i []
spelled ns (One Not) = codes "!"
spelled ns (One Next) = codes "X"
spelled ns (One Finally) = codes "F"
spelled ns (One Globally) = codes "G"
spelled ns (Two And) = codes "&"
spelled ns (Two Or) = codes "|"
spelled ns (Two Implies) = codes "->"
spelled ns (Two Until) = codes "U"
spelled ns (Two Release) = codes "V"

-- a leaf that is a name is one of n
abbrev pub LeafNamed : ℕ → Leaf → Type 0
LeafNamed n True = Unit {0}
LeafNamed n False = Unit {0}
LeafNamed n (Name i) = i < n

-- a word that is a name is one of n
abbrev pub WordNamed : ℕ → Word → Type 0
WordNamed n (Zero l) = LeafNamed n l
WordNamed n (One o) = Unit {0}
WordNamed n (Two o) = Unit {0}
