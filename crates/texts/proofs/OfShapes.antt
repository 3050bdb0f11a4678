-- Rules by the word that they begin with: their writing, depth and names.
use Rattle.std.proofs.Common.{◌≡◌, ℕ, suc, max, List, ◌∷◌, ◌++◌, refl}
use Rattle.logic.specs.Rule.{Rule, rtrue, rfalse, name, not, rnext, finally, globally, both, either, implies, runtil, rrelease}
use Rattle.meaning.specs.Bytes.{Text}
use Rattle.meaning.specs.Written.{written, depth, Named}
use Rattle.texts.specs.declared.words.Leaf.{Leaf}
use Rattle.texts.specs.declared.words.Leaf.TheVariants.{True, False, Name}
use Rattle.texts.specs.declared.words.Unary.{Unary}
use Rattle.texts.specs.declared.words.Unary.TheVariants.{Not, Next, Finally, Globally}
use Rattle.texts.specs.declared.words.Binary.{Binary}
use Rattle.texts.specs.declared.words.Binary.TheVariants.{And, Or, Implies, Until, Release}
use Rattle.texts.specs.declared.words.Word.TheVariants.{Zero, One, Two}
use Rattle.texts.specs.Shapes.{leaf, unary, binary, spelled, LeafNamed}

-- every rule begins with a leaf, an operator of one operand, or one of two
pub by_first_word : (P : Rule → Type 0) → ((l : Leaf) → P (leaf l)) → ((o : Unary) (a : Rule) → P a → P (unary o a)) → ((o : Binary) (a b : Rule) → P a → P b → P (binary o a b)) → (r : Rule) → P r
by_first_word P l u b rtrue = l True
by_first_word P l u b rfalse = l False
by_first_word P l u b (name i) = l (Name i)
by_first_word P l u b (not a) = u Not a (by_first_word P l u b a)
by_first_word P l u b (rnext a) = u Next a (by_first_word P l u b a)
by_first_word P l u b (finally a) = u Finally a (by_first_word P l u b a)
by_first_word P l u b (globally a) = u Globally a (by_first_word P l u b a)
by_first_word P l u b (both a c) = b And a c (by_first_word P l u b a) (by_first_word P l u b c)
by_first_word P l u b (either a c) = b Or a c (by_first_word P l u b a) (by_first_word P l u b c)
by_first_word P l u b (implies a c) = b Implies a c (by_first_word P l u b a) (by_first_word P l u b c)
by_first_word P l u b (runtil a c) = b Until a c (by_first_word P l u b a) (by_first_word P l u b c)
by_first_word P l u b (rrelease a c) = b Release a c (by_first_word P l u b a) (by_first_word P l u b c)

pub written_leaf : (ns : List Text) (l : Leaf) → written ns (leaf l) ≡ spelled ns (Zero l)
written_leaf ns True = refl
written_leaf ns False = refl
written_leaf ns (Name i) = refl

pub written_unary : (ns : List Text) (o : Unary) (a : Rule) → written ns (unary o a) ≡ spelled ns (One o) ++ (32 ∷ written ns a)
written_unary ns Not a = refl
written_unary ns Next a = refl
written_unary ns Finally a = refl
written_unary ns Globally a = refl

pub written_binary : (ns : List Text) (o : Binary) (a b : Rule) → written ns (binary o a b) ≡ spelled ns (Two o) ++ (32 ∷ (written ns a ++ (32 ∷ written ns b)))
written_binary ns And a b = refl
written_binary ns Or a b = refl
written_binary ns Implies a b = refl
written_binary ns Until a b = refl
written_binary ns Release a b = refl

pub depth_leaf : (l : Leaf) → depth (leaf l) ≡ 0
depth_leaf True = refl
depth_leaf False = refl
depth_leaf (Name i) = refl

pub depth_unary : (o : Unary) (a : Rule) → depth (unary o a) ≡ suc (depth a)
depth_unary Not a = refl
depth_unary Next a = refl
depth_unary Finally a = refl
depth_unary Globally a = refl

pub depth_binary : (o : Binary) (a b : Rule) → depth (binary o a b) ≡ suc (max (depth a) (depth b))
depth_binary And a b = refl
depth_binary Or a b = refl
depth_binary Implies a b = refl
depth_binary Until a b = refl
depth_binary Release a b = refl

pub named_leaf : (n : ℕ) (l : Leaf) → LeafNamed n l → Named n (leaf l)
named_leaf n True h = h
named_leaf n False h = h
named_leaf n (Name i) h = h

pub leaf_named : (n : ℕ) (l : Leaf) → Named n (leaf l) → LeafNamed n l
leaf_named n True h = h
leaf_named n False h = h
leaf_named n (Name i) h = h

pub named_unary : (n : ℕ) (o : Unary) (a : Rule) → Named n a → Named n (unary o a)
named_unary n Not a h = h
named_unary n Next a h = h
named_unary n Finally a h = h
named_unary n Globally a h = h

pub unary_named : (n : ℕ) (o : Unary) (a : Rule) → Named n (unary o a) → Named n a
unary_named n Not a h = h
unary_named n Next a h = h
unary_named n Finally a h = h
unary_named n Globally a h = h

pub named_binary : (n : ℕ) (o : Binary) (a b : Rule) → Named n a × Named n b → Named n (binary o a b)
named_binary n And a b h = h
named_binary n Or a b h = h
named_binary n Implies a b h = h
named_binary n Until a b h = h
named_binary n Release a b h = h

pub binary_named : (n : ℕ) (o : Binary) (a b : Rule) → Named n (binary o a b) → Named n a × Named n b
binary_named n And a b h = h
binary_named n Or a b h = h
binary_named n Implies a b h = h
binary_named n Until a b h = h
binary_named n Release a b h = h
