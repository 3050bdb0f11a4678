-- The words that every text has.
use Rattle.std.proofs.Common.{◌≡◌, ℕ, ◌<◌, ◌⊎◌, List, drop, Some, None, Ok, Err, Option, Result, sym, refl, ap, ◌∙◌, subst, inl, inr, MatchOption, Bor}
use Rattle.texts.specs.declared.words.Unary.{Unary}
use Rattle.texts.specs.declared.words.Binary.{Binary}
use Rattle.texts.specs.declared.words.Word.{Word}
use Rattle.texts.specs.declared.words.Word.TheVariants.{One, Two}
use Rattle.meaning.specs.declared.refusals.RuleFault.{RuleFault}
use Rattle.meaning.specs.declared.refusals.RuleFault.TheVariants.{TooDeep}
use Rattle.texts.specs.Places.{place_of}
use Rattle.texts.specs.Words.{fixed_word, word_of, or_name, heads, Heads, allowed, WordAbove}
use Rattle.texts.proofs.OfWords.{word_fixed, word_named, deep_one, deep_two, one_at, two_at}

-- a fixed word, else a name
pub word_is : (ns : List (List ℕ)) (w : List ℕ) (f r : Option Word) → f ≡ fixed_word w → MatchOption f (r ≡ or_name None (place_of ns w)) (λ x. r ≡ Some x) → r ≡ word_of ns w
word_is ns w (Some x) r e h = h ∙ word_fixed ns w x e
word_is ns w None r e h = h ∙ word_named ns w (place_of ns w) e refl

pub heads_err : (ns : List (List ℕ)) (total d : ℕ) (w : List ℕ) (r : Result (Word × Bor (List ℕ)) RuleFault) (e : RuleFault) → r ≡ Err e → heads ns total d w ≡ Err e → Heads ns total d w r
heads_err ns total d w r e q h = subst (Heads ns total d w) (sym q) h

-- an operator
abbrev pub Operator : Word → Type 0
Operator v = ((o : Unary) × (v ≡ One o)) ⊎ ((o : Binary) × (v ≡ Two o))

pub operator_deep : {h : Result (Word × List ℕ) RuleFault} (p d : ℕ) (x : Option Word) (a : List ℕ) (v : Word) → h ≡ allowed p d x a → x ≡ Some v → Operator v → d ≡ 0 → h ≡ Err (TooDeep p)
operator_deep p d x a v e i (inl o) z = deep_one p d x a o.0 e (i ∙ ap Some o.1) z
operator_deep p d x a v e i (inr o) z = deep_two p d x a o.0 e (i ∙ ap Some o.1) z

pub operator_at : {h : Result (Word × List ℕ) RuleFault} (p d : ℕ) (x : Option Word) (a b : List ℕ) (v : Word) → h ≡ allowed p d x a → x ≡ Some v → Operator v → (d ≡ 0 → ⊥) → b ≡ drop 1 a → h ≡ Ok (v, b)
operator_at p d x a b v e i (inl o) z s = one_at p d x a b o.0 e (i ∙ ap Some o.1) z s ∙ ap (λ (y : Word). Ok (y, b)) (sym o.1)
operator_at p d x a b v e i (inr o) z s = two_at p d x a b o.0 e (i ∙ ap Some o.1) z s ∙ ap (λ (y : Word). Ok (y, b)) (sym o.1)

pub operator_above : (d : ℕ) (v : Word) → Operator v → 0 < d → WordAbove d v
operator_above d v (inl o) h = subst (WordAbove d) (sym o.1) h
operator_above d v (inr o) h = subst (WordAbove d) (sym o.1) h
