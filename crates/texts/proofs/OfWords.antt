-- The words of a text, as the reader meets them.
use Rattle.std.proofs.Common.{◌≡◌, ℕ, zero, suc, ◌-◌, ◌<◌, Bool, true, ◌&&◌, ltb, List, [], ◌∷◌, length, get_or, take, drop, Some, None, Ok, Err, codes, IsUtf8, IsAscii, Option, Result, sym, refl, ap, ◌∙◌, subst, arith}
use Rattle.std.proofs.lemmas.Bool.Decides.{nat_tests}
use Rattle.texts.specs.Places.{length_to}
use Rattle.texts.specs.Places.{place_of}
use Rattle.texts.specs.Words.{word_of, or_name, fixed_word, long_word, operator_word, heads, allowed, WordAbove}
use Rattle.texts.specs.declared.words.Word.{Word}
use Rattle.texts.specs.declared.words.Unary.{Unary}
use Rattle.texts.specs.declared.words.Binary.{Binary}
use Rattle.texts.specs.declared.words.Leaf.{Leaf}
use Rattle.meaning.specs.declared.refusals.RuleFault.{RuleFault}
use Rattle.meaning.specs.declared.refusals.RuleFault.TheVariants.{WrongWord, WordWanted, TooDeep}
use Rattle.texts.specs.declared.words.Word.TheVariants.{Zero, One, Two}
use Rattle.std.proofs.lemmas.Str.{IsUtf8-from_ascii}
use Rattle.texts.proofs.OfNames.{same_false}

-- a word that is none of the three long ones is wrong
pub wrong_text : (w : List ℕ) → (w ≡ codes "true" → ⊥) → (w ≡ codes "false" → ⊥) → (w ≡ codes "->" → ⊥) → None ≡ long_word w
wrong_text w t f i = simp (same_false _ _ t, same_false _ _ f, same_false _ _ i)

utf8_text : (w p : List ℕ) → (IsUtf8 w → ⊥) → IsUtf8 p → w ≡ p → ⊥
utf8_text w p u h e = u (subst IsUtf8 (sym e) h)

ascii_cons : (b : ℕ) (bs : List ℕ) → b < 128 → IsAscii bs → IsAscii (b ∷ bs)
ascii_cons b bs h hs zero = h
ascii_cons b bs h hs (suc i) = hs i

ascii_nil : IsAscii []
ascii_nil i = omega arith

below : List ℕ → Bool
below [] = true
below (b ∷ bs) = ltb b 128 && below bs

ascii_below : (bs : List ℕ) → below bs ≡ true → IsAscii bs
unfolding below
ascii_below [] h = ascii_nil
ascii_below (b ∷ bs) h =
    let ih = ascii_below bs in
    let both : (b < 128) × (below bs ≡ true) = grind (arith, nat_tests) in
    ascii_cons b bs both.0 (ih both.1)

pub wrong_bytes : (w : List ℕ) → (IsUtf8 w → ⊥) → None ≡ long_word w
unfolding below
wrong_bytes w u =
    wrong_text w
    (utf8_text w _ u (IsUtf8-from_ascii (codes "true") (ascii_below (codes "true") refl)))
    (utf8_text w _ u (IsUtf8-from_ascii (codes "false") (ascii_below (codes "false") refl)))
    (utf8_text w _ u (IsUtf8-from_ascii (codes "->") (ascii_below (codes "->") refl)))

pub long_is : (w : List ℕ) → (length w ≡ 1 → ⊥) → long_word w ≡ fixed_word w
unfolding fixed_word
long_is [] l = refl
long_is (c ∷ []) l = absurd (l refl)
long_is (c ∷ (d ∷ ds)) l = refl

pub one_is : (w : List ℕ) → length w ≡ 1 → operator_word (get_or w 0 0) ≡ fixed_word w
unfolding fixed_word
one_is [] l = absurd (omega arith)
one_is (c ∷ []) l = refl
one_is (c ∷ (d ∷ ds)) l = absurd (omega arith)

pub heads_none : (ns : List (List ℕ)) (total d : ℕ) (w : List ℕ) → length w ≡ 0 → heads ns total d w ≡ Err (WordWanted total)
unfolding heads
heads_none ns total d [] l = refl
heads_none ns total d (b ∷ bs) l = absurd (omega arith)

pub heads_some : (ns : List (List ℕ)) (total d n p : ℕ) (w word after : List ℕ) (x : Option Word) → p ≡ total - length w → (length w ≡ 0 → ⊥) → n ≡ length_to 32 w → word ≡ take n w → after ≡ drop n w → x ≡ word_of ns word → heads ns total d w ≡ allowed p d x after
unfolding heads
heads_some ns total d n p [] word after x p-is l n-is word_is after_is x-is = absurd (l refl)
heads_some ns total d n p (b ∷ bs) word after x p-is l n-is word_is after_is x-is = simp (x-is, word_is, after_is, n-is, p-is)

-- what `allowed` comes to, by cases of the word x
pub none_at : {h : Result (Word × List ℕ) RuleFault} (p d : ℕ) (x : Option Word) (a : List ℕ) → h ≡ allowed p d x a → x ≡ None → h ≡ Err (WrongWord p)
none_at p d None a e i = e
none_at p d (Some w) a e i = absurd (grind arith)

pub zero_at : {h : Result (Word × List ℕ) RuleFault} (p d : ℕ) (x : Option Word) (a : List ℕ) (l : Leaf) → h ≡ allowed p d x a → x ≡ Some (Zero l) → h ≡ Ok (Zero l, a)
zero_at p d x a l e i = e ∙ ap (λ (y : Option Word). allowed p d y a) i

pub deep_one : {h : Result (Word × List ℕ) RuleFault} (p d : ℕ) (x : Option Word) (a : List ℕ) (o : Unary) → h ≡ allowed p d x a → x ≡ Some (One o) → d ≡ 0 → h ≡ Err (TooDeep p)
deep_one p zero x a o e i z = e ∙ ap (λ (y : Option Word). allowed p 0 y a) i
deep_one p (suc d) x a o e i z = absurd (omega arith)

pub deep_two : {h : Result (Word × List ℕ) RuleFault} (p d : ℕ) (x : Option Word) (a : List ℕ) (o : Binary) → h ≡ allowed p d x a → x ≡ Some (Two o) → d ≡ 0 → h ≡ Err (TooDeep p)
deep_two p zero x a o e i z = e ∙ ap (λ (y : Option Word). allowed p 0 y a) i
deep_two p (suc d) x a o e i z = absurd (omega arith)

pub one_at : {h : Result (Word × List ℕ) RuleFault} (p d : ℕ) (x : Option Word) (a b : List ℕ) (o : Unary) → h ≡ allowed p d x a → x ≡ Some (One o) → (d ≡ 0 → ⊥) → b ≡ drop 1 a → h ≡ Ok (One o, b)
one_at p zero x a b o e i z s = absurd (z refl)
one_at p (suc d) x a b o e i z s = e ∙ ap (λ (y : Option Word). allowed p (suc d) y a) i ∙ ap (λ (y : List ℕ). Ok (One o, y)) (sym s)

pub two_at : {h : Result (Word × List ℕ) RuleFault} (p d : ℕ) (x : Option Word) (a b : List ℕ) (o : Binary) → h ≡ allowed p d x a → x ≡ Some (Two o) → (d ≡ 0 → ⊥) → b ≡ drop 1 a → h ≡ Ok (Two o, b)
two_at p zero x a b o e i z s = absurd (z refl)
two_at p (suc d) x a b o e i z s = e ∙ ap (λ (y : Option Word). allowed p (suc d) y a) i ∙ ap (λ (y : List ℕ). Ok (Two o, y)) (sym s)

pub above_one : (d : ℕ) (w : Word) (o : Unary) → WordAbove d w → w ≡ One o → 0 < d
above_one d w o h e = subst (WordAbove d) e h

pub above_two : (d : ℕ) (w : Word) (o : Binary) → WordAbove d w → w ≡ Two o → 0 < d
above_two d w o h e = subst (WordAbove d) e h

pub word_fixed : (ns : List (List ℕ)) (w : List ℕ) (x : Word) → Some x ≡ fixed_word w → Some x ≡ word_of ns w
unfolding word_of
word_fixed ns w x e = rw (← e)

pub word_named : (ns : List (List ℕ)) (w : List ℕ) (p : Option ℕ) → None ≡ fixed_word w → p ≡ place_of ns w → or_name None p ≡ word_of ns w
unfolding word_of
word_named ns w p e q = rw (← e, ← q)
