-- The steps of reading a text.
use Rattle.std.proofs.Common.{◌≡◌, ℕ, zero, suc, ◌-◌, ◌<◌, List, drop, Ok, Err, Result, ap, ◌∙◌, arith}
use Rattle.texts.specs.declared.words.Leaf.{Leaf}
use Rattle.texts.specs.declared.words.Unary.{Unary}
use Rattle.texts.specs.declared.words.Binary.{Binary}
use Rattle.texts.specs.declared.words.Word.{Word}
use Rattle.texts.specs.declared.words.Word.TheVariants.{Zero, One, Two}
use Rattle.meaning.specs.declared.refusals.RuleFault.{RuleFault}
use Rattle.texts.specs.Words.{heads}
use Rattle.logic.specs.Rule.{Rule}
use Rattle.texts.specs.Shapes.{leaf}
use Rattle.texts.specs.Parse.{Parsed, unary_parsed, binary_parsed, operands_parsed, word_parsed, parse}

-- what is refused is not accepted
pub no_ok : {P : Type 0} {X Y : Type 0} (x : X) (y : Y) → ◌≡◌ {A = Result X Y} (Err y) (Ok x) → P
no_ok x y e = let z : ◌≡◌ {A = ℕ} 0 1 = cc in absurd (omega arith)

module _ (ns : List (List ℕ)) where
  pub step : (total d : ℕ) (w : List ℕ) → 0 < d → parse ns total d w ≡ word_parsed (parse ns total (d - 1)) (heads ns total d w)
  unfolding parse
  step total zero w h = absurd (omega arith)
  step total (suc d) w h = let e : suc d - 1 ≡ d = omega arith in rw e

  pub err_read : (total d : ℕ) (w : List ℕ) (e : RuleFault) → heads ns total d w ≡ Err e → parse ns total d w ≡ Err e
  unfolding parse
  err_read total zero w e h = rw h
  err_read total (suc d) w e h = rw h

  pub leaf_read : (total d : ℕ) (w a : List ℕ) (l : Leaf) → heads ns total d w ≡ Ok (Zero l, a) → parse ns total d w ≡ Ok (leaf l, a)
  unfolding parse
  leaf_read total zero w a l h = rw h
  leaf_read total (suc d) w a l h = rw h

  pub one_read : (total d : ℕ) (w a : List ℕ) (o : Unary) (x : Parsed) → 0 < d → heads ns total d w ≡ Ok (One o, a) → parse ns total (d - 1) a ≡ x → parse ns total d w ≡ unary_parsed o x
  one_read total d w a o x h e p = step total d w h ∙ ap (word_parsed (parse ns total (d - 1))) e ∙ ap (unary_parsed o) p

  pub first_read : (total d : ℕ) (w a : List ℕ) (o : Binary) (x : Parsed) → 0 < d → heads ns total d w ≡ Ok (Two o, a) → parse ns total (d - 1) a ≡ x → parse ns total d w ≡ operands_parsed o (parse ns total (d - 1)) x
  first_read total d w a o x h e p = step total d w h ∙ ap (word_parsed (parse ns total (d - 1))) e ∙ ap (operands_parsed o (parse ns total (d - 1))) p

  pub second_read : (total d : ℕ) (w a m : List ℕ) (o : Binary) (f : Rule) (x : Parsed) → 0 < d → heads ns total d w ≡ Ok (Two o, a) → parse ns total (d - 1) a ≡ Ok (f, m) → parse ns total (d - 1) (drop 1 m) ≡ x → parse ns total d w ≡ binary_parsed o f x
  second_read total d w a m o f x h e p q = first_read total d w a o (Ok (f, m)) h e p ∙ ap (binary_parsed o f) q

pub head_is : (ns : List (List ℕ)) (total d : ℕ) (w a : List ℕ) (x y : Word) → heads ns total d w ≡ Ok (x, a) → x ≡ y → heads ns total d w ≡ Ok (y, a)
head_is ns total d w a x y h e = h ∙ ap (λ (v : Word). Ok (v, a)) e
