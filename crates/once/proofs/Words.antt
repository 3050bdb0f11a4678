-- Records of eight words by one comparison. Assumes nothing.
use Rattle.std.proofs.Common.{◌≡◌, ℕ, Bool, true, false, ◌≢◌, List, length, get_or, MatchBool, ap, sym, ◌∙◌, arith}
use Rattle.std.proofs.lemmas.Grind.{same_number_lists}
use Rattle.std.proofs.Math.Dec.{eqb}
use Rattle.std.specs.Cmp.Lexicographic.{pointwise, told_text}
use Rattle.once.specs.Once.{SameWords}

told : (xs ys : List ℕ) → length xs ≡ 8 → length ys ≡ 8 → (r : Bool) → MatchBool r (xs ≡ ys) (xs ≢ ys) → MatchBool r (SameWords xs ys) (SameWords xs ys → ⊥)
told xs ys m n true e = record { at = λ k l. ap (λ zs. get_or zs k 0) e }
told xs ys m n false e = λ s. e (same_number_lists xs ys (m ∙ sym n) (λ k l. s.at k (omega arith)))

pub words_told : (xs ys : List ℕ) (r : Bool) → length xs ≡ 8 → length ys ≡ 8 → r ≡ pointwise eqb xs ys → MatchBool r (SameWords xs ys) (SameWords xs ys → ⊥)
words_told xs ys r m n e = told xs ys m n r (told_text xs ys r e)
