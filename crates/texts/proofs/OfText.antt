-- Places in a text.
use Rattle.std.proofs.Common.{◌≡◌, ℕ, zero, suc, ◌+◌, ◌≤◌, true, false, cond, eqb, List, [], ◌∷◌, length, drop, arith}
use lib.Seq.{drop-nil}
use Rattle.texts.specs.Places.{length_to}

pub length_to_le : (s : ℕ) (xs : List ℕ) → length_to s xs ≤ length xs
length_to_le s [] = omega arith
length_to_le s (x ∷ xs) = let ih = length_to_le s xs in elim (eqb x s) as (λ b. cond b 0 (length_to s xs + 1) ≤ length (x ∷ xs)) [ true ↦ omega arith | false ↦ omega arith ]

pub len_end : (s : ℕ) (xs : List ℕ) (n : ℕ) → length xs ≤ n → length_to s (drop n xs) ≡ 0
len_end s [] n h = rw drop-nil
len_end s (x ∷ xs) n h = elim n as (λ k. length (x ∷ xs) ≤ k → length_to s (drop k (x ∷ xs)) ≡ 0) [ zero ↦ (λ g. let z : ◌≡◌ {A = ℕ} 0 1 = omega arith in absurd (omega arith)) | suc m ↦ (λ g. len_end s xs m (omega arith)) ] h
