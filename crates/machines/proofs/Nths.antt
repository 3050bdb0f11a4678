-- `nth` of the lists that machines are made of.
use Rattle.std.proofs.Common.{◌≡◌, ℕ, zero, suc, ◌+◌, ◌*◌, List, [], ◌∷◌, Some, Option, refl, arith}
use Rattle.std.specs.List.{AllByRecursion, slice_get}
use Rattle.std.specs.Option.{option_map}
use Rattle.meaning.specs.Kinds.{doubled}

pub nth_doubled_low : (n : ℕ) (ts : List ℕ) (q k : ℕ) → k ≡ 2 * q → slice_get (doubled n ts) k ≡ slice_get ts q
nth_doubled_low n [] q k e = refl
nth_doubled_low n (t ∷ ts) zero zero e = refl
nth_doubled_low n (t ∷ ts) zero (suc k) e = absurd (omega arith)
nth_doubled_low n (t ∷ ts) (suc q) zero e = absurd (omega arith)
nth_doubled_low n (t ∷ ts) (suc q) (suc zero) e = absurd (omega arith)
nth_doubled_low n (t ∷ ts) (suc q) (suc (suc k)) e = nth_doubled_low n ts q k (omega arith)

pub nth_doubled_high : (n : ℕ) (ts : List ℕ) (q k : ℕ) → k ≡ 2 * q + 1 → slice_get (doubled n ts) k ≡ option_map (λ t. n + t) (slice_get ts q)
nth_doubled_high n [] q k e = refl
nth_doubled_high n (t ∷ ts) zero zero e = absurd (omega arith)
nth_doubled_high n (t ∷ ts) zero (suc zero) e = refl
nth_doubled_high n (t ∷ ts) zero (suc (suc k)) e = absurd (omega arith)
nth_doubled_high n (t ∷ ts) (suc q) zero e = absurd (omega arith)
nth_doubled_high n (t ∷ ts) (suc q) (suc zero) e = absurd (omega arith)
nth_doubled_high n (t ∷ ts) (suc q) (suc (suc k)) e = nth_doubled_high n ts q k (omega arith)

some_same : {X : Type 0} (x y : X) → ◌≡◌ {A = Option X} (Some x) (Some y) → x ≡ y
some_same x y e = cc

pub nth_all : (P : ℕ → Type 0) (xs : List ℕ) (k x : ℕ) → AllByRecursion P xs → slice_get xs k ≡ Some x → P x
nth_all P [] k x h e = cc
nth_all P (y ∷ ys) zero x h e = rw (← some_same y x e) h.0
nth_all P (y ∷ ys) (suc k) x h e = nth_all P ys k x h.1 e
