-- Words of 64 bits, a bit for each letter of a group. Assumes nothing.
use Rattle.std.proofs.Common.{◌≡◌, ℕ, zero, suc, ◌+◌, ◌-◌, ◌*◌, ◌/◌, ◌%◌, ◌^◌, ◌<◌, Bool, true, false, cond, ◌&&◌, ◌||◌, not, eqb, List, get_or, min, max, sym, refl, ap, ◌∙◌, subst, ⊎_elim, arith}
use native.Mathlib.Nat.{zero-div}
use Rattle.std.proofs.Math.ListN.{get_or-map}
use Rattle.std.proofs.lemmas.Nat.Bits.{bit_at-lt, bit_at_and, bit_at_or, bit_at_not, bit_at_ones}
use Rattle.std.specs.Int.{bit_at, w64}
use Rattle.std.specs.Bool.{beq}
use Rattle.std.specs.Cmp.{booleans_Decides}
use Rattle.std.proofs.lemmas.Bool.{and_parts, cases_lt}
use Rattle.std.specs.Int.Bits.{bit_and, bit_or}
use Rattle.logic.specs.Formula.{on}
use Rattle.formulas.specs.Values.{column}

pub none_on : (b : ℕ) → on b 0 ≡ false
unfolding on
none_on b = ap (λ n. eqb (n % 2) 1) (zero-div (2 ^ b))

-- bit b of a word is its entry in column b
pub column_at : (b : ℕ) (words : List ℕ) (k : ℕ) → get_or (column b words) k false ≡ on b (get_or words k 0)
column_at b words k = ap (λ d. get_or (column b words) k d) (sym (none_on b)) ∙ get_or-map (on b) words k 0

pub all_on : (b : ℕ) → b < 64 → on b 18446744073709551615 ≡ true
unfolding on
all_on b l = ap (λ n. eqb n 1) (bit_at_ones 64 b l)

both : (m n : ℕ) → m < 2 → n < 2 → eqb (min m n) 1 ≡ (eqb m 1 && eqb n 1)
both zero zero p q = refl
both zero (suc zero) p q = refl
both (suc zero) zero p q = refl
both (suc zero) (suc zero) p q = refl
both (suc (suc m)) n p q = absurd (omega arith)
both zero (suc (suc n)) p q = absurd (omega arith)
both (suc zero) (suc (suc n)) p q = absurd (omega arith)

either : (m n : ℕ) → m < 2 → n < 2 → eqb (max m n) 1 ≡ (eqb m 1 || eqb n 1)
either zero zero p q = refl
either zero (suc zero) p q = refl
either (suc zero) zero p q = refl
either (suc zero) (suc zero) p q = refl
either (suc (suc m)) n p q = absurd (omega arith)
either zero (suc (suc n)) p q = absurd (omega arith)
either (suc zero) (suc (suc n)) p q = absurd (omega arith)

other : (m : ℕ) → m < 2 → eqb (1 - m) 1 ≡ not (eqb m 1)
other zero p = refl
other (suc zero) p = refl
other (suc (suc m)) p = absurd (omega arith)

as_number : (m : ℕ) → m < 2 → m ≡ cond (eqb m 1) 1 0
as_number zero p = refl
as_number (suc zero) p = refl
as_number (suc (suc m)) p = absurd (omega arith)

pub on_and : (b x y : ℕ) → on b (bit_and x y) ≡ (on b x && on b y)
unfolding on
on_and b x y = ap (λ n. eqb n 1) (bit_at_and x y b) ∙ both (bit_at x b) (bit_at y b) (bit_at-lt x b) (bit_at-lt y b)

pub on_or : (b x y : ℕ) → on b (bit_or x y) ≡ (on b x || on b y)
unfolding on
on_or b x y = ap (λ n. eqb n 1) (bit_at_or x y b) ∙ either (bit_at x b) (bit_at y b) (bit_at-lt x b) (bit_at-lt y b)

pub on_not : (b x : ℕ) → x < 2 ^ 64 → b < 64 → on b (18446744073709551615 - x) ≡ not (on b x)
unfolding on
on_not b x small l = ap (λ n. eqb n 1) (bit_at_not w64 x b small l) ∙ other (bit_at x b) (bit_at-lt x b)

pub bit_is : (b x : ℕ) → x / 2 ^ b % 2 ≡ cond (on b x) 1 0
unfolding on
bit_is b x = as_number (bit_at x b) (bit_at-lt x b)

pub as_true : (x : Bool) → beq x true ≡ x
as_true true = refl
as_true false = refl

pub as_false : (x : Bool) → beq x false ≡ not x
as_false true = refl
as_false false = refl

-- whether all numbers below n pass
unfoldable pub every : ℕ → (ℕ → Bool) → Bool
every zero p = true
every (suc n) p = p n && every n p

every_at : (n : ℕ) (p : ℕ → Bool) → every n p ≡ true → (k : ℕ) → k < n → p k ≡ true
unfolding every
every_at zero p e k l = absurd (omega arith)
every_at (suc n) p e k l =
    let t = and_parts (p n) (every n p) e in
    ⊎_elim (λ h. every_at n p t.1 k h) (λ h. let q : n ≡ k = omega arith in subst (λ (j : ℕ). p j ≡ true) q t.0) (cases_lt k n)

-- a word that agrees with signal i at all 256 letters, by trying them
pub pattern : (word i : ℕ) → every 256 (λ s. beq (on (s % 64) word) (on i s)) ≡ true → (g b : ℕ) → g < 4 → b < 64 → on b word ≡ on i (g * 64 + b)
pattern word i e g b p q =
    let s = g * 64 + b in
    let m : s % 64 ≡ b = omega arith in
    let h = (booleans_Decides (on (s % 64) word) (on i s)).0 (every_at 256 (λ t. beq (on (t % 64) word) (on i t)) e s (omega arith)) in
    ap (λ (c : ℕ). on c word) (sym m) ∙ h

-- a test of the group that agrees with signal i at all 256 letters
pub group_pattern : (f : ℕ → Bool) (i : ℕ) → every 256 (λ s. beq (f (s / 64)) (on i s)) ≡ true → (g b : ℕ) → g < 4 → b < 64 → f g ≡ on i (g * 64 + b)
group_pattern f i e g b p q =
    let s = g * 64 + b in
    let m : s / 64 ≡ g = omega arith in
    ap f (sym m) ∙ (booleans_Decides (f (s / 64)) (on i s)).0 (every_at 256 (λ t. beq (f (t / 64)) (on i t)) e s (omega arith))

pub signal_0 : (g b : ℕ) → g < 4 → b < 64 → on b 12297829382473034410 ≡ on 0 (g * 64 + b)
unfolding on every
signal_0 = pattern 12297829382473034410 0 refl

pub signal_1 : (g b : ℕ) → g < 4 → b < 64 → on b 14757395258967641292 ≡ on 1 (g * 64 + b)
unfolding on every
signal_1 = pattern 14757395258967641292 1 refl

pub signal_2 : (g b : ℕ) → g < 4 → b < 64 → on b 17361641481138401520 ≡ on 2 (g * 64 + b)
unfolding on every
signal_2 = pattern 17361641481138401520 2 refl

pub signal_3 : (g b : ℕ) → g < 4 → b < 64 → on b 18374966859414961920 ≡ on 3 (g * 64 + b)
unfolding on every
signal_3 = pattern 18374966859414961920 3 refl

pub signal_4 : (g b : ℕ) → g < 4 → b < 64 → on b 18446462603027742720 ≡ on 4 (g * 64 + b)
unfolding on every
signal_4 = pattern 18446462603027742720 4 refl

pub signal_5 : (g b : ℕ) → g < 4 → b < 64 → on b 18446744069414584320 ≡ on 5 (g * 64 + b)
unfolding on every
signal_5 = pattern 18446744069414584320 5 refl

pub signal_6 : (g b : ℕ) → g < 4 → b < 64 → eqb (g % 2) 1 ≡ on 6 (g * 64 + b)
unfolding on every
signal_6 = group_pattern (λ g. eqb (g % 2) 1) 6 refl

pub signal_7 : (g b : ℕ) → g < 4 → b < 64 → eqb (g / 2) 1 ≡ on 7 (g * 64 + b)
unfolding on every
signal_7 = group_pattern (λ g. eqb (g / 2) 1) 7 refl
