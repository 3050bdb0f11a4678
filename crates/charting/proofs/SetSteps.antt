-- Sets as words. Assumes nothing.
use Rattle.std.proofs.Common.{◌≡◌, ℕ, zero, suc, ◌+◌, ◌-◌, ◌*◌, ◌/◌, ◌%◌, ◌^◌, ◌<◌, ◌≤◌, Bool, true, false, cond, ◌&&◌, List, ◌∷◌, length, get_or, drop, sym, refl, ap, ◌∙◌, ap₂, ⊎_elim, arith, drop-cons, pow-suc, take, length-take-le, get_or-take, set, ◌≢◌, below_more, length-set, get_or-set_other, get_or-set_same}
use mir.Val.{bool_byte}
use Rattle.std.proofs.lemmas.Bool.{cases_lt, lt-ltb, le-ltb}
use Rattle.logic.specs.Formula.{on}
use Rattle.logic.specs.Masks.{mask}
use Rattle.logic.proofs.Masks.{masks_are_right}
use Rattle.once.specs.Once.{SameWords}
use Rattle.charting.specs.Sets.{bit_of, bits, Packs, Flags, upto}

pub bits_length : (p : ℕ → Bool) (i n : ℕ) → length (bits p i n) ≡ n
unfolding bits
bits_length p i zero = refl
bits_length p i (suc n) = ap suc (bits_length p (suc i) n)

pub bits_at : (p : ℕ → Bool) (i n k : ℕ) → k < n → get_or (bits p i n) k false ≡ p (i + k)
unfolding bits
bits_at p i zero k l = absurd (omega arith)
bits_at p i (suc n) zero l = ap p (omega arith)
bits_at p i (suc n) (suc k) l = let e : suc i + k ≡ i + suc k = omega arith in bits_at p (suc i) n k (omega arith) ∙ ap p e

pub bits_same : (p q : ℕ → Bool) (i n : ℕ) → ((k : ℕ) → i ≤ k → k < i + n → p k ≡ q k) → bits p i n ≡ bits q i n
unfolding bits
bits_same p q i zero h = refl
bits_same p q i (suc n) h = ap₂ ◌∷◌ (h i (omega arith) (omega arith)) (bits_same p q (suc i) n (λ k a b. h k (omega arith) (omega arith)))

pub packs_same : (p q : ℕ → Bool) (r : List ℕ) → ((k : ℕ) → k < 512 → p k ≡ q k) → Packs p r → Packs q r
packs_same p q r h s = record { word = λ w l. s.word w l ∙ ap mask (bits_same p q (w * 64) 64 (λ k a b. h k (omega arith))) }

-- a set's test
pub packs_at : (p : ℕ → Bool) (r : List ℕ) → Packs p r → (i : ℕ) → i < 512 → bit_of r i ≡ p i
unfolding bit_of
packs_at p r s i l =
    let w : i / 64 < 8 = omega arith in
    let m : i % 64 < 64 = omega arith in
    let e : i / 64 * 64 + i % 64 ≡ i = omega arith in
    ap (on (i % 64)) (s.word (i / 64) w)
    ∙ (masks_are_right (bits p (i / 64 * 64) 64)).bit (i % 64) (omega (arith, bits_length p (i / 64 * 64) 64))
    ∙ bits_at p (i / 64 * 64) 64 (i % 64) m ∙ ap p e

-- sets are the same where their tests are
pub packs_words : (p q : ℕ → Bool) (r t : List ℕ) → Packs p r → Packs q t → ((k : ℕ) → k < 512 → p k ≡ q k) → SameWords r t
packs_words p q r t s u h = record { at = λ w l. s.word w l ∙ ap mask (bits_same p q (w * 64) 64 (λ k a b. h k (omega arith))) ∙ sym (u.word w l) }

pub words_packs : (p : ℕ → Bool) (r t : List ℕ) → SameWords r t → Packs p t → Packs p r
words_packs p r t s u = record { word = λ w l. s.at w l ∙ u.word w l }

pub upto_in : (n : ℕ) (p : ℕ → Bool) (i : ℕ) → i < n → upto n p i ≡ p i
upto_in n p i l = ap (λ b. b && p i) (lt-ltb i n l)

pub upto_out : (n : ℕ) (p : ℕ → Bool) (i : ℕ) → n ≤ i → upto n p i ≡ false
upto_out n p i l = ap (λ b. b && p i) (le-ltb i n l)

pub flags_more : (p : ℕ → Bool) (n : ℕ) (flags : List Bool) (r : Bool) → n < 512 → r ≡ p n → Flags p n flags → Flags p (n + 1) (set flags n r)
flags_more p n flags r small e f = record {
  size = simp length-set f.size;
  at = below_more _ _ (λ i l. let ne : i ≢ n = omega arith in get_or-set_other flags n i r false ne ∙ f.at i l)
      (get_or-set_same flags n r false (omega (arith, f.size)) ∙ e);
}

-- ---- a word, bit by bit from the top

one_bit : (b : Bool) → bool_byte b ≡ cond b 1 0
one_bit true = refl
one_bit false = refl

bit_small : (b : Bool) → bool_byte b ≤ 1
bit_small true = omega arith
bit_small false = omega arith

pub word_more : (p : ℕ → Bool) (i j word : ℕ) (r : Bool) → 0 < j → j ≤ 64 → r ≡ p (i + (j - 1)) → word ≡ mask (drop j (bits p i 64))
    → word * 2 + bool_byte r ≡ mask (drop (j - 1) (bits p i 64))
word_more p i j word r pos l says e =
    let bs = bits p i 64 in
    let k = j - 1 in
    let s : suc k ≡ j = omega arith in
    let kl : k < length bs = omega (arith, bits_length p i 64) in
    let m : mask (drop k bs) ≡ cond (get_or bs k false) 1 0 + 2 * mask (drop (suc k) bs) = ap mask (drop-cons bs k false kl) in
    let e2 : word ≡ mask (drop (suc k) bs) = e ∙ ap (λ (q : ℕ). mask (drop q bs)) (sym s) in
    let b : bool_byte r ≡ cond (get_or bs k false) 1 0 = one_bit r ∙ ap (λ x. cond {A = ℕ} x 1 0) (says ∙ sym (bits_at p i 64 k (omega arith))) in
    omega (arith, m, e2, b)

pub word_small : (j word : ℕ) (r : Bool) → 0 < j → j ≤ 64 → word < 2 ^ (64 - j) → word * 2 + bool_byte r < 2 ^ (64 - (j - 1))
word_small j word r pos l small =
    let e : 64 - (j - 1) ≡ suc (64 - j) = omega arith in
    let t : 2 ^ suc (64 - j) ≡ 2 ^ (64 - j) * 2 = pow-suc 2 (64 - j) in
    let b = bit_small r in
    rw (e, t) (omega arith)

-- where no number from i + e on passes
pub none_left : (p : ℕ → Bool) (i n e : ℕ) → ((k : ℕ) → i + e ≤ k → k < i + n → p k ≡ false) → ◌≡◌ {A = ℕ} 0 (mask (drop e (bits p i n)))
unfolding bits
none_left p i zero zero h = refl
none_left p i zero (suc e) h = refl
none_left p i (suc n) zero h =
    let b : ◌≡◌ {A = ℕ} (cond (p i) 1 0) 0 = ap (λ x. cond {A = ℕ} x 1 0) (h i (omega arith) (omega arith)) in
    let t = none_left p (suc i) n zero (λ k l m. h k (omega arith) (omega arith)) in
    omega (arith, b, t)
none_left p i (suc n) (suc e) h = none_left p (suc i) n e (λ k l m. h k (omega arith) (omega arith))

-- a set of the first n of a list
pub packs_front : {X : Type 0} (test : X → Bool) (d : X) (xs : List X) (n : ℕ) (r : List ℕ) → n ≤ length xs
    → Packs (upto (length (take n xs)) (λ i. test (get_or (take n xs) i d))) r → Packs (upto n (λ i. test (get_or xs i d))) r
packs_front test d xs n r fits s =
    let e : length (take n xs) ≡ n = length-take-le n xs fits in
    packs_same _ _ r (λ k l. ⊎_elim
    (λ h. upto_in _ (λ i. test (get_or (take n xs) i d)) k (omega arith) ∙ ap test (get_or-take n xs k d h) ∙ sym (upto_in n (λ i. test (get_or xs i d)) k h))
    (λ h. upto_out _ (λ i. test (get_or (take n xs) i d)) k (omega arith) ∙ sym (upto_out n (λ i. test (get_or xs i d)) k h)) (cases_lt k n)) s
