-- Places among names, and small lemmas on lists.
use Rattle.std.proofs.Common.{◌≡◌, ℕ, zero, suc, ◌<◌, true, false, ◌⊎◌, List, [], ◌∷◌, map, length, get_or, Some, None, refl, ap, inl, inr, add-one, arith}
use Rattle.std.specs.Str.{bytes_eq}
use Rattle.std.proofs.lemmas.Slice.Eq.{bytes_eq-Decides}
use Rattle.texts.specs.Places.{place_of}

pub lt_or_eq : (k i : ℕ) → k < suc i → (k < i) ⊎ (k ≡ i)
lt_or_eq zero zero h = inr refl
lt_or_eq zero (suc i) h = inl (omega arith)
lt_or_eq (suc k) zero h = absurd (omega arith)
lt_or_eq (suc k) (suc i) h = elim (lt_or_eq k i (omega arith)) [ inl g ↦ inl (omega arith) | inr g ↦ inr (ap suc g) ]

pub no_true : false ≡ true → ⊥
no_true e = let z : ◌≡◌ {A = ℕ} 0 1 = cc in absurd (omega arith)

pub same_true : (xs ys : List ℕ) → xs ≡ ys → bytes_eq xs ys ≡ true
same_true xs ys e = (bytes_eq-Decides xs ys).1 e

pub same_false : (xs ys : List ℕ) → (xs ≡ ys → ⊥) → bytes_eq xs ys ≡ false
same_false xs ys n = let t = bytes_eq-Decides xs ys in grind arith

pub place_at : (ns : List (List ℕ)) (w : List ℕ) (i : ℕ) → i < length ns → ((d : List ℕ) → get_or ns i d ≡ w) → ((k : ℕ) (d : List ℕ) → k < i → get_or ns k d ≡ w → ⊥) → Some i ≡ place_of ns w
place_at [] w i h e b = absurd (omega arith)
place_at (n ∷ ns) w zero h e b = let t = same_true n w (e []) in rw t
place_at (n ∷ ns) w (suc i) h e b =
    let t = same_false n w (b 0 [] (omega arith)) in
    let ih = place_at ns w i (omega arith) e (λ k d l q. b (suc k) d (omega arith) q) in
    rw (t, ← ih, add-one)

pub place_none : (ns : List (List ℕ)) (w : List ℕ) → ((k : ℕ) (d : List ℕ) → k < length ns → get_or ns k d ≡ w → ⊥) → None ≡ place_of ns w
place_none [] w b = refl
place_none (n ∷ ns) w b =
    let t = same_false n w (b 0 [] (omega arith)) in
    let ih = place_none ns w (λ k d l q. b (suc k) d (omega arith) q) in
    rw (t, ← ih)

pub get_d_any : {A : Type 0} (xs : List A) (i : ℕ) (d e : A) → i < length xs → get_or xs i d ≡ get_or xs i e
get_d_any [] i d e h = absurd (omega arith)
get_d_any (x ∷ xs) zero d e h = refl
get_d_any (x ∷ xs) (suc i) d e h = get_d_any xs i d e (omega arith)

pub getD_mapped : {A B : Type 0} (f : A → B) (xs : List A) (i : ℕ) (d : A) (e : B) → i < length xs → get_or (map f xs) i e ≡ f (get_or xs i d)
getD_mapped f [] i d e h = absurd (omega arith)
getD_mapped f (x ∷ xs) zero d e h = refl
getD_mapped f (x ∷ xs) (suc i) d e h = getD_mapped f xs i d e (omega arith)
