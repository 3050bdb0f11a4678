-- An element of a list after a write. Assumes nothing.
use Rattle.std.proofs.Common.{◌≡◌, ℕ, zero, suc, ◌<◌, ◌⊎◌, inl, inr, List, [], ◌∷◌, map, length, Some, None, refl, sym, ap, ◌∙◌, arith, slice_get, slice_index_or, slice_set}

pub get_at : {X : Type 0} (xs : List X) (i : ℕ) (d : X) → i < length xs → slice_get xs i ≡ Some (slice_index_or xs i d)
get_at [] i d h = absurd (omega arith)
get_at (y ∷ xs) zero d h = refl
get_at (y ∷ xs) (suc i) d h = get_at xs i d (omega arith)

-- what stands at a place after a write: the new element there, and the old one elsewhere
pub get_after_set : {X : Type 0} (xs : List X) (i : ℕ) (x : X) (k : ℕ) (y : X) → slice_get (slice_set xs i x) k ≡ Some y
    → ((k ≡ i) × (y ≡ x)) ⊎ ((k ≡ i → ⊥) × (slice_get xs k ≡ Some y))
get_after_set [] i x k y e = absurd (cc)
get_after_set (z ∷ xs) zero x zero y e = inl (refl, cc)
get_after_set (z ∷ xs) zero x (suc k) y e = inr (λ (j : suc k ≡ zero). cc, e)
get_after_set (z ∷ xs) (suc i) x zero y e = inr (λ (j : zero ≡ suc i). cc, e)
get_after_set (z ∷ xs) (suc i) x (suc k) y e =
    elim (get_after_set xs i x k y e) [
      | inl p ↦ inl (ap suc p.0, p.1)
      | inr p ↦ inr (λ (j : suc k ≡ suc i). p.0 (cc), p.1)
    ]

-- a write leaves the other elements
pub other_after_set : {X : Type 0} (xs : List X) (i : ℕ) (x : X) (k : ℕ) → (k ≡ i → ⊥) → slice_get (slice_set xs i x) k ≡ slice_get xs k
other_after_set [] i x k ne = refl
other_after_set (z ∷ xs) zero x zero ne = absurd (ne refl)
other_after_set (z ∷ xs) zero x (suc k) ne = refl
other_after_set (z ∷ xs) (suc i) x zero ne = refl
other_after_set (z ∷ xs) (suc i) x (suc k) ne = other_after_set xs i x k (λ e. ne (ap suc e))

-- a write of an element with the same image keeps the images
pub map_after_set : {X Y : Type 0} (f : X → Y) (xs : List X) (i : ℕ) (old new : X) → slice_get xs i ≡ Some old → f new ≡ f old → map f (slice_set xs i new) ≡ map f xs
map_after_set f [] i old new g e = refl
map_after_set f (x ∷ xs) zero old new g e =
    let same : x ≡ old = cc in
    ap (λ y. y ∷ map f xs) (e ∙ ap f (sym same))
map_after_set f (x ∷ xs) (suc i) old new g e = ap (λ ys. f x ∷ ys) (map_after_set f xs i old new g e)

pub get_mapped : {X Y : Type 0} (f : X → Y) (xs : List X) (i : ℕ) (x : X) → slice_get xs i ≡ Some x → slice_get (map f xs) i ≡ Some (f x)
get_mapped f [] i x e = absurd (cc)
get_mapped f (y ∷ xs) zero x e = let same : y ≡ x = cc in ap (λ z. Some (f z)) same
get_mapped f (y ∷ xs) (suc i) x e = get_mapped f xs i x e

pub none_past : {X : Type 0} (xs : List X) (i : ℕ) → (i < length xs → ⊥) → slice_get xs i ≡ None
none_past [] i h = refl
none_past (x ∷ xs) zero h = absurd (h (omega arith))
none_past (x ∷ xs) (suc i) h = none_past xs i (λ l. h (omega arith))
