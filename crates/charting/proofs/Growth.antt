-- What a list that keeps once has after additions. Assumes nothing.
use Rattle.std.proofs.Common.{◌≡◌, ℕ, ◌<◌, ◌≢◌, List, get_or, set, Some, sym, ap, ◌∙◌, subst, inl, inr, arith, get_or-set_other, get_or-set_same, below_more}
use denote.Ref.{MutBor}
use Rattle.once.specs.Once.{Grows, GoesOn, Adds, Apart}

pub grows_trans : {X : Type 0} {xs ys zs : List X} {n m o : ℕ} → Grows xs n ys m → Grows ys m zs o → Grows xs n zs o
grows_trans g h = record {
  more = omega (arith, g.more, h.more);
  stays = λ k d p. h.stays k d (omega (arith, p, g.more)) ∙ g.stays k d p;
  rest = λ k d p. h.rest k d p ∙ g.rest k d (omega (arith, p, h.more));
}

pub goes_on_trans : {X : Type 0} {alike : X → X → Type 0} {a b c : MutBor (List X)} {n m o : ℕ} → GoesOn alike a n b m → GoesOn alike b m c o → GoesOn alike a n c o
goes_on_trans g h = record { lent = h.lent ∙ g.lent; size = h.size ∙ g.size; grows = grows_trans g.grows h.grows; apart = λ d. h.apart (g.apart d) }

-- what holds of each kept item and of the added one, holds of each after the addition
pub adds_each : {X : Type 0} (alike : X → X → Type 0) (xs : List X) (n : ℕ) (x : X) (k : ℕ) (ys : List X) (m : ℕ) (d : X) (P : X → Type 0)
    → Adds alike xs n x (Some k) ys m → ((i : ℕ) → i < n → P (get_or xs i d)) → P x → (i : ℕ) → i < m → P (get_or ys i d)
adds_each alike xs n x k ys m d P (inl q) old new i l =
    subst P (ap (λ (zs : List _). get_or zs i d) (sym q.1)) (old i (omega (arith, q.2)))
adds_each alike xs n x k ys m d P (inr q) old new i l =
    let e : get_or ys i d ≡ get_or (set xs n x) i d = ap (λ (zs : List _). get_or zs i d) q.3 in
    subst P (sym e)
    (below_more (λ j. P (get_or (set xs n x) j d)) n
    (λ j h. let ne : j ≢ n = omega arith in subst P (sym (get_or-set_other xs n j x d ne)) (old j h))
    (subst P (sym (get_or-set_same xs n x d q.1)) new)
    i (omega (arith, q.4)))

-- the first item
pub first_kept : {X : Type 0} (alike : X → X → Type 0) (xs : List X) (n : ℕ) (x : X) (k : ℕ) (ys : List X) (m : ℕ) (d : X) → n ≡ 0
    → Adds alike xs n x (Some k) ys m → (m ≡ 1) × (get_or ys 0 d ≡ x)
first_kept alike xs n x k ys m d z (inl q) = absurd (omega (arith, q.0.0))
first_kept alike xs n x k ys m d z (inr q) = (
  omega (arith, q.4),
  ap (λ (i : ℕ). get_or ys i d) (sym z) ∙ ap (λ (zs : List _). get_or zs n d) q.3 ∙ get_or-set_same xs n x d q.1,
)

pub none_apart : {X : Type 0} (alike : X → X → Type 0) (xs : List X) (n : ℕ) → n ≡ 0 → Apart alike xs n
none_apart alike xs n e = record { differ = λ i j d less l q. absurd (omega arith) }
