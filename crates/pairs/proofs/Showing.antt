-- Writing the walk of an entry, from its end.
use Rattle.std.proofs.Common.{◌≡◌, ℕ, suc, ◌+◌, ◌-◌, ◌<◌, ◌≤◌, List, [], ◌∷◌, ◌++◌, length, take, drop, set, sym, refl, ap, ⊎_elim, append_assoc, add-one, arith}
use Rattle.std.proofs.lemmas.List.{drop-set}
use Rattle.pairs.specs.declared.pair.Pair.{Pair}
use Rattle.pairs.specs.Stages.{state_at, parent_at, depth_at, chain, Rooted}

-- the walk that is written, seen from place k on, with entry at before it
abbrev pub written : List Pair → ℕ → ℕ → ℕ → List ℕ → List ℕ
written E d k at w = chain E k at ++ take (d + 1 - k) (drop k w)

pub written_more : (E : List Pair) (d k k' at : ℕ) (w : List ℕ) → k ≡ suc k' → k ≤ d → d < length w → written E d k' (parent_at E at) (set w k' (state_at E at)) ≡ written E d k at w
written_more E d k k' at w e l room =
    let x : drop k' (set w k' (state_at E at)) ≡ state_at E at ∷ drop (suc k') w = rw (← add-one) (drop-set w k' (state_at E at) (omega arith)) in
    let y : d + 1 - k' ≡ suc (d + 1 - suc k') = omega arith in
    rw (x, y, e) (sym (append_assoc (chain E k' (parent_at E at)) (state_at E at ∷ []) (take (d + 1 - suc k') (drop (suc k') w))))

-- before the last state is written, and when all is
pub written_first : (E : List Pair) (d at t : ℕ) (w : List ℕ) → d < length w → written E d d at (set w d t) ≡ chain E d at ++ (t ∷ [])
written_first E d at t w room =
    let x : drop d (set w d t) ≡ t ∷ drop (d + 1) w = drop-set w d t room in
    let y : d + 1 - d ≡ 1 = omega arith in
    rw (x, y) refl

pub up : (E : List Pair) (top at k k' : ℕ) → Rooted E (top + 1) → k ≡ suc k' → (at ≤ top) × (depth_at E at ≡ k) → 0 < k' → (parent_at E at ≤ top) × (depth_at E (parent_at E at) ≡ k')
up E top at k k' rooted e h some = ⊎_elim
    (λ (o : depth_at E at ≡ 1). absurd (omega (arith, h.1)))
    (λ (b : (parent_at E at < at) × (depth_at E at ≡ depth_at E (parent_at E at) + 1)). (omega (arith, b.0, h.0), omega (arith, b.1, h.1)))
    (rooted at (omega (arith, h.0)))

pub written_last : (E : List Pair) (d k at : ℕ) (w : List ℕ) → k ≤ 0 → written E d k at w ≡ take (d + 1) w
written_last E d k at w l =
    let e : k ≡ 0 = omega arith in
    let y : d + 1 - 0 ≡ d + 1 = omega arith in
    rw e (ap (λ (n : ℕ). take n w) y)
