-- What an addition to a keep-once list says of the pairs kept.
use Rattle.std.proofs.Common.{◌≡◌, ℕ, ◌+◌, ◌<◌, true, List, length, set, Some, None, Option, is_some, refl, inl, inr, ⊎_elim}
use mathlib.Core.Bool.{false≢true}
use Rattle.once.specs.Once.{New, At, Adds}
use Rattle.pairs.specs.declared.pair.Pair.{Pair}
use Rattle.pairs.specs.Stages.{Tally, no_pair, Has, Keeps}

abbrev pub alike : Pair → Pair → Type 0
alike p q = (p.state ≡ q.state) × (p.standing ≡ q.standing)

at_has : (E : List Pair) (n x : ℕ) (p : Pair) → At alike E n p x → Has E n p.state p.standing
at_has E n x p h = let a = h.1 no_pair in record { at = x; below = h.0; state = a.0; standing = a.1 }

new_missing : (E : List Pair) (n : ℕ) (p : Pair) → New alike E n p → Has E n p.state p.standing → ⊥
new_missing E n p new h = new h.at no_pair h.below (h.state, h.standing)

-- an addition that finds the pair, or room for it, keeps it
pub adds_keeps : (E : List Pair) (k : Tally) (o : Option ℕ) (p : Pair) (F : List Pair) (n : ℕ) → is_some o ≡ true → Adds alike E k.count p o F n → Keeps E k p F (record { base = k.base; count = n; full = k.full; depth = k.depth })
adds_keeps E k None p F n e h = absurd (false≢true e)
adds_keeps E k (Some x) p F n e h = record {
  base = refl;
  depth = refl;
  ways = ⊎_elim
      (λ (a : At alike E k.count p x × (F ≡ E) × (n ≡ k.count)). inl (at_has E k.count x p a.0, a.1, a.2, refl))
      (λ (a : New alike E k.count p × (k.count < length E) × (x ≡ k.count) × (F ≡ set E k.count p) × (n ≡ k.count + 1)). inr (inl (new_missing E k.count p a.0, a.1, a.3, a.4, refl)))
      h;
}
