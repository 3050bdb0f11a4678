-- What words reach, a letter at a time. Assumes nothing.
use Rattle.std.proofs.Common.{◌≡◌, ℕ, ◌+◌, ◌*◌, ◌<◌, ◌≤◌, Bool, List, [], ◌∷◌, ◌++◌, get_or, sym, refl, ap, ◌∙◌, ⊎_elim, arith}
use Rattle.std.proofs.lemmas.Bool.{cases_lt}
use Rattle.charting.specs.Sets.{bit_of, Packs, upto}
use Rattle.charting.specs.Walks.{Closed, trace, led, Reached}
use Rattle.charting.proofs.SetSteps.{packs_same, packs_at, upto_in, upto_out}

pub trace_end : (tb u : List ℕ) (s i : ℕ) → trace tb (u ++ s ∷ []) i ≡ trace tb u (get_or tb (i * 256 + s) 0)
trace_end tb [] s i = refl
trace_end tb (x ∷ u) s i = ap (λ (j : ℕ). get_or tb (j * 256 + x) 0) (trace_end tb u s i)

module _ (tb : List ℕ) (a : ℕ) (first : List ℕ) (closed : Closed tb a) where
  -- what a word with a letter after it reaches
  pub reached_step : (u from r : List ℕ) (s : ℕ) → s < 256 → Reached tb a first u from → Packs (led tb a from s) r → Reached tb a first (u ++ s ∷ []) r
  reached_step u from r s l h p = packs_same (led tb a from s) (upto a (λ i. bit_of first (trace tb (u ++ s ∷ []) i))) r
      (λ k below. ⊎_elim
      (λ in_a.
      let j = get_or tb (k * 256 + s) 0 in
      let jl : j < a = closed.below (k * 256 + s) (omega arith) in
      upto_in a (λ i. bit_of from (get_or tb (i * 256 + s) 0)) k in_a
      ∙ packs_at (upto a (λ i. bit_of first (trace tb u i))) from h j (omega (arith, jl, closed.few))
      ∙ upto_in a (λ i. bit_of first (trace tb u i)) j jl
      ∙ ap (bit_of first) (sym (trace_end tb u s k))
      ∙ sym (upto_in a (λ i. bit_of first (trace tb (u ++ s ∷ []) i)) k in_a))
      (λ out. upto_out a (λ i. bit_of from (get_or tb (i * 256 + s) 0)) k out ∙ sym (upto_out a (λ i. bit_of first (trace tb (u ++ s ∷ []) i)) k out))
      (cases_lt k a)) p

pub reached_first : (tb : List ℕ) (a : ℕ) (p : ℕ → Bool) (r : List ℕ) → a ≤ 512 → Packs (upto a p) r → Reached tb a r [] r
reached_first tb a p r few s = packs_same (upto a p) (upto a (bit_of r)) r
    (λ k l. ⊎_elim (λ h. sym (upto_in a (bit_of r) k h ∙ packs_at (upto a p) r s k l)) (λ h. upto_out a p k h ∙ sym (upto_out a (bit_of r) k h)) (cases_lt k a)) s
