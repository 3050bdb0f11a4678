-- The entries' own walks.
use Rattle.std.proofs.Common.{◌≡◌, ℕ, zero, suc, ◌+◌, ◌<◌, List, [], ◌∷◌, ◌++◌, length, get_or, sym, refl, ◌∙◌, subst, ap₂, ⊎_elim, arith}
use Rattle.std.proofs.lemmas.List.{length_push}
use Rattle.meaning.specs.Machines.{Meaning, Among}
use Rattle.pairs.specs.declared.pair.Pair.{Pair}
use Rattle.meaning.specs.Walks.{Walk, last}
use Rattle.pairs.specs.Readers.{Reader, standing_of}
use Rattle.pairs.specs.Stages.{no_pair, state_at, standing_at, parent_at, depth_at, next_at, Comes, chain}
use Rattle.pairs.proofs.Walks.{walk_push, last_push, standing_push}

-- xs is a walk of d states with the pair s, q
pub record Leads (m : Meaning) (r : Reader) (d s q : ℕ) (xs : List ℕ) : Type 0 where
  pub walks : Walk m xs
  pub states : length xs ≡ d
  pub ends : last xs ≡ s
  pub standing : standing_of m r xs ≡ q

pub leads_step : (m : Meaning) (r : Reader) (d s q t : ℕ) (xs : List ℕ) → Leads m r d s q xs → Among t (m.steps s) → Leads m r (suc d) t (r.next q (m.letter s)) (xs ++ (t ∷ []))
leads_step m r d s q t xs h a = record {
  walks = walk_push m xs t h.walks (rw h.ends a);
  states = omega (arith, length_push xs t, h.states);
  ends = last_push xs t;
  standing = standing_push m r xs t h.walks ∙ ap₂ (λ (q s : ℕ). r.next q (m.letter s)) h.standing h.ends;
}

module _ (m : Meaning) (r : Reader) (E : List Pair) (n : ℕ) (comes : (i : ℕ) → i < n → Comes m r E i (get_or E i no_pair)) where
  pub deep : (i : ℕ) → i < n → 0 < depth_at E i
  deep i l = ⊎_elim (λ a. omega (arith, a.2)) (λ b. omega (arith, b.3)) (comes i l)

  leads_start : (d i : ℕ) → Among (state_at E i) m.starts → standing_at E i ≡ 0 → suc d ≡ 1 → Leads m r (suc d) (state_at E i) (standing_at E i) (chain E (suc d) i)
  leads_start zero i a e f = record { walks = (a, tt); states = refl; ends = refl; standing = sym e }
  leads_start (suc d) i a e f = absurd (omega arith)

  pub leads : (d i : ℕ) → i < n → d ≡ depth_at E i → Leads m r d (state_at E i) (standing_at E i) (chain E d i)
  leads zero i l e = absurd (omega (arith, deep i l))
  leads (suc d) i l e =
      ⊎_elim
      (λ (a : Among (state_at E i) m.starts × (standing_at E i ≡ 0) × (depth_at E i ≡ 1)). leads_start d i a.0 a.1 (e ∙ a.2))
      (λ (b : (parent_at E i < i) × Among (state_at E i) (m.steps (state_at E (parent_at E i))) × (standing_at E i ≡ next_at m r E (parent_at E i)) × (depth_at E i ≡ depth_at E (parent_at E i) + 1)).
      subst (λ (q : ℕ). Leads m r (suc d) (state_at E i) q (chain E (suc d) i)) (sym b.2)
      (leads_step m r d (state_at E (parent_at E i)) (standing_at E (parent_at E i)) (state_at E i) (chain E d (parent_at E i)) (leads d (parent_at E i) (omega (arith, b.0)) (omega (arith, b.3))) b.1))
      (comes i l)

  -- a walk of what comes behind the entries
  pub comes_leads : (p : Pair) → Comes m r E n p → (xs : List ℕ) × Leads m r p.depth p.state p.standing xs
  comes_leads p c =
      ⊎_elim
      (λ (a : Among p.state m.starts × (p.standing ≡ 0) × (p.depth ≡ 1)). (p.state ∷ [], record { walks = (a.0, tt); states = sym a.2; ends = refl; standing = sym a.1 }))
      (λ (b : (p.parent < n) × Among p.state (m.steps (state_at E p.parent)) × (p.standing ≡ next_at m r E p.parent) × (p.depth ≡ depth_at E p.parent + 1)).
      let x = leads (depth_at E p.parent) p.parent b.0 refl in
      let xs = chain E (depth_at E p.parent) p.parent in
      let y = leads_step m r (depth_at E p.parent) (state_at E p.parent) (standing_at E p.parent) p.state xs x b.1 in
      (xs ++ (p.state ∷ []), record { walks = y.walks; states = omega (arith, y.states, b.3); ends = y.ends; standing = y.standing ∙ sym b.2 }))
      c
