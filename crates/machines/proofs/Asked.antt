-- What code over any lawful machine knows of an answer: none never comes inside the ranges.
use Rattle.std.proofs.Common.{◌≡◌, ℕ, ◌<◌, true, ltb, length, get_or, Some, None, Option, sym, refl, arith, lt-ltb}
use Rattle.std.proofs.lemmas.Option.{slice_get-get_or}
use Rattle.meaning.specs.Machines.{Meaning, Lawful, asks_start, asks_steps, asks_step}
use Rattle.machines.proofs.Nths.{nth_all}

clash : {X : Type 0} (x : X) (o : Option X) → o ≡ Some x → None ≡ o → ⊥
clash x o e f = cc

same : {X : Type 0} (x y : X) (o : Option X) → o ≡ Some x → Some y ≡ o → y ≡ x
same x y o e f = cc

module _ (m : Meaning) where
  -- the k-th start
  pub start_none : (k : ℕ) → k < length m.starts → None ≡ asks_start m k → ⊥
  start_none k h e = clash (get_or m.starts k 0) (asks_start m k) (slice_get-get_or m.starts k 0 h) e

  pub start_value : (k s : ℕ) → k < length m.starts → Some s ≡ asks_start m k → s ≡ get_or m.starts k 0
  start_value k s h e = same (get_or m.starts k 0) s (asks_start m k) (slice_get-get_or m.starts k 0 h) e

  pub start_below : Lawful m → (k s : ℕ) → Some s ≡ asks_start m k → s < m.count
  start_below l k s e = nth_all (λ s. s < m.count) m.starts k s l.starts_below (sym e)

  -- how many steps a state has
  step_count_is : (s : ℕ) → s < m.count → asks_steps m s ≡ Some (length (m.steps s))
  step_count_is s h = let b : ltb s m.count ≡ true = lt-ltb s m.count h in rw b refl

  pub step_count_none : (s : ℕ) → s < m.count → None ≡ asks_steps m s → ⊥
  step_count_none s h e = clash (length (m.steps s)) (asks_steps m s) (step_count_is s h) e

  pub step_count_value : (s n : ℕ) → s < m.count → Some n ≡ asks_steps m s → n ≡ length (m.steps s)
  step_count_value s n h e = same (length (m.steps s)) n (asks_steps m s) (step_count_is s h) e

  -- the k-th step of a state
  step_is : (s k : ℕ) → s < m.count → k < length (m.steps s) → asks_step m s k ≡ Some (get_or (m.steps s) k 0)
  step_is s k h i = let b : ltb s m.count ≡ true = lt-ltb s m.count h in rw b (slice_get-get_or (m.steps s) k 0 i)

  pub step_none : (s k : ℕ) → s < m.count → k < length (m.steps s) → None ≡ asks_step m s k → ⊥
  step_none s k h i e = clash (get_or (m.steps s) k 0) (asks_step m s k) (step_is s k h i) e

  pub step_value : (s k t : ℕ) → s < m.count → k < length (m.steps s) → Some t ≡ asks_step m s k → t ≡ get_or (m.steps s) k 0
  step_value s k t h i e = same (get_or (m.steps s) k 0) t (asks_step m s k) (step_is s k h i) e

  step_inside : (s k t : ℕ) → Some t ≡ asks_step m s k → s < m.count
  step_inside s k t e = grind arith

  pub step_below : Lawful m → (s k t : ℕ) → Some t ≡ asks_step m s k → t < m.count
  step_below l s k t e =
      let h : s < m.count = step_inside s k t e in
      let b : ltb s m.count ≡ true = lt-ltb s m.count h in
      nth_all (λ t. t < m.count) (m.steps s) k t (l.steps_below s h) (sym (rw b at e))
