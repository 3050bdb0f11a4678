-- The questions of the stuck layer by those of the machine below; n stands for that machine's count.
use Rattle.std.proofs.Common.{◌≡◌, ℕ, ◌+◌, ◌*◌, ◌/◌, ◌%◌, ◌<◌, ◌≤◌, Bool, true, false, cond, ltb, ◌⊎◌, Some, None, sym, refl, ap, ◌∙◌, ⊎_elim, arith, lt-ltb}
use Rattle.std.specs.Option.{option_map}
use Rattle.meaning.specs.Machines.{Meaning, Lawful, asks_steps, asks_step}
use Rattle.meaning.specs.Kinds.{stuck_fits, stuck_meaning}
use Rattle.meaning.proofs.OfLaws.{length_doubled}
use Rattle.machines.proofs.Asked.{step_below}
use Rattle.machines.proofs.Nths.{nth_doubled_low, nth_doubled_high}

fits_few : (m : Meaning) (g : ℕ) → stuck_fits m g ≡ true → m.count ≤ 32768
fits_few m g e = grind arith

zero_or_one : (k : ℕ) → (k % 2 ≡ 0) ⊎ (k % 2 ≡ 1)
zero_or_one k = grind arith

-- the machine below, where it is handed out
pub fitted_is : {X : Type 0} (fits : X → Bool) (x y : X) → Some x ≡ cond (fits y) (Some y) None → (fits x ≡ true) × (y ≡ x)
fitted_is fits x y e = ways (fits y) refl e
  where
    ways : (b : Bool) → fits y ≡ b → Some x ≡ cond b (Some y) None → (fits x ≡ true) × (y ≡ x)
    ways true f e = let q : y ≡ x = cc in (rw q at f, q)
    ways false f e = cc

module _ (m : Meaning) (g : ℕ) (fits : stuck_fits m g ≡ true) where
  even : (s k : ℕ) → s < m.count → k % 2 ≡ 0 → asks_step (stuck_meaning m g) s k ≡ asks_step m s (k / 2)
  even s k h e =
      let a : ltb s m.count ≡ true = lt-ltb s m.count h in
      let b : ltb s (2 * m.count) ≡ true = lt-ltb s (2 * m.count) (omega arith) in
      simp (fits, a, b) (nth_doubled_low m.count (m.steps s) (k / 2) k (omega arith))

  odd : (s k : ℕ) → s < m.count → k % 2 ≡ 1 → asks_step (stuck_meaning m g) s k ≡ option_map (λ t. m.count + t) (asks_step m s (k / 2))
  odd s k h e =
      let a : ltb s m.count ≡ true = lt-ltb s m.count h in
      let b : ltb s (2 * m.count) ≡ true = lt-ltb s (2 * m.count) (omega arith) in
      simp (fits, a, b) (nth_doubled_high m.count (m.steps s) (k / 2) k (omega arith))

  count_doubled : (s : ℕ) → s < m.count → asks_steps (stuck_meaning m g) s ≡ option_map (λ c. 2 * c) (asks_steps m s)
  count_doubled s h =
      let a : ltb s m.count ≡ true = lt-ltb s m.count h in
      let b : ltb s (2 * m.count) ≡ true = lt-ltb s (2 * m.count) (omega arith) in
      simp (fits, a, b) (ap Some (length_doubled m.count (m.steps s)))

  module _ (n : ℕ) (same : n ≡ m.count) where
    pub step_even : (s k t : ℕ) → s < n → k % 2 ≡ 0 → Some t ≡ asks_step m s (k / 2) → Some t ≡ asks_step (stuck_meaning m g) s k
    step_even s k t h e a = a ∙ sym (even s k (omega arith) e)

    pub step_odd : (s k t : ℕ) → s < n → (k % 2 ≡ 0 → ⊥) → Some t ≡ asks_step m s (k / 2) → Some (n + t) ≡ asks_step (stuck_meaning m g) s k
    step_odd s k t h e a = rw same (ap (option_map (λ t. m.count + t)) a ∙ sym (odd s k (omega arith) (omega arith)))

    pub step_none : (s k : ℕ) → s < n → None ≡ asks_step m s (k / 2) → None ≡ asks_step (stuck_meaning m g) s k
    step_none s k h a = ⊎_elim
        (λ (e : k % 2 ≡ 0). a ∙ sym (even s k (omega arith) e))
        (λ (e : k % 2 ≡ 1). ap (option_map (λ t. m.count + t)) a ∙ sym (odd s k (omega arith) e))
        (zero_or_one k)

    pub steps_doubled : (s c : ℕ) → s < n → Some c ≡ asks_steps m s → Some (2 * c) ≡ asks_steps (stuck_meaning m g) s
    steps_doubled s c h a = ap (option_map (λ c. 2 * c)) a ∙ sym (count_doubled s (omega arith))

    -- what the code adds and doubles is small
    pub sum_small : Lawful m → (s k t : ℕ) → Some t ≡ asks_step m s k → n + t < 65536
    sum_small l s k t a = omega (arith, step_below m l s k t a, fits_few m g fits)
