-- A walk by its last state.
use Rattle.std.proofs.Common.{◌≡◌, ℕ, ◌<◌, List, [], ◌∷◌, ◌++◌, length, sym, refl, ap, ◌∙◌, append_assoc, arith}
use mathlib.Core.List.{foldl-append}
use Rattle.std.proofs.lemmas.List.{map-append}
use Rattle.meaning.specs.Machines.{Meaning, Among}
use Rattle.meaning.specs.Walks.{Steps, Walk, word, last_from, last, front_from, front}
use Rattle.pairs.specs.Readers.{Reader, after, standing_of}

last_from_push : (s : ℕ) (ts : List ℕ) (t : ℕ) → last_from s (ts ++ (t ∷ [])) ≡ t
last_from_push s [] t = refl
last_from_push s (u ∷ us) t = last_from_push u us t

pub last_push : (xs : List ℕ) (t : ℕ) → last (xs ++ (t ∷ [])) ≡ t
last_push [] t = refl
last_push (s ∷ ts) t = last_from_push s ts t

front_from_push : (s : ℕ) (ts : List ℕ) (t : ℕ) → front_from s (ts ++ (t ∷ [])) ≡ s ∷ ts
front_from_push s [] t = refl
front_from_push s (u ∷ us) t = ap (λ (l : List ℕ). s ∷ l) (front_from_push u us t)

pub front_push : (xs : List ℕ) (t : ℕ) → front (xs ++ (t ∷ [])) ≡ xs
front_push [] t = refl
front_push (s ∷ ts) t = front_from_push s ts t

front_last : (s : ℕ) (ts : List ℕ) → front_from s ts ++ (last_from s ts ∷ []) ≡ s ∷ ts
front_last s [] = refl
front_last s (t ∷ ts) = ap (λ (l : List ℕ). s ∷ l) (front_last t ts)

steps_push : (m : Meaning) (s : ℕ) (ts : List ℕ) (t : ℕ) → Steps m s ts → Among t (m.steps (last_from s ts)) → Steps m s (ts ++ (t ∷ []))
steps_push m s [] t w a = (a, tt)
steps_push m s (u ∷ us) t w a = (w.0, steps_push m u us t w.1 a)

pub walk_push : (m : Meaning) (xs : List ℕ) (t : ℕ) → Walk m xs → Among t (m.steps (last xs)) → Walk m (xs ++ (t ∷ []))
walk_push m [] t w a = absurd w
walk_push m (s ∷ ts) t w a = (w.0, steps_push m s ts t w.1 a)

module _ (m : Meaning) (r : Reader) where
  after_push : (xs : List ℕ) (t : ℕ) → after r (word m (xs ++ (t ∷ []))) ≡ r.next (after r (word m xs)) (m.letter t)
  after_push xs t = rw map-append (foldl-append r.next 0 (word m xs) (m.letter t ∷ []))

  -- the standing after the whole word, by the pair
  pub after_whole : (xs : List ℕ) → Walk m xs → after r (word m xs) ≡ r.next (standing_of m r xs) (m.letter (last xs))
  after_whole [] w = absurd w
  after_whole (s ∷ ts) w = ap (λ (l : List ℕ). after r (word m l)) (sym (front_last s ts)) ∙ after_push (front_from s ts) (last_from s ts)

  pub standing_push : (xs : List ℕ) (t : ℕ) → Walk m xs → standing_of m r (xs ++ (t ∷ [])) ≡ r.next (standing_of m r xs) (m.letter (last xs))
  standing_push xs t w = ap (λ (l : List ℕ). after r (word m l)) (front_push xs t) ∙ after_whole xs w

-- a walk is a start, or one more step behind a walk
pub data View (m : Meaning) : List ℕ → Type 0 where
  one : (s : ℕ) → Among s m.starts → View m (s ∷ [])
  more : (ys : List ℕ) (t : ℕ) → Walk m ys → Among t (m.steps (last ys)) → View m (ys ++ (t ∷ []))

view_from : (m : Meaning) (ts ys : List ℕ) (t : ℕ) → Walk m ys → Among t (m.steps (last ys)) → Steps m t ts → View m (ys ++ (t ∷ ts))
view_from m [] ys t w a h = more ys t w a
view_from m (u ∷ us) ys t w a h =
    let b : Among u (m.steps (last (ys ++ (t ∷ [])))) = rw (last_push ys t) h.0 in
    let v : View m ((ys ++ (t ∷ [])) ++ (u ∷ us)) = view_from m us (ys ++ (t ∷ [])) u (walk_push m ys t w a) b h.1 in
    rw append_assoc at v

pub view : (m : Meaning) (xs : List ℕ) → Walk m xs → View m xs
view m [] w = absurd w
view m (s ∷ []) w = one s w.0
view m (s ∷ (t ∷ ts)) w = view_from m ts (s ∷ []) t (w.0, tt) w.1.0 w.1.1

pub walk_some : (m : Meaning) (xs : List ℕ) → Walk m xs → 0 < length xs
walk_some m [] w = absurd w
walk_some m (s ∷ ts) w = omega arith
