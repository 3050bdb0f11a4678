-- Levels: what is kept covers the walks of so many states.
use Rattle.std.proofs.Common.{◌≡◌, ℕ, zero, suc, ◌+◌, ◌<◌, ◌≤◌, false, List, [], ◌∷◌, ◌++◌, length, get_or, sym, refl, ap, ◌∙◌, subst, ap₂, arith}
use mathlib.Core.Bool.{false≢true}
use Rattle.std.proofs.lemmas.List.{length_push}
use Rattle.meaning.specs.Machines.{Meaning, Among}
use Rattle.pairs.specs.declared.pair.Pair.{Pair}
use Rattle.meaning.specs.Walks.{Walk, last, word}
use Rattle.pairs.specs.Readers.{Reader, standing_of, Broken, after}
use Rattle.pairs.specs.Stages.{no_pair, state_at, next_at, bad, Has, Grows, StartsKept, StartsGood, KeptFrom, GoodFrom, Covered}
use Rattle.pairs.proofs.Walks.{View, one, more, view, walk_some, last_push, standing_push, after_whole}

pub has_grows : (E : List Pair) (n : ℕ) (F : List Pair) (k s q : ℕ) → Grows E n F k → Has E n s q → Has F k s q
has_grows E n F k s q g h = record {
  at = h.at;
  below = omega (arith, h.below, g.more);
  state = ap (λ (p : Pair). p.state) (g.stays h.at h.below) ∙ h.state;
  standing = ap (λ (p : Pair). p.standing) (g.stays h.at h.below) ∙ h.standing;
}

pub kept_grows : (m : Meaning) (r : Reader) (E : List Pair) (n : ℕ) (F : List Pair) (k i : ℕ) → Grows E n F k → i < n → KeptFrom m r E n i → KeptFrom m r F k i
kept_grows m r E n F k i g l h =
    subst (λ (p : Pair). (t : ℕ) → Among t (m.steps p.state) → Has F k t (r.next p.standing (m.letter p.state)))
    (sym (g.stays i l)) (λ t a. has_grows E n F k t (next_at m r E i) g (h t a))

pub good_grows : (m : Meaning) (r : Reader) (E : List Pair) (n : ℕ) (F : List Pair) (k i : ℕ) → Grows E n F k → i < n → GoodFrom m r E i → GoodFrom m r F i
good_grows m r E n F k i g l h =
    subst (λ (p : Pair). (t : ℕ) → Among t (m.steps p.state) → bad m r t (r.next p.standing (m.letter p.state)) ≡ false) (sym (g.stays i l)) h

module _ (m : Meaning) (r : Reader) where
  -- the pair of one more state behind a walk, by the entry of the walk's own pair
  next_pair : (E : List Pair) (n : ℕ) (ys : List ℕ) (t : ℕ) → Walk m ys → (h : Has E n (last ys) (standing_of m r ys)) → standing_of m r (ys ++ (t ∷ [])) ≡ next_at m r E h.at
  next_pair E n ys t w h = standing_push m r ys t w ∙ sym (ap₂ (λ (q s : ℕ). r.next q (m.letter s)) h.standing h.state)

  covered_view : (E : List Pair) (n j : ℕ) (F : List Pair) (k : ℕ) → Covered m r E n j → StartsKept m F k → ((i : ℕ) → i < n → KeptFrom m r F k i) → ((i : ℕ) → i < n → get_or F i no_pair ≡ get_or E i no_pair) → (xs : List ℕ) → View m xs → length xs ≤ j + 1 → Has F k (last xs) (standing_of m r xs)
  covered_view E n j F k c starts kept stays _ (one s a) l = starts s a
  covered_view E n j F k c starts kept stays _ (more ys t w a) l =
      let h = c ys w (omega (arith, length_push ys t)) in
      let e = stays h.at h.below in
      let b : Among t (m.steps (state_at E h.at)) = rw h.state a in
      let x : (t : ℕ) → Among t (m.steps (state_at E h.at)) → Has F k t (next_at m r E h.at) =
      subst (λ (p : Pair). (t : ℕ) → Among t (m.steps p.state) → Has F k t (r.next p.standing (m.letter p.state))) e (kept h.at h.below) in
      let y : Has F k t (next_at m r E h.at) = x t b in
      rw (last_push ys t, next_pair E n ys t w h) y

  pub covered_more : (E : List Pair) (n j : ℕ) (F : List Pair) (k : ℕ) → Covered m r E n j → StartsKept m F k → ((i : ℕ) → i < n → KeptFrom m r F k i) → Grows E n F k → Covered m r F k (j + 1)
  covered_more E n j F k c starts kept g xs w l = covered_view E n j F k c starts kept g.stays xs (view m xs w) l

  pub covered_none : (E : List Pair) (n : ℕ) → Covered m r E n 0
  covered_none E n xs w l = absurd (omega (arith, walk_some m xs w))

  pub covered_all : (E : List Pair) (n : ℕ) → StartsKept m E n → ((i : ℕ) → i < n → KeptFrom m r E n i) → (j : ℕ) → Covered m r E n j
  covered_all E n starts kept zero = covered_none E n
  covered_all E n starts kept (suc j) =
      let h = covered_all E n starts kept j in
      λ xs w l. covered_view E n j E n h starts kept (λ i b. refl) xs (view m xs w) (omega arith)

  good_view : (E : List Pair) (n j : ℕ) → Covered m r E n j → StartsGood m r → ((i : ℕ) → i < n → GoodFrom m r E i) → (xs : List ℕ) → View m xs → length xs ≤ j + 1 → bad m r (last xs) (standing_of m r xs) ≡ false
  good_view E n j c starts good _ (one s a) l = starts s a
  good_view E n j c starts good _ (more ys t w a) l =
      let h = c ys w (omega (arith, length_push ys t)) in
      let b : Among t (m.steps (state_at E h.at)) = rw h.state a in
      rw (last_push ys t, next_pair E n ys t w h) (good h.at h.below t b)

  -- no walk of at most j + 1 states is a breach
  pub all_good : (E : List Pair) (n j : ℕ) → Covered m r E n j → StartsGood m r → ((i : ℕ) → i < n → GoodFrom m r E i) → (xs : List ℕ) → Walk m xs → length xs ≤ j + 1 → Broken m r xs → ⊥
  all_good E n j c starts good xs w l b =
      let g = good_view E n j c starts good xs (view m xs w) l in
      let e = after_whole m r xs w in
      let f : r.says (after r (word m xs)) ≡ false = rw e g in
      false≢true (sym f ∙ b)
