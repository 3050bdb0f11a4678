-- Searches over the sample file's table: the first rule is shown, the second is clear, and under the stuck layer it is shown. Assumes nothing.
use Rattle.std.proofs.Common.{◌≡◌, ℕ, zero, suc, ◌<◌, ◌≤◌, Bool, false, ◌⊎◌, List, [], ◌∷◌, ◌++◌, map, length, get_or, drop, Ok, Err, sym, refl, ap, ◌∙◌, subst, inl, inr, ⊎_elim, append_assoc, append-nil, arith, length-drop}
use mathlib.Core.Logic.{∥∥₁_elim}
use mathlib.Core.HLevel.{⊥_prop}
use mathlib.Core.Bool.{false≢true}
use mathlib.Core.List.{foldl-append, cons≢nil}
use Rattle.meaning.specs.declared.refusals.SearchingFault.TheVariants.{PairsExceed}
use Rattle.meaning.specs.declared.answers.Verdict.TheVariants.{Shown, Clear}
use Rattle.logic.specs.Formula.{Formula, Letter, Letters, on, same}
use Rattle.logic.specs.Rule.{negated}
use Rattle.logic.specs.Witness.{Breach}
use Rattle.logic.specs.Labels.{whole, kept, label}
use Rattle.logic.specs.Standings.{label_same, hit, chart, after, says_breach}
use Rattle.logic.specs.Counting.{Classes}
use Rattle.logic.proofs.Sat.{breach_is_sat}
use Rattle.logic.proofs.Tables.{one_count}
use Rattle.logic.proofs.Explore.{letters?, closed?, right, same_chart}
use Rattle.meaning.specs.Charts.{WithinStanding, SameStanding}
use Rattle.meaning.specs.Machines.{Meaning, Among}
use Rattle.meaning.specs.Walks.{Steps, Walk, word, last, last_from, front, front_from, Breaking, Shorter, SamePair, ShorterFit, Pairs}
use Rattle.meaning.specs.Right.{Searches}
use Rattle.meaning.specs.Examples.{first_rule, second_rule, sample_machine}
use Rattle.meaning.specs.Worked.{stuck_machine}
use Rattle.meaning.proofs.OfBridges.{standings_as_lists}
use Rattle.meaning.proofs.Determined.{pair_turn, pair_join}

-- ---- the first rule: states 0 and 1 are a breach

abbrev f : Formula
f = negated first_rule

within_itself : (g : Formula) (u : List ℕ) → WithinStanding g u u
within_itself g u v l b = ∣ (v, l, b, λ h k. (λ x. x, λ x. x)) ∣₁

only_start : (s : ℕ) → Among s (0 ∷ []) → s ≡ 0
only_start s m = ⊎_elim (λ e. e) (λ n. absurd n) m

-- state 0 alone is no breach, states 0 and 1 are one
one_state : Breach f (0 ∷ []) → ⊥
unfolding on
one_state b = false≢true ((breach_is_sat f (0 ∷ [])).0 b)

two_states : Breaking f sample_machine (0 ∷ (1 ∷ []))
unfolding on
two_states = ((inl refl, (inl refl, tt)), (breach_is_sat f (0 ∷ (3 ∷ []))).1 refl)

at_least_two : (ys : List ℕ) → Breaking f sample_machine ys → 2 ≤ length ys
at_least_two [] b = absurd b.0
at_least_two (s ∷ []) b = absurd (one_state (subst (λ t. Breach f (word sample_machine (t ∷ []))) (only_start s b.0.0) b.1))
at_least_two (s ∷ (t ∷ ts)) b = omega arith

start_alone : Walk sample_machine (0 ∷ [])
start_alone = (inl refl, tt)

covered : (x : List ℕ) → Shorter sample_machine 2 x → SamePair f sample_machine x (0 ∷ [])
covered [] h = absurd h.0
covered (s ∷ []) h = (only_start s h.0.0, (within_itself f [], within_itself f []))
covered (s ∷ (t ∷ ts)) h = absurd (omega (arith, h.1))

one_pair : Classes (Shorter sample_machine 2) (SamePair f sample_machine) 1
one_pair = record {
  one = λ i. 0 ∷ [];
  inside = λ i l. (start_alone, omega arith);
  covers = λ x h. (0, omega arith, covered x h);
  differ = λ i j less l h. omega arith;
}

pub first_shown : Searches f sample_machine 1 (9 ∷ (9 ∷ (9 ∷ []))) (Ok (Shown 2), 0 ∷ (1 ∷ (9 ∷ [])))
first_shown = (
  record { a_start = cons≢nil; few_states = omega arith; long_area = omega arith },
  record {
    same_length = refl;
    within = omega arith;
    shortest = record { breach = two_states; least = at_least_two };
    fit_before = ∣ (1, omega arith, one_pair) ∣₁;
    rest = refl;
  },
)

pub first_refused : Searches f sample_machine 0 (9 ∷ []) (Err PairsExceed, 9 ∷ [])
first_refused = (
  record { a_start = cons≢nil; few_states = omega arith; long_area = omega arith },
  (
    λ s. ∥∥₁_elim s ⊥_prop
        (λ x. ∥∥₁_elim x.2 ⊥_prop
        (λ y. let k = y.2.covers (0 ∷ []) (start_alone, at_least_two x.0 x.1.breach) in omega (arith, k.1, y.1))),
    λ c. c.0 (0 ∷ (1 ∷ [])) two_states,
  ),
  refl,
)

-- ---- the second rule: a walk is at one of three pairs, and no breach

abbrev f₂ : Formula
f₂ = negated second_rule

abbrev ks : List Formula
ks = kept f₂

-- a word for each of its labels
abbrev label_words : List (List ℕ)
label_words = [] ∷ (2 ∷ []) ∷ (0 ∷ 2 ∷ []) ∷ (1 ∷ 2 ∷ []) ∷ (2 ∷ 2 ∷ []) ∷ (3 ∷ 2 ∷ []) ∷ (0 ∷ 1 ∷ 2 ∷ []) ∷ (2 ∷ 1 ∷ 2 ∷ []) ∷ []

abbrev ls : List (List Bool)
ls = map (label ks) label_words

-- the chart after a word
abbrev run : List ℕ → List Bool
run u = chart ks ls (hit f₂ ks) u

alike : (u v : List ℕ) → Letters u → Letters v → run u ≡ run v → SameStanding f₂ u v
unfolding on same label_same letters? closed?
alike u v lu lv e =
    (standings_as_lists f₂ u v).1
    (λ ℓ. (same_chart f₂ label_words refl refl refl refl u v lu lv e ℓ, same_chart f₂ label_words refl refl refl refl v u lv lu (sym e) ℓ))

run_more : (u : List ℕ) (a : ℕ) → run (u ++ (a ∷ [])) ≡ after ks ls (run u) a
run_more u a = foldl-append (after ks ls) _ u (a ∷ [])

-- where a walk stands: at a state, with the letters before it
data At (s : ℕ) (u : List ℕ) : Type 0 where
  at_first : s ≡ 0 → run u ≡ run [] → At s u
  at_one : s ≡ 1 → run u ≡ run (0 ∷ []) → At s u
  at_nought : s ≡ 0 → run u ≡ run (0 ∷ (3 ∷ [])) → At s u

only : (s t : ℕ) → Among s (t ∷ []) → s ≡ t
only s t m = ⊎_elim (λ e. e) (λ n. absurd n) m

run_letter : (s t : ℕ) (u v : List ℕ) → s ≡ t → run u ≡ run v → run (u ++ (sample_machine.letter s ∷ [])) ≡ after ks ls (run v) (sample_machine.letter t)
run_letter s t u v e r = run_more u (sample_machine.letter s) ∙ mathlib.Core.Path.ap₂ (λ x y. after ks ls x (sample_machine.letter y)) r e

stepped : (s t : ℕ) (u : List ℕ) → At s u → Among t (sample_machine.steps s) → At t (u ++ (sample_machine.letter s ∷ []))
unfolding on same label_same
stepped s t u (at_first e r) m = at_one (only t 1 (subst (λ x. Among t (sample_machine.steps x)) e m)) (run_letter s 0 u [] e r)
stepped s t u (at_one e r) m = at_nought (only t 0 (subst (λ x. Among t (sample_machine.steps x)) e m)) (run_letter s 1 u (0 ∷ []) e r)
stepped s t u (at_nought e r) m = at_one (only t 1 (subst (λ x. Among t (sample_machine.steps x)) e m)) (run_letter s 0 u (0 ∷ (3 ∷ [])) e r)

letter_at : (s : ℕ) (u : List ℕ) → At s u → Letter (sample_machine.letter s)
letter_at s u (at_first e r) = subst (λ x. Letter (sample_machine.letter x)) (sym e) (omega arith)
letter_at s u (at_one e r) = subst (λ x. Letter (sample_machine.letter x)) (sym e) (omega arith)
letter_at s u (at_nought e r) = subst (λ x. Letter (sample_machine.letter x)) (sym e) (omega arith)

walked : (ts : List ℕ) (s : ℕ) (u : List ℕ) → At s u → Letters u → Steps sample_machine s ts
    → At (last_from s ts) (u ++ word sample_machine (front_from s ts)) × Letters (u ++ word sample_machine (front_from s ts))
walked [] s u a l h = (subst (At s) (sym (append-nil u)) a, subst Letters (sym (append-nil u)) l)
walked (t ∷ ts) s u a l h =
    let v = u ++ (sample_machine.letter s ∷ []) in
    let k = walked ts t v (stepped s t u a h.0) (Rattle.logic.proofs.Tables.letters_append u (sample_machine.letter s ∷ []) l (letter_at s u a, tt)) h.1 in
    let e = append_assoc u (sample_machine.letter s ∷ []) (word sample_machine (front_from t ts)) in
    (subst (At (last_from t ts)) e k.0, subst Letters e k.1)

stands : (xs : List ℕ) → Walk sample_machine xs → At (last xs) (word sample_machine (front xs)) × Letters (word sample_machine (front xs))
stands [] h = absurd h
stands (s ∷ ts) h = walked ts s [] (at_first (only s 0 h.0) refl) tt h.1

-- its whole word: the letters before the last state, and that of the last
word_split : (m : Meaning) (s : ℕ) (ts : List ℕ) → word m (s ∷ ts) ≡ word m (front_from s ts) ++ (m.letter (last_from s ts) ∷ [])
word_split m s [] = refl
word_split m s (t ∷ ts) = ap (λ z. m.letter s ∷ z) (word_split m t ts)

kept_so_far : (s : ℕ) (u : List ℕ) → At s u → says_breach ks ls (run (u ++ (sample_machine.letter s ∷ []))) ≡ false
unfolding on same label_same
kept_so_far s u (at_first e r) = ap (says_breach ks ls) (run_letter s 0 u [] e r)
kept_so_far s u (at_one e r) = ap (says_breach ks ls) (run_letter s 1 u (0 ∷ []) e r)
kept_so_far s u (at_nought e r) = ap (says_breach ks ls) (run_letter s 0 u (0 ∷ (3 ∷ [])) e r)

second_none : (xs : List ℕ) → Breaking f₂ sample_machine xs → ⊥
unfolding on same label_same letters? closed?
second_none [] b = absurd b.0
second_none (s ∷ ts) b =
    let k = stands (s ∷ ts) b.0 in
    let u = word sample_machine (front_from s ts) in
    let a = sample_machine.letter (last_from s ts) in
    let l : Letters (u ++ (a ∷ [])) = Rattle.logic.proofs.Tables.letters_append u (a ∷ []) k.1 (letter_at (last_from s ts) u k.0, tt) in
    let says = (right f₂ label_words refl refl refl refl (u ++ (a ∷ [])) l).breach.1 (subst (Breach f₂) (word_split sample_machine s ts) b.1) in
    false≢true (sym (kept_so_far (last_from s ts) u k.0) ∙ says)

-- a walk for each pair
abbrev three : ℕ → List ℕ
three i = get_or ((0 ∷ []) ∷ (0 ∷ 1 ∷ []) ∷ (0 ∷ 1 ∷ 0 ∷ []) ∷ []) i []

three_walks : (i : ℕ) → i < 3 → Walk sample_machine (three i)
three_walks zero l = (inl refl, tt)
three_walks (suc zero) l = (inl refl, (inl refl, tt))
three_walks (suc (suc zero)) l = (inl refl, (inl refl, (inl refl, tt)))
three_walks (suc (suc (suc i))) l = absurd (omega arith)

-- the letter 2 tells the standing after 0, 3 from the first one
told_by_full : SameStanding f₂ [] (0 ∷ (3 ∷ [])) → ⊥
unfolding on
told_by_full h =
    ∥∥₁_elim (h.1 (2 ∷ []) (omega arith, tt) ((breach_is_sat f₂ (0 ∷ (3 ∷ (2 ∷ [])))).1 refl)) ⊥_prop
    (λ x. false≢true ((breach_is_sat f₂ (2 ∷ [])).0 ((x.3 f₂ whole).1 x.2)))

three_differ : (i j : ℕ) → i < j → j < 3 → SamePair f₂ sample_machine (three i) (three j) → ⊥
three_differ zero zero less l h = omega arith
three_differ zero (suc zero) less l h = omega (arith, h.0)
three_differ zero (suc (suc zero)) less l h = told_by_full h.1
three_differ (suc zero) zero less l h = omega arith
three_differ (suc zero) (suc zero) less l h = omega arith
three_differ (suc zero) (suc (suc zero)) less l h = omega (arith, h.0)
three_differ (suc (suc i)) zero less l h = omega arith
three_differ (suc (suc i)) (suc zero) less l h = omega arith
three_differ (suc (suc i)) (suc (suc zero)) less l h = omega arith
three_differ zero (suc (suc (suc j))) less l h = omega arith
three_differ (suc zero) (suc (suc (suc j))) less l h = omega arith
three_differ (suc (suc i)) (suc (suc (suc j))) less l h = omega arith

three_pairs : Classes (Walk sample_machine) (SamePair f₂ sample_machine) 3
three_pairs = record { one = three; inside = three_walks; covers = covers; differ = three_differ }
  where
    go : (xs : List ℕ) → At (last xs) (word sample_machine (front xs)) → Letters (word sample_machine (front xs)) → (i : ℕ) × (i < 3) × SamePair f₂ sample_machine xs (three i)
    go xs (at_first e r) l = (0, omega arith, (e, alike _ [] l tt r))
    go xs (at_one e r) l = (1, omega arith, (e, alike _ (0 ∷ []) l (omega arith, tt) r))
    go xs (at_nought e r) l = (2, omega arith, (e, alike _ (0 ∷ (3 ∷ [])) l (omega arith, (omega arith, tt)) r))

    covers : (xs : List ℕ) → Walk sample_machine xs → (i : ℕ) × (i < 3) × SamePair f₂ sample_machine xs (three i)
    covers xs w = let k = stands xs w in go xs k.0 k.1

pub second_pairs : Pairs f₂ sample_machine 3
second_pairs = ∣ three_pairs ∣₁

pub second_clear : Searches f₂ sample_machine 3 (9 ∷ (9 ∷ (9 ∷ (9 ∷ [])))) (Ok (Clear 3), 9 ∷ (9 ∷ (9 ∷ (9 ∷ []))))
second_clear = (
  record { a_start = cons≢nil; few_states = omega arith; long_area = omega arith },
  record { none = second_none; fit_all = ∣ (3, omega arith, three_pairs) ∣₁; number = second_pairs },
  refl,
)

pub second_refused : Searches f₂ sample_machine 2 (9 ∷ (9 ∷ (9 ∷ []))) (Err PairsExceed, 9 ∷ (9 ∷ (9 ∷ [])))
second_refused = (
  record { a_start = cons≢nil; few_states = omega arith; long_area = omega arith },
  (
    λ s. ∥∥₁_elim s ⊥_prop (λ x. second_none x.0 x.1.breach),
    λ c. ∥∥₁_elim c.1 ⊥_prop
        (λ y. omega (arith, y.1, one_count (Walk sample_machine) (SamePair f₂ sample_machine) (pair_turn f₂ sample_machine) (pair_join f₂ sample_machine) 3 y.0 three_pairs y.2)),
  ),
  refl,
)

-- ---- the second rule under the stuck layer on `stop`: states 0, 1, 2, 3 are a breach, and no shorter walk is one

either_of : (s a b : ℕ) → Among s (a ∷ (b ∷ [])) → (s ≡ a) ⊎ (s ≡ b)
either_of s a b (inl e) = inl e
either_of s a b (inr m) = inr (only s b m)

-- a walk of fewer than 4 states is one of these six
module _ (P : List ℕ → Type 0) (p0 : P (0 ∷ [])) (p01 : P (0 ∷ 1 ∷ [])) (p03 : P (0 ∷ 3 ∷ [])) (p010 : P (0 ∷ 1 ∷ 0 ∷ [])) (p012 : P (0 ∷ 1 ∷ 2 ∷ [])) (p032 : P (0 ∷ 3 ∷ 2 ∷ [])) where
  third : (t u : ℕ) → (t ≡ 1) ⊎ (t ≡ 3) → Among u (stuck_machine.steps t) → P (0 ∷ t ∷ u ∷ [])
  third t u (inl e) m =
      subst (λ x. P (0 ∷ x ∷ u ∷ [])) (sym e)
      (⊎_elim (λ d. subst (λ x. P (0 ∷ 1 ∷ x ∷ [])) (sym d) p010) (λ d. subst (λ x. P (0 ∷ 1 ∷ x ∷ [])) (sym d) p012)
      (either_of u 0 2 (subst (λ x. Among u (stuck_machine.steps x)) e m)))
  third t u (inr e) m =
      subst (λ x. P (0 ∷ x ∷ u ∷ [])) (sym e) (subst (λ x. P (0 ∷ 3 ∷ x ∷ [])) (sym (only u 2 (subst (λ x. Among u (stuck_machine.steps x)) e m))) p032)

  second : (t : ℕ) → (t ≡ 1) ⊎ (t ≡ 3) → P (0 ∷ t ∷ [])
  second t (inl e) = subst (λ x. P (0 ∷ x ∷ [])) (sym e) p01
  second t (inr e) = subst (λ x. P (0 ∷ x ∷ [])) (sym e) p03

  short_walks : (xs : List ℕ) → Shorter stuck_machine 4 xs → P xs
  short_walks [] h = absurd h.0
  short_walks (s ∷ []) h = subst (λ x. P (x ∷ [])) (sym (only s 0 h.0.0)) p0
  short_walks (s ∷ (t ∷ [])) h =
      let e = only s 0 h.0.0 in
      subst (λ x. P (x ∷ t ∷ [])) (sym e) (second t (either_of t 1 3 (subst (λ x. Among t (stuck_machine.steps x)) e h.0.1.0)))
  short_walks (s ∷ (t ∷ (u ∷ []))) h =
      let e = only s 0 h.0.0 in
      subst (λ x. P (x ∷ t ∷ u ∷ [])) (sym e) (third t u (either_of t 1 3 (subst (λ x. Among t (stuck_machine.steps x)) e h.0.1.0)) h.0.1.1.0)
  short_walks (s ∷ (t ∷ (u ∷ (v ∷ vs)))) h = absurd (omega (arith, h.1))

-- none of them is a breach
no_short : (xs : List ℕ) → Shorter stuck_machine 4 xs → Breach f₂ (word stuck_machine xs) → ⊥
unfolding on
no_short =
    short_walks (λ xs. Breach f₂ (word stuck_machine xs) → ⊥)
    (λ b. false≢true ((breach_is_sat _ _).0 b)) (λ b. false≢true ((breach_is_sat _ _).0 b)) (λ b. false≢true ((breach_is_sat _ _).0 b))
    (λ b. false≢true ((breach_is_sat _ _).0 b)) (λ b. false≢true ((breach_is_sat _ _).0 b)) (λ b. false≢true ((breach_is_sat _ _).0 b))

four_states : Breaking f₂ stuck_machine (0 ∷ 1 ∷ 2 ∷ 3 ∷ [])
unfolding on
four_states = ((inl refl, (inl refl, (inr (inl refl), (inl refl, tt)))), (breach_is_sat f₂ (0 ∷ 3 ∷ 1 ∷ 3 ∷ [])).1 refl)

at_least_four : (ys : List ℕ) → Breaking f₂ stuck_machine ys → 4 ≤ length ys
at_least_four ys b = elim (native.Mathlib.Decide.dec_lt (length ys) 4) [ yes l ↦ absurd (no_short ys (b.0, l) b.1) | no n ↦ omega arith ]

-- a walk for each of the five pairs of shorter walks
abbrev five : ℕ → List ℕ
five i = get_or ((0 ∷ []) ∷ (0 ∷ 1 ∷ []) ∷ (0 ∷ 3 ∷ []) ∷ (0 ∷ 1 ∷ 0 ∷ []) ∷ (0 ∷ 1 ∷ 2 ∷ []) ∷ []) i []

five_walks : (i : ℕ) → i < 5 → Shorter stuck_machine 4 (five i)
five_walks zero l = ((inl refl, tt), omega arith)
five_walks (suc zero) l = ((inl refl, (inl refl, tt)), omega arith)
five_walks (suc (suc zero)) l = ((inl refl, (inr (inl refl), tt)), omega arith)
five_walks (suc (suc (suc zero))) l = ((inl refl, (inl refl, (inl refl, tt))), omega arith)
five_walks (suc (suc (suc (suc zero)))) l = ((inl refl, (inl refl, (inr (inl refl), tt))), omega arith)
five_walks (suc (suc (suc (suc (suc i))))) l = absurd (omega arith)

-- they differ in their last states, but for the first and the fourth
five_differ : (i j : ℕ) → i < j → j < 5 → SamePair f₂ stuck_machine (five i) (five j) → ⊥
five_differ zero (suc zero) less l h = omega (arith, h.0)
five_differ zero (suc (suc zero)) less l h = omega (arith, h.0)
five_differ zero (suc (suc (suc zero))) less l h = told_by_full h.1
five_differ zero (suc (suc (suc (suc zero)))) less l h = omega (arith, h.0)
five_differ zero zero less l h = omega arith
five_differ zero (suc (suc (suc (suc (suc j))))) less l h = omega arith
five_differ (suc zero) zero less l h = omega arith
five_differ (suc zero) (suc zero) less l h = omega arith
five_differ (suc zero) (suc (suc zero)) less l h = omega (arith, h.0)
five_differ (suc zero) (suc (suc (suc zero))) less l h = omega (arith, h.0)
five_differ (suc zero) (suc (suc (suc (suc zero)))) less l h = omega (arith, h.0)
five_differ (suc zero) (suc (suc (suc (suc (suc j))))) less l h = omega arith
five_differ (suc (suc zero)) zero less l h = omega arith
five_differ (suc (suc zero)) (suc zero) less l h = omega arith
five_differ (suc (suc zero)) (suc (suc zero)) less l h = omega arith
five_differ (suc (suc zero)) (suc (suc (suc zero))) less l h = omega (arith, h.0)
five_differ (suc (suc zero)) (suc (suc (suc (suc zero)))) less l h = omega (arith, h.0)
five_differ (suc (suc zero)) (suc (suc (suc (suc (suc j))))) less l h = omega arith
five_differ (suc (suc (suc zero))) zero less l h = omega arith
five_differ (suc (suc (suc zero))) (suc zero) less l h = omega arith
five_differ (suc (suc (suc zero))) (suc (suc zero)) less l h = omega arith
five_differ (suc (suc (suc zero))) (suc (suc (suc zero))) less l h = omega arith
five_differ (suc (suc (suc zero))) (suc (suc (suc (suc zero)))) less l h = omega (arith, h.0)
five_differ (suc (suc (suc zero))) (suc (suc (suc (suc (suc j))))) less l h = omega arith
five_differ (suc (suc (suc (suc i)))) j less l h = omega arith

five_pairs : Classes (Shorter stuck_machine 4) (SamePair f₂ stuck_machine) 5
five_pairs = record { one = five; inside = five_walks; covers = covers; differ = five_differ }
  where
    alone : (u : List ℕ) → SameStanding f₂ u u
    alone u = (within_itself f₂ u, within_itself f₂ u)

    covers : (xs : List ℕ) → Shorter stuck_machine 4 xs → (i : ℕ) × (i < 5) × SamePair f₂ stuck_machine xs (five i)
    covers =
        short_walks (λ xs. (i : ℕ) × (i < 5) × SamePair f₂ stuck_machine xs (five i))
        (0, omega arith, (refl, alone [])) (1, omega arith, (refl, alone (0 ∷ []))) (2, omega arith, (refl, alone (0 ∷ [])))
        (3, omega arith, (refl, alone (0 ∷ 3 ∷ []))) (4, omega arith, (refl, alone (0 ∷ 3 ∷ []))) (4, omega arith, (refl, alone (0 ∷ 3 ∷ [])))

pub stuck_shown : (pairs : ℕ) (w : List ℕ) → 5 ≤ pairs → pairs < length w → ∥ ((w' : List ℕ) × Searches f₂ stuck_machine pairs w (Ok (Shown 4), w')) ∥₁
stuck_shown pairs w many long =
    ∣ (
      0 ∷ 1 ∷ 2 ∷ 3 ∷ drop 4 w,
      (
        record { a_start = cons≢nil; few_states = omega arith; long_area = long },
        record {
          same_length = omega (arith, length-drop 4 w);
          within = omega arith;
          shortest = record { breach = four_states; least = at_least_four };
          fit_before = ∣ (5, many, five_pairs) ∣₁;
          rest = refl;
        },
      ),
    ) ∣₁

pub stuck_refused : (w : List ℕ) → 4 < length w → Searches f₂ stuck_machine 4 w (Err PairsExceed, w)
stuck_refused w long = (
  record { a_start = cons≢nil; few_states = omega arith; long_area = long },
  (
    λ s. ∥∥₁_elim s ⊥_prop
        (λ x.
        let four : length x.0 ≡ 4 = omega (arith, at_least_four x.0 x.1.breach, x.1.least (0 ∷ 1 ∷ 2 ∷ 3 ∷ []) four_states) in
        ∥∥₁_elim (subst (ShorterFit f₂ stuck_machine 4) four x.2) ⊥_prop
        (λ y. omega (arith, y.1, one_count (Shorter stuck_machine 4) (SamePair f₂ stuck_machine) (pair_turn f₂ stuck_machine) (pair_join f₂ stuck_machine) 5 y.0 five_pairs y.2))),
    λ c. c.0 (0 ∷ 1 ∷ 2 ∷ 3 ∷ []) four_states,
  ),
  refl,
)
