-- What is judged over computed lists is the right answer.
use Rattle.std.proofs.Common.{◌≡◌, ℕ, zero, suc, ◌<◌, ◌≤◌, Bool, true, false, cond, ◌||◌, ltb, leb, ◌⊎◌, ◌↔◌, List, [], ◌∷◌, ◌++◌, length, get_or, Some, None, Ok, Err, Option, Result, sym, refl, ap, ◌∙◌, subst, ap₂, inl, inr, ⊎_elim, append-nil, arith}
use mathlib.Core.Logic.{∥∥₁_elim, ∥∥₁_map}
use mathlib.Core.HLevel.{⊥_prop, hedberg}
use mathlib.Core.List.Memᴰ
use mathlib.Core.List.{Mem, Memᴰ}
use native.Mathlib.Nat.{ℕ_set}
use Rattle.std.proofs.lemmas.Bool.{leb-true, leb-false, ltb-true, ltb-false, cases_lt}
use Rattle.logic.specs.Formula.{Formula, tru, same, Sub}
use Rattle.logic.specs.Labels.{Kept, kept, NoTwice}
use Rattle.logic.specs.Counting.{Classes, Exceeds}
use Rattle.logic.specs.Rule.{Rule, negated}
use Rattle.logic.proofs.Kept.{kept_listed, kept_once, at_place, no_twice_apart}
use Rattle.logic.proofs.Tables.{not_both, part_above}
use Rattle.meaning.specs.declared.refusals.RuleFault.{RuleFault}
use Rattle.meaning.specs.declared.refusals.RuleFault.TheVariants.{WrongWord, WordWanted, BytesFollow, TooDeep}
use Rattle.meaning.specs.declared.refusals.SheetFault.{SheetFault}
use Rattle.meaning.specs.declared.refusals.SheetFault.TheVariants as S
use Rattle.meaning.specs.Bytes.{Text}
use Rattle.meaning.specs.Faults.{text_fault}
use Rattle.meaning.specs.Written.{written, Means, IsBreachFormula}
use Rattle.meaning.specs.Sheets.{Equal, Used, SheetIsFull, KeptOf, IsOverKept}
use Rattle.meaning.specs.Entering.{RightEntering}
use Rattle.texts.specs.Fit.{Fit}
use Rattle.texts.specs.Parse.{Parsed, parse}
use Rattle.texts.specs.Judged.{ended, read_rule, judge_rule, judged}
use Rattle.texts.specs.Listed.{added, listed}
use Rattle.texts.specs.Reader.{fault_of}
use Rattle.texts.specs.Entered.{BreachFormulas, numbered, ListsCountWhatIsSpecified, JudgingAnswersRightly}
use Rattle.texts.proofs.OfClaims.{accepted_texts_mean_rules}
use Rattle.texts.proofs.OfCounts.{listed_are_the_subformulas_once}
use Rattle.texts.proofs.OfListed.{listed_more}
use Rattle.texts.proofs.OfParse.{no_ok}
use Rattle.texts.proofs.OfReader.{reading_finds_the_fault}
use Rattle.texts.proofs.OfWriting.{what_is_read_is_written, what_is_written_is_read}

-- ---- how many members a list without doubles has

-- the place of a member, by comparing
place_in : (xs : List Formula) (x : Formula) → Mem x xs → (i : ℕ) × (i < length xs) × (get_or xs i tru ≡ x)
place_in [] x m = absurd (∥∥₁_elim m ⊥_prop (λ k. Memᴰ.not-nil k))
place_in (y ∷ ys) x m = go (same x y) (place_in ys x)
  where
    go : Dec (x ≡ y) → (Mem x ys → (i : ℕ) × (i < length ys) × (get_or ys i tru ≡ x)) → (i : ℕ) × (i < length (y ∷ ys)) × (get_or (y ∷ ys) i tru ≡ x)
    go (yes e) below = (0, omega arith, sym e)
    go (no n) below =
        let k = below (∥∥₁_map m (λ q. ⊎_elim (λ e. absurd (n e)) (λ r. r) (Memᴰ.cases_cons q))) in
        (suc k.0, omega (arith, k.1), k.2)

module _ (In : Formula → Type 0) (xs : List Formula) (once : NoTwice xs) (members : (x : Formula) → Mem x xs ↔ In x) (n : ℕ) where
  classes : Classes In Equal (length xs)
  classes = record {
    one = λ i. get_or xs i tru;
    inside = λ i l. (members (get_or xs i tru)).0 ∣ at_place xs i tru l ∣₁;
    covers = λ x h. let k = place_in xs x ((members x).1 h) in (k.0, k.1, sym k.2);
    differ = λ i j l m e. no_twice_apart xs tru once i j l m e;
  }

  exceeded : n < length xs → Exceeds n In Equal
  exceeded h = ∣ part_above In Equal (λ u v e. sym e) (λ u v w p q. p ∙ q) (λ u. refl) n (length xs) h classes ∣₁

  exceeding : Exceeds n In Equal → n < length xs
  exceeding x =
      ⊎_elim (λ l. l) (λ l. absurd (∥∥₁_elim x ⊥_prop (λ m. not_both In Equal (λ u v e. sym e) (λ u v w p q. p ∙ q) n m (length xs) l classes))) (cases_lt n (length xs))

-- ---- a text has one breach formula

means_read : (ns : List Text) → Fit ns → (t : Text) (r : Rule) → Means ns t r → read_rule ns t ≡ Ok r
means_read ns fit t r m =
    ap (ended (length t)) (ap (parse ns (length t) 32) (m.writes ∙ sym (append-nil (written ns r))) ∙ what_is_written_is_read ns fit (length t) 32 r [] m.named m.shallow tt)

read_means : (ns : List Text) (t : Text) (r : Rule) → read_rule ns t ≡ Ok r → Means ns t r
read_means ns t r e = go (parse ns (length t) 32 t) refl e
  where
    go : (p : Parsed) → parse ns (length t) 32 t ≡ p → ended (length t) p ≡ Ok r → Means ns t r
    go (Err y) q e' = no_ok r y e'
    go (Ok (x, [])) q e' =
        let i : x ≡ r = cc in
        let s = what_is_read_is_written ns (length t) 32 t x [] q in
        subst (Means ns t) i (record { writes = s.0 ∙ append-nil (written ns x); shallow = s.1; named = s.2 })
    go (Ok (x, b ∷ bs)) q e' = no_ok r _ e'

pub one_breach : (ns : List Text) → Fit ns → (t : Text) (f g : Formula) → IsBreachFormula ns t f → IsBreachFormula ns t g → f ≡ g
one_breach ns fit t f g p q =
    ∥∥₁_elim p (hedberg same f g) (λ x. ∥∥₁_elim q (hedberg same f g) (λ y.
    let a = means_read ns fit t x.0 x.1 in
    let b = means_read ns fit t y.0 y.1 in
    let e : x.0 ≡ y.0 = cc in
    sym x.2 ∙ ap negated e ∙ y.2))

-- ---- the formulas of a sheet

text_of : (ns ts : List Text) (fs : List Formula) → BreachFormulas ns ts fs → (f : Formula) → Memᴰ f fs → (t : Text) × Memᴰ t ts × IsBreachFormula ns t f
text_of ns [] [] b f m = absurd (Memᴰ.not-nil m)
text_of ns [] (g ∷ fs) b f m = absurd b
text_of ns (t ∷ ts) [] b f m = absurd b
text_of ns (t ∷ ts) (g ∷ fs) b f m = go (Memᴰ.cases_cons m) (text_of ns ts fs b.1 f)
  where
    go : (f ≡ g) ⊎ Memᴰ f fs → (Memᴰ f fs → (u : Text) × Memᴰ u ts × IsBreachFormula ns u f) → (u : Text) × Memᴰ u (t ∷ ts) × IsBreachFormula ns u f
    go (inl e) below = (t, Memᴰ.head refl, subst (IsBreachFormula ns t) (sym e) b.0)
    go (inr k) below = let x = below k in (x.0, Memᴰ.tail x.1, x.2)

formula_in : (ns ts : List Text) (fs : List Formula) → BreachFormulas ns ts fs → (t : Text) → Memᴰ t ts → (f : Formula) × Memᴰ f fs × IsBreachFormula ns t f
formula_in ns [] [] b t m = absurd (Memᴰ.not-nil m)
formula_in ns [] (g ∷ fs) b t m = absurd b
formula_in ns (u ∷ ts) [] b t m = absurd b
formula_in ns (u ∷ ts) (g ∷ fs) b t m = go (Memᴰ.cases_cons m) (formula_in ns ts fs b.1 t)
  where
    go : (t ≡ u) ⊎ Memᴰ t ts → (Memᴰ t ts → (f : Formula) × Memᴰ f fs × IsBreachFormula ns t f) → (f : Formula) × Memᴰ f (g ∷ fs) × IsBreachFormula ns t f
    go (inl e) below = (g, Memᴰ.head refl, subst (λ (x : Text). IsBreachFormula ns x g) (sym e) b.0)
    go (inr k) below = let x = below k in (x.0, Memᴰ.tail x.1, x.2)

pub as_many : (ns ts : List Text) (fs : List Formula) → BreachFormulas ns ts fs → length fs ≡ length ts
as_many ns [] [] b = refl
as_many ns [] (g ∷ fs) b = absurd b
as_many ns (t ∷ ts) [] b = absurd b
as_many ns (t ∷ ts) (g ∷ fs) b = ap suc (as_many ns ts fs b.1)

pub breach_formulas_more : (ns ts : List Text) (fs : List Formula) (t : Text) (f : Formula) → BreachFormulas ns ts fs → IsBreachFormula ns t f → BreachFormulas ns (ts ++ (t ∷ [])) (fs ++ (f ∷ []))
breach_formulas_more ns [] [] t f b x = (x, tt)
breach_formulas_more ns [] (g ∷ fs) t f b x = absurd b
breach_formulas_more ns (u ∷ ts) [] t f b x = absurd b
breach_formulas_more ns (u ∷ ts) (g ∷ fs) t f b x = (b.0, breach_formulas_more ns ts fs t f b.1 x)

module _ (ns : List Text) (fit : Fit ns) (t : Text) (f : Formula) (is : IsBreachFormula ns t f) where
  kept_members : (g : Formula) → Mem g (kept f) ↔ KeptOf ns t g
  kept_members g = (
    λ m. ∥∥₁_map ((kept_listed f g).0 m) (λ k. (f, is, k)),
    λ m. (kept_listed f g).1 (∥∥₁_map m (λ k. subst (λ (x : Formula). Kept x g) (one_breach ns fit t k.0 f k.1 is) k.2)),
  )

  over_kept : IsOverKept ns t ↔ (32 < length (kept f))
  over_kept = (exceeding (KeptOf ns t) (kept f) (kept_once f) kept_members 32, exceeded (KeptOf ns t) (kept f) (kept_once f) kept_members 32)

  module _ (ts : List Text) (fs : List Formula) (are : BreachFormulas ns ts fs) where
    to_used : (g h : Formula) → Memᴰ h (fs ++ (f ∷ [])) → Sub g h → (u : Text) × (k : Formula) × Mem u (t ∷ ts) × IsBreachFormula ns u k × Sub g k
    to_used g h m q =
        ⊎_elim
        (λ k. let x = text_of ns ts fs are h k in (x.0, h, ∣ Memᴰ.tail x.1 ∣₁, x.2, q))
        (λ k. ⊎_elim (λ e. (t, f, ∣ Memᴰ.head refl ∣₁, is, subst (λ (x : Formula). Sub g x) e q)) (λ j. absurd (Memᴰ.not-nil j)) (Memᴰ.cases_cons k))
        (Memᴰ.append_cases fs m)

    of_used : (g : Formula) (u : Text) (h : Formula) → Memᴰ u (t ∷ ts) → IsBreachFormula ns u h → Sub g h → (k : Formula) × Memᴰ k (fs ++ (f ∷ [])) × Sub g k
    of_used g u h m b q =
        ⊎_elim
        (λ e. (f, Memᴰ.append_right fs (Memᴰ.head refl), subst (λ (x : Formula). Sub g x) (one_breach ns fit t h f (subst (λ (v : Text). IsBreachFormula ns v h) e b) is) q))
        (λ k. let x = formula_in ns ts fs are u k in (x.0, Memᴰ.append_left (f ∷ []) x.1, subst (λ (v : Formula). Sub g v) (one_breach ns fit u h x.0 b x.2) q))
        (Memᴰ.cases_cons m)

    used_members : (g : Formula) → Mem g (listed (fs ++ (f ∷ []))) ↔ Used ns (t ∷ ts) g
    used_members g =
        let all = listed_are_the_subformulas_once.all (fs ++ (f ∷ [])) g in (
          λ m. ∥∥₁_map (all.0 m) (λ k. to_used g k.0 k.1 k.2),
          λ m. all.1 (∥∥₁_elim m squash₁ (λ k. ∥∥₁_map k.2 (λ j. of_used g k.0 k.1 j k.3 k.4))),
        )

    sheet_full : SheetIsFull ns ts t ↔ ((16 ≤ length ts) ⊎ (256 < length (added (listed fs) f)))
    sheet_full =
        let xs = listed (fs ++ (f ∷ [])) in
        let once = listed_are_the_subformulas_once.once (fs ++ (f ∷ [])) in
        let e = ap length (listed_more [] fs f) in (
          λ x. ⊎_elim (λ l. inl l) (λ m. inr (subst (λ (k : ℕ). 256 < k) e (exceeding (Used ns (t ∷ ts)) xs once used_members 256 m))) x,
          λ x. ⊎_elim (λ l. inl l) (λ m. inr (exceeded (Used ns (t ∷ ts)) xs once used_members 256 (subst (λ (k : ℕ). 256 < k) (sym e) m))) x,
        )

pub lists_count_what_is_specified : ListsCountWhatIsSpecified
lists_count_what_is_specified = record { sheet_full = λ ns fit ts fs t f are is. sheet_full ns fit t f is ts fs are; over_kept = λ ns fit t f is. over_kept ns fit t f is }

-- ---- the answer

judged_right : (ns : List Text) → Fit ns → (ts : List Text) (fs : List Formula) (t : Text) → BreachFormulas ns ts fs → RightEntering ns ts t (numbered (length ts) (judged ns (leb 16 (length fs)) (listed fs) t))
unfolding judged
judged_right ns fit ts fs t are = read (read_rule ns t) refl (reading_finds_the_fault ns fit t)
  where
    count : length fs ≡ length ts
    count = as_many ns ts fs are

    read : (q : Result Rule RuleFault) → read_rule ns t ≡ q → text_fault ns t ≡ fault_of q → RightEntering ns ts t (numbered (length ts) (judge_rule (leb 16 (length fs)) (listed fs) q))
    read (Err e) q fault = fault
    read (Ok r) q fault = go (leb 16 (length fs)) refl (ltb 256 (length (added (listed fs) f))) refl (ltb 32 (length (kept f))) refl
      where
        f : Formula
        f = negated r

        is : IsBreachFormula ns t f
        is = ∣ (r, read_means ns t r q, refl) ∣₁

        full : SheetIsFull ns ts t ↔ ((16 ≤ length ts) ⊎ (256 < length (added (listed fs) f)))
        full = sheet_full ns fit t f is ts fs are

        over : IsOverKept ns t ↔ (32 < length (kept f))
        over = over_kept ns fit t f is

        not_full : leb 16 (length fs) ≡ false → ltb 256 (length (added (listed fs) f)) ≡ false → SheetIsFull ns ts t → ⊥
        not_full a b x = ⊎_elim (λ l. absurd (omega (arith, leb-false 16 (length fs) a, count))) (λ l. absurd (omega (arith, ltb-false 256 (length (added (listed fs) f)) b))) (full.0 x)

        go : (a : Bool) → leb 16 (length fs) ≡ a → (b : Bool) → ltb 256 (length (added (listed fs) f)) ≡ b → (c : Bool) → ltb 32 (length (kept f)) ≡ c
            → RightEntering ns ts t (numbered (length ts) (cond (a || b) (Err S.SheetFull) (cond c (Err S.OverKept) (Ok f))))
        go true a b b-is c c-is = (fault, full.1 (inl (omega (arith, leb-true 16 (length fs) a, count))))
        go false a true b c c-is = (fault, full.1 (inr (ltb-true 256 (length (added (listed fs) f)) b)))
        go false a false b true c = (fault, not_full a b, over.1 (ltb-true 32 (length (kept f)) c))
        go false a false b false c = (fault, not_full a b, (λ x. absurd (omega (arith, over.0 x, ltb-false 32 (length (kept f)) c))), refl)

pub judging_answers_rightly : JudgingAnswersRightly
judging_answers_rightly = record {
  right = judged_right;
  breach = λ ns full gs t f e. let a = accepted_texts_mean_rules ns full gs t f e in ∣ (a.0, a.1, sym a.2) ∣₁;
}

-- ---- a right answer is a proposition, in effect

kind : Option RuleFault → ℕ
kind None = 0
kind (Some (WrongWord p)) = 1
kind (Some (WordWanted p)) = 2
kind (Some (BytesFollow p)) = 3
kind (Some (TooDeep p)) = 4

place : Option RuleFault → ℕ
place None = 0
place (Some (WrongWord p)) = p
place (Some (WordWanted p)) = p
place (Some (BytesFollow p)) = p
place (Some (TooDeep p)) = p

fault_at : ℕ → ℕ → Option RuleFault
fault_at zero p = None
fault_at (suc zero) p = Some (WrongWord p)
fault_at (suc (suc zero)) p = Some (WordWanted p)
fault_at (suc (suc (suc zero))) p = Some (BytesFollow p)
fault_at (suc (suc (suc (suc k)))) p = Some (TooDeep p)

fault_is : (x : Option RuleFault) → fault_at (kind x) (place x) ≡ x
unfolding kind place fault_at
fault_is None = refl
fault_is (Some (WrongWord p)) = refl
fault_is (Some (WordWanted p)) = refl
fault_is (Some (BytesFollow p)) = refl
fault_is (Some (TooDeep p)) = refl

same_fault : (x y : Option RuleFault) → ∥ x ≡ y ∥₁ → x ≡ y
same_fault x y h = sym (fault_is x) ∙ ap₂ fault_at (∥∥₁_elim h (ℕ_set _ _) (λ e. ap kind e)) (∥∥₁_elim h (ℕ_set _ _) (λ e. ap place e)) ∙ fault_is y

pub right_of_some : (ns ts : List Text) (t : Text) (r : Result ℕ SheetFault) → ∥ RightEntering ns ts t r ∥₁ → RightEntering ns ts t r
right_of_some ns ts t (Err (S.Rule e)) h = same_fault _ _ h
right_of_some ns ts t (Err S.SheetFull) h = (same_fault _ _ (∥∥₁_map h (λ k. k.0)), go (cases_lt (length ts) 16))
  where
    go : (length ts < 16) ⊎ (16 ≤ length ts) → SheetIsFull ns ts t
    go (inl l) = inr (∥∥₁_elim h squash₁ (λ k. ⊎_elim (λ m. absurd (omega arith)) (λ x. x) k.1))
    go (inr l) = inl l
right_of_some ns ts t (Err S.OverKept) h = (same_fault _ _ (∥∥₁_map h (λ k. k.0)), (λ x. ∥∥₁_elim h ⊥_prop (λ k. k.1 x)), ∥∥₁_elim h squash₁ (λ k. k.2))
right_of_some ns ts t (Ok n) h = (same_fault _ _ (∥∥₁_map h (λ k. k.0)), (λ x. ∥∥₁_elim h ⊥_prop (λ k. k.1 x)), (λ x. ∥∥₁_elim h ⊥_prop (λ k. k.2 x)), ∥∥₁_elim h (ℕ_set _ _) (λ k. k.3))
