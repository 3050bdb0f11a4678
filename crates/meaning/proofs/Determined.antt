-- At most one answer is right, up to which shortest walk is shown. Assumes nothing.
use Rattle.std.proofs.Common.{◌≡◌, ℕ, ◌+◌, cond, eqb, List, [], ◌∷◌, length, take, drop, Some, None, Ok, Err, Option, Result, sym, refl, ap, ◌∙◌, subst, ap₂, ⊎_elim, arith}
use mathlib.Core.Logic.{∥∥₁_elim}
use mathlib.Core.HLevel.{⊥_prop, hedberg}
use mathlib.Core.Bool.{false≢true}
use mathlib.Core.List.{is_set}
use native.Mathlib.Nat.{ℕ_set}
use native.Mathlib.Decide.{ℕ_discrete}
use Rattle.meaning.specs.declared.refusals.NamesFault.{NamesFault}
use Rattle.meaning.specs.declared.refusals.NamesFault.TheVariants.{Unfit}
use Rattle.meaning.specs.declared.refusals.RuleFault.TheVariants.{WrongWord, WordWanted, BytesFollow, TooDeep}
use Rattle.meaning.specs.declared.refusals.SheetFault.{SheetFault}
use Rattle.meaning.specs.declared.refusals.SheetFault.TheVariants.{Rule, OverKept, SheetFull}
use Rattle.meaning.specs.declared.refusals.TableFault.TheVariants.{Form, NoRoom}
use Rattle.meaning.specs.declared.refusals.LineFault.{LineFault}
use Rattle.meaning.specs.declared.refusals.LineFault.TheVariants.{Names, Sheet, Table}
use Rattle.meaning.specs.declared.refusals.FileFault.{FileFault}
use Rattle.meaning.specs.declared.refusals.FillingFault.{FillingFault}
use Rattle.meaning.specs.declared.refusals.FillingFault.TheVariants.{NoRule, LabelsExceed, StandingsExceed}
use Rattle.meaning.specs.declared.refusals.BeginningFault.{BeginningFault}
use Rattle.meaning.specs.declared.refusals.ScanningFault.{ScanningFault}
use Rattle.meaning.specs.declared.refusals.ScanningFault.TheVariants.{Blank as ScanBlank, NoWatch, AlreadyBroken}
use Rattle.meaning.specs.declared.refusals.SearchingFault.{SearchingFault}
use Rattle.meaning.specs.declared.refusals.SearchingFault.TheVariants.{Blank as SearchBlank, NoStart, ManyStates, ShortWalkArea, PairsExceed}
use Rattle.meaning.specs.declared.answers.Scanned.{Scanned}
use Rattle.meaning.specs.declared.answers.Scanned.TheVariants.{GoingOn, Broken}
use Rattle.meaning.specs.declared.answers.Verdict.{Verdict}
use Rattle.meaning.specs.declared.answers.Verdict.TheVariants.{Shown, Clear}
use Rattle.logic.specs.Formula.{Formula}
use Rattle.meaning.specs.Bytes.{Text}
use Rattle.meaning.specs.Charts.{Areas}
use Rattle.meaning.specs.Machines.{Meaning}
use Rattle.meaning.specs.Walks.{Walk, SamePair, Pairs, ShorterFit}
use Rattle.meaning.specs.Entering.{RightEntering}
use Rattle.meaning.specs.Files.{Line, Entry, signals, rule, state, step, Content, Rooms, formed, added_if, lines, nothing, said_of, SaidOfEntry, SaidOfLine, AllGood, FirstBad, RightLoading}
use Rattle.meaning.specs.Calls.{opening, entering, loading, filling, beginning, scanning, searching}
use Rattle.meaning.specs.Histories.{names, rules, Ruled, rule_at, filled_rule, watch, meaning_of}
use Rattle.meaning.specs.Right.{FormulaOf, RightOpening, Fills, RightFilling, RightBeginning, Scans, RightScanning, Searches, RightSearching}
use Rattle.meaning.specs.Claims.{AlikeSearched, AnswersAreDetermined}
use Rattle.meaning.proofs.OfHistories.{some_same}
use Rattle.meaning.proofs.OfClaims.{shown_length}
use Rattle.meaning.proofs.OfNames.{one_formula, GoodRule, rule_good, filled_good}
use Rattle.meaning.proofs.OfBridges.{one_number, counts_are_unique, standing_turn, standing_join}

-- two facts, each of some breach formula of one rule, hold of one formula
agree : (r : Ruled) → GoodRule (Some r) → (A : Type 0) → IsProp A → (P Q : Formula → Type 0) → ((f : Formula) → P f → Q f → A)
    → ∥ ((f : Formula) × FormulaOf (Some r) f × P f) ∥₁ → ∥ ((f : Formula) × FormulaOf (Some r) f × Q f) ∥₁ → A
agree r g A prop P Q h x y =
    ∥∥₁_elim x prop (λ a. ∥∥₁_elim y prop (λ b. h a.0 a.2 (subst Q (one_formula r.under r.text g b.0 a.0 b.1 a.1) b.2)))

clash : (r : Ruled) → GoodRule (Some r) → (P Q : Formula → Type 0) → ((f : Formula) → P f → Q f → ⊥)
    → ∥ ((f : Formula) × FormulaOf (Some r) f × P f) ∥₁ → ∥ ((f : Formula) × FormulaOf (Some r) f × Q f) ∥₁ → ⊥
clash r g P Q h x y = agree r g ⊥ ⊥_prop P Q h x y

some_none : {X : Type 0} (x : X) → ◌≡◌ {A = Option X} (Some x) None → ⊥
some_none x e = grind arith

-- ---- opening, beginning

opening_one : (t : Text) (x y : Result (Unit {0}) NamesFault) → RightOpening t x → RightOpening t y → x ≡ y
opening_one t (Ok u) (Ok v) p q = refl
opening_one t (Ok u) (Err Unfit) p q = absurd (false≢true (sym q ∙ p))
opening_one t (Err Unfit) (Ok v) p q = absurd (false≢true (sym p ∙ q))
opening_one t (Err Unfit) (Err Unfit) p q = refl

beginning_one : (o : Option Ruled) (x y : Result (Unit {0}) BeginningFault) → RightBeginning o x → RightBeginning o y → x ≡ y
beginning_one None x y p q = p ∙ sym q
beginning_one (Some r) x y p q = p ∙ sym q

-- ---- entering

module _ (ns ts : List Text) (t : Text) where
  entering_one : (x y : Result ℕ SheetFault) → RightEntering ns ts t x → RightEntering ns ts t y → x ≡ y
  entering_one (Ok n) (Ok n') p q = ap Ok (p.3 ∙ sym q.3)
  entering_one (Ok n) (Err (Rule e')) p q = absurd (some_none e' (sym q ∙ p.0))
  entering_one (Ok n) (Err SheetFull) p q = absurd (p.1 q.1)
  entering_one (Ok n) (Err OverKept) p q = absurd (p.2 q.2)
  entering_one (Err (Rule e)) (Ok n') p q = absurd (some_none e (sym p ∙ q.0))
  entering_one (Err (Rule e)) (Err (Rule e')) p q = ap (λ z. Err (Rule z)) (some_same e e' (sym p ∙ q))
  entering_one (Err (Rule e)) (Err SheetFull) p q = absurd (some_none e (sym p ∙ q.0))
  entering_one (Err (Rule e)) (Err OverKept) p q = absurd (some_none e (sym p ∙ q.0))
  entering_one (Err SheetFull) (Ok n') p q = absurd (q.1 p.1)
  entering_one (Err SheetFull) (Err (Rule e')) p q = absurd (some_none e' (sym q ∙ p.0))
  entering_one (Err SheetFull) (Err SheetFull) p q = refl
  entering_one (Err SheetFull) (Err OverKept) p q = absurd (q.1 p.1)
  entering_one (Err OverKept) (Ok n') p q = absurd (q.2 p.2)
  entering_one (Err OverKept) (Err (Rule e')) p q = absurd (some_none e' (sym q ∙ p.0))
  entering_one (Err OverKept) (Err SheetFull) p q = absurd (p.1 q.1)
  entering_one (Err OverKept) (Err OverKept) p q = refl

-- ---- filling

module _ (r : Ruled) (g : GoodRule (Some r)) (a : Areas) where
  filling_one : (x y : Result (ℕ × ℕ) FillingFault) → RightFilling (Some r) a x → RightFilling (Some r) a y → x ≡ y
  filling_one (Ok n) (Ok m) p q = ap Ok (ap₂ (λ i j. (i, j)) (agree r g (n.0 ≡ m.0) (ℕ_set _ _) (λ f. Fills f a (Ok n)) (λ f. Fills f a (Ok m)) (λ f s t. ap (λ (z : ℕ × ℕ). z.0) (counts_are_unique f n m s.2 t.2)) p q) (agree r g (n.1 ≡ m.1) (ℕ_set _ _) (λ f. Fills f a (Ok n)) (λ f. Fills f a (Ok m)) (λ f s t. ap (λ (z : ℕ × ℕ). z.1) (counts_are_unique f n m s.2 t.2)) p q))
  filling_one (Ok n) (Err NoRule) p q = absurd (clash r g (λ f. Fills f a (Ok n)) (λ f. Fills f a (Err NoRule)) (λ f s t. t) p q)
  filling_one (Ok n) (Err LabelsExceed) p q = absurd (clash r g (λ f. Fills f a (Ok n)) (λ f. Fills f a (Err LabelsExceed)) (λ f s t. s.0 t) p q)
  filling_one (Ok n) (Err StandingsExceed) p q = absurd (clash r g (λ f. Fills f a (Ok n)) (λ f. Fills f a (Err StandingsExceed)) (λ f s t. s.1 t.1) p q)
  filling_one (Err NoRule) (Ok m) p q = absurd (clash r g (λ f. Fills f a (Err NoRule)) (λ f. Fills f a (Ok m)) (λ f s t. s) p q)
  filling_one (Err NoRule) (Err NoRule) p q = refl
  filling_one (Err NoRule) (Err LabelsExceed) p q = absurd (clash r g (λ f. Fills f a (Err NoRule)) (λ f. Fills f a (Err LabelsExceed)) (λ f s t. s) p q)
  filling_one (Err NoRule) (Err StandingsExceed) p q = absurd (clash r g (λ f. Fills f a (Err NoRule)) (λ f. Fills f a (Err StandingsExceed)) (λ f s t. s) p q)
  filling_one (Err LabelsExceed) (Ok m) p q = absurd (clash r g (λ f. Fills f a (Err LabelsExceed)) (λ f. Fills f a (Ok m)) (λ f s t. t.0 s) p q)
  filling_one (Err LabelsExceed) (Err NoRule) p q = absurd (clash r g (λ f. Fills f a (Err LabelsExceed)) (λ f. Fills f a (Err NoRule)) (λ f s t. t) p q)
  filling_one (Err LabelsExceed) (Err LabelsExceed) p q = refl
  filling_one (Err LabelsExceed) (Err StandingsExceed) p q = absurd (clash r g (λ f. Fills f a (Err LabelsExceed)) (λ f. Fills f a (Err StandingsExceed)) (λ f s t. t.0 s) p q)
  filling_one (Err StandingsExceed) (Ok m) p q = absurd (clash r g (λ f. Fills f a (Err StandingsExceed)) (λ f. Fills f a (Ok m)) (λ f s t. t.1 s.1) p q)
  filling_one (Err StandingsExceed) (Err NoRule) p q = absurd (clash r g (λ f. Fills f a (Err StandingsExceed)) (λ f. Fills f a (Err NoRule)) (λ f s t. t) p q)
  filling_one (Err StandingsExceed) (Err LabelsExceed) p q = absurd (clash r g (λ f. Fills f a (Err StandingsExceed)) (λ f. Fills f a (Err LabelsExceed)) (λ f s t. s.0 t) p q)
  filling_one (Err StandingsExceed) (Err StandingsExceed) p q = refl

fillings_one : (o : Option Ruled) → GoodRule o → (a : Areas) (x y : Result (ℕ × ℕ) FillingFault) → RightFilling o a x → RightFilling o a y → x ≡ y
fillings_one None g a x y p q = p ∙ sym q
fillings_one (Some r) g a x y p q = filling_one r g a x y p q

-- ---- scanning

module _ (r : Ruled) (g : GoodRule (Some r)) (u : List ℕ) (a : ℕ) where
  scanning_one : (x y : Result Scanned ScanningFault) → RightScanning (Some r) (Some u) a x → RightScanning (Some r) (Some u) a y → x ≡ y
  scanning_one (Ok Broken) (Ok Broken) p q = refl
  scanning_one (Ok Broken) (Ok GoingOn) p q = absurd (clash r g (λ f. Scans f u a (Ok Broken)) (λ f. Scans f u a (Ok GoingOn)) (λ f s t. t.1 s.1) p q)
  scanning_one (Ok Broken) (Err ScanBlank) p q = absurd (clash r g (λ f. Scans f u a (Ok Broken)) (λ f. Scans f u a (Err ScanBlank)) (λ f s t. t) p q)
  scanning_one (Ok Broken) (Err NoWatch) p q = absurd (clash r g (λ f. Scans f u a (Ok Broken)) (λ f. Scans f u a (Err NoWatch)) (λ f s t. t) p q)
  scanning_one (Ok Broken) (Err AlreadyBroken) p q = absurd (clash r g (λ f. Scans f u a (Ok Broken)) (λ f. Scans f u a (Err AlreadyBroken)) (λ f s t. s.0 t) p q)
  scanning_one (Ok GoingOn) (Ok Broken) p q = absurd (clash r g (λ f. Scans f u a (Ok GoingOn)) (λ f. Scans f u a (Ok Broken)) (λ f s t. s.1 t.1) p q)
  scanning_one (Ok GoingOn) (Ok GoingOn) p q = refl
  scanning_one (Ok GoingOn) (Err ScanBlank) p q = absurd (clash r g (λ f. Scans f u a (Ok GoingOn)) (λ f. Scans f u a (Err ScanBlank)) (λ f s t. t) p q)
  scanning_one (Ok GoingOn) (Err NoWatch) p q = absurd (clash r g (λ f. Scans f u a (Ok GoingOn)) (λ f. Scans f u a (Err NoWatch)) (λ f s t. t) p q)
  scanning_one (Ok GoingOn) (Err AlreadyBroken) p q = absurd (clash r g (λ f. Scans f u a (Ok GoingOn)) (λ f. Scans f u a (Err AlreadyBroken)) (λ f s t. s.0 t) p q)
  scanning_one (Err ScanBlank) (Ok Broken) p q = absurd (clash r g (λ f. Scans f u a (Err ScanBlank)) (λ f. Scans f u a (Ok Broken)) (λ f s t. s) p q)
  scanning_one (Err ScanBlank) (Ok GoingOn) p q = absurd (clash r g (λ f. Scans f u a (Err ScanBlank)) (λ f. Scans f u a (Ok GoingOn)) (λ f s t. s) p q)
  scanning_one (Err ScanBlank) (Err ScanBlank) p q = refl
  scanning_one (Err ScanBlank) (Err NoWatch) p q = absurd (clash r g (λ f. Scans f u a (Err ScanBlank)) (λ f. Scans f u a (Err NoWatch)) (λ f s t. s) p q)
  scanning_one (Err ScanBlank) (Err AlreadyBroken) p q = absurd (clash r g (λ f. Scans f u a (Err ScanBlank)) (λ f. Scans f u a (Err AlreadyBroken)) (λ f s t. s) p q)
  scanning_one (Err NoWatch) (Ok Broken) p q = absurd (clash r g (λ f. Scans f u a (Err NoWatch)) (λ f. Scans f u a (Ok Broken)) (λ f s t. s) p q)
  scanning_one (Err NoWatch) (Ok GoingOn) p q = absurd (clash r g (λ f. Scans f u a (Err NoWatch)) (λ f. Scans f u a (Ok GoingOn)) (λ f s t. s) p q)
  scanning_one (Err NoWatch) (Err ScanBlank) p q = absurd (clash r g (λ f. Scans f u a (Err NoWatch)) (λ f. Scans f u a (Err ScanBlank)) (λ f s t. s) p q)
  scanning_one (Err NoWatch) (Err NoWatch) p q = refl
  scanning_one (Err NoWatch) (Err AlreadyBroken) p q = absurd (clash r g (λ f. Scans f u a (Err NoWatch)) (λ f. Scans f u a (Err AlreadyBroken)) (λ f s t. s) p q)
  scanning_one (Err AlreadyBroken) (Ok Broken) p q = absurd (clash r g (λ f. Scans f u a (Err AlreadyBroken)) (λ f. Scans f u a (Ok Broken)) (λ f s t. t.0 s) p q)
  scanning_one (Err AlreadyBroken) (Ok GoingOn) p q = absurd (clash r g (λ f. Scans f u a (Err AlreadyBroken)) (λ f. Scans f u a (Ok GoingOn)) (λ f s t. t.0 s) p q)
  scanning_one (Err AlreadyBroken) (Err ScanBlank) p q = absurd (clash r g (λ f. Scans f u a (Err AlreadyBroken)) (λ f. Scans f u a (Err ScanBlank)) (λ f s t. t) p q)
  scanning_one (Err AlreadyBroken) (Err NoWatch) p q = absurd (clash r g (λ f. Scans f u a (Err AlreadyBroken)) (λ f. Scans f u a (Err NoWatch)) (λ f s t. t) p q)
  scanning_one (Err AlreadyBroken) (Err AlreadyBroken) p q = refl

scannings_one : (o : Option Ruled) → GoodRule o → (t : Option (List ℕ)) (a : ℕ) (x y : Result Scanned ScanningFault) → RightScanning o t a x → RightScanning o t a y → x ≡ y
scannings_one None g t a x y p q = p ∙ sym q
scannings_one (Some r) g None a x y p q = p ∙ sym q
scannings_one (Some r) g (Some u) a x y p q = scanning_one r g u a x y p q

-- ---- searching

list_set : IsSet (List ℕ)
list_set = is_set ℕ_set

pub pair_turn : (f : Formula) (m : Meaning) (xs ys : List ℕ) → SamePair f m xs ys → SamePair f m ys xs
pair_turn f m xs ys h = (sym h.0, standing_turn f _ _ h.1)

pub pair_join : (f : Formula) (m : Meaning) (xs ys zs : List ℕ) → SamePair f m xs ys → SamePair f m ys zs → SamePair f m xs zs
pair_join f m xs ys zs h k = (h.0 ∙ k.0, standing_join f _ _ _ h.1 k.1)

pub pairs_are_unique : (f : Formula) (m : Meaning) (i j : ℕ) → Pairs f m i → Pairs f m j → i ≡ j
pairs_are_unique f m i j = one_number (Walk m) (SamePair f m) (pair_turn f m) (pair_join f m) i j

module _ (r : Ruled) (g : GoodRule (Some r)) (m : Meaning) (p : ℕ) (w : List ℕ) where
  abbrev Found : Result Verdict SearchingFault → List ℕ → Type 0
  Found v w' = RightSearching (Some r) m p w (v, w')

  searching_one : (x : Result Verdict SearchingFault) (w₁ : List ℕ) (y : Result Verdict SearchingFault) (w₂ : List ℕ) → Found x w₁ → Found y w₂ → AlikeSearched x w₁ y w₂
  searching_one (Ok (Shown k)) w₁ (Ok (Shown j)) w₂ x y =
      let e : k ≡ j = agree r g (k ≡ j) (ℕ_set _ _) (λ f. Searches f m p w (Ok (Shown k), w₁)) (λ f. Searches f m p w (Ok (Shown j), w₂))
      (λ f s t. omega (arith, shown_length k w₁ s.1.within, shown_length j w₂ t.1.within, s.1.shortest.least (take j w₂) t.1.shortest.breach, t.1.shortest.least (take k w₁) s.1.shortest.breach)) x y in (
        ap (λ i. Ok (Shown i)) (sym e),
        agree r g (drop k w₁ ≡ drop k w₂) (list_set _ _) (λ f. Searches f m p w (Ok (Shown k), w₁)) (λ f. Searches f m p w (Ok (Shown j), w₂)) (λ f s t. s.1.rest ∙ ap (λ i. drop i w) e ∙ sym t.1.rest ∙ ap (λ i. drop i w₂) (sym e)) x y,
        agree r g (length w₁ ≡ length w₂) (ℕ_set _ _) (λ f. Searches f m p w (Ok (Shown k), w₁)) (λ f. Searches f m p w (Ok (Shown j), w₂)) (λ f s t. s.1.same_length ∙ sym t.1.same_length) x y,
      )
  searching_one (Ok (Shown k)) w₁ (Ok (Clear i)) w₂ x y = absurd (clash r g (λ f. Searches f m p w (Ok (Shown k), w₁)) (λ f. Searches f m p w (Ok (Clear i), w₂)) (λ f s t. t.1.none _ s.1.shortest.breach) x y)
  searching_one (Ok (Shown k)) w₁ (Err SearchBlank) w₂ x y = absurd (clash r g (λ f. Searches f m p w (Ok (Shown k), w₁)) (λ f. Searches f m p w (Err SearchBlank, w₂)) (λ f s t. t) x y)
  searching_one (Ok (Shown k)) w₁ (Err NoStart) w₂ x y = absurd (clash r g (λ f. Searches f m p w (Ok (Shown k), w₁)) (λ f. Searches f m p w (Err NoStart, w₂)) (λ f s t. s.0.a_start t.0) x y)
  searching_one (Ok (Shown k)) w₁ (Err ManyStates) w₂ x y = absurd (clash r g (λ f. Searches f m p w (Ok (Shown k), w₁)) (λ f. Searches f m p w (Err ManyStates, w₂)) (λ f s t. omega (arith, t.1, s.0.few_states)) x y)
  searching_one (Ok (Shown k)) w₁ (Err ShortWalkArea) w₂ x y = absurd (clash r g (λ f. Searches f m p w (Ok (Shown k), w₁)) (λ f. Searches f m p w (Err ShortWalkArea, w₂)) (λ f s t. omega (arith, t.2, s.0.long_area)) x y)
  searching_one (Ok (Shown k)) w₁ (Err PairsExceed) w₂ x y = absurd (clash r g (λ f. Searches f m p w (Ok (Shown k), w₁)) (λ f. Searches f m p w (Err PairsExceed, w₂)) (λ f s t. t.1.0 (∣ (take k w₁, s.1.shortest, subst (ShorterFit f m p) (sym (shown_length k w₁ s.1.within)) s.1.fit_before) ∣₁)) x y)
  searching_one (Ok (Clear n)) w₁ (Ok (Shown j)) w₂ x y = absurd (clash r g (λ f. Searches f m p w (Ok (Clear n), w₁)) (λ f. Searches f m p w (Ok (Shown j), w₂)) (λ f s t. s.1.none _ t.1.shortest.breach) x y)
  searching_one (Ok (Clear n)) w₁ (Ok (Clear i)) w₂ x y = (
    ap (λ z. Ok (Clear z)) (agree r g (i ≡ n) (ℕ_set _ _) (λ f. Searches f m p w (Ok (Clear n), w₁)) (λ f. Searches f m p w (Ok (Clear i), w₂)) (λ f s t. pairs_are_unique f m i n t.1.number s.1.number) x y),
    agree r g (w₁ ≡ w₂) (list_set _ _) (λ f. Searches f m p w (Ok (Clear n), w₁)) (λ f. Searches f m p w (Ok (Clear i), w₂)) (λ f s t. s.2 ∙ sym t.2) x y,
  )
  searching_one (Ok (Clear n)) w₁ (Err SearchBlank) w₂ x y = absurd (clash r g (λ f. Searches f m p w (Ok (Clear n), w₁)) (λ f. Searches f m p w (Err SearchBlank, w₂)) (λ f s t. t) x y)
  searching_one (Ok (Clear n)) w₁ (Err NoStart) w₂ x y = absurd (clash r g (λ f. Searches f m p w (Ok (Clear n), w₁)) (λ f. Searches f m p w (Err NoStart, w₂)) (λ f s t. s.0.a_start t.0) x y)
  searching_one (Ok (Clear n)) w₁ (Err ManyStates) w₂ x y = absurd (clash r g (λ f. Searches f m p w (Ok (Clear n), w₁)) (λ f. Searches f m p w (Err ManyStates, w₂)) (λ f s t. omega (arith, t.1, s.0.few_states)) x y)
  searching_one (Ok (Clear n)) w₁ (Err ShortWalkArea) w₂ x y = absurd (clash r g (λ f. Searches f m p w (Ok (Clear n), w₁)) (λ f. Searches f m p w (Err ShortWalkArea, w₂)) (λ f s t. omega (arith, t.2, s.0.long_area)) x y)
  searching_one (Ok (Clear n)) w₁ (Err PairsExceed) w₂ x y = absurd (clash r g (λ f. Searches f m p w (Ok (Clear n), w₁)) (λ f. Searches f m p w (Err PairsExceed, w₂)) (λ f s t. t.1.1 (s.1.none, s.1.fit_all)) x y)
  searching_one (Err SearchBlank) w₁ (Ok (Shown j)) w₂ x y = absurd (clash r g (λ f. Searches f m p w (Err SearchBlank, w₁)) (λ f. Searches f m p w (Ok (Shown j), w₂)) (λ f s t. s) x y)
  searching_one (Err SearchBlank) w₁ (Ok (Clear i)) w₂ x y = absurd (clash r g (λ f. Searches f m p w (Err SearchBlank, w₁)) (λ f. Searches f m p w (Ok (Clear i), w₂)) (λ f s t. s) x y)
  searching_one (Err SearchBlank) w₁ (Err SearchBlank) w₂ x y = absurd (clash r g (λ f. Searches f m p w (Err SearchBlank, w₁)) (λ f. Searches f m p w (Err SearchBlank, w₂)) (λ f s t. s) x y)
  searching_one (Err SearchBlank) w₁ (Err NoStart) w₂ x y = absurd (clash r g (λ f. Searches f m p w (Err SearchBlank, w₁)) (λ f. Searches f m p w (Err NoStart, w₂)) (λ f s t. s) x y)
  searching_one (Err SearchBlank) w₁ (Err ManyStates) w₂ x y = absurd (clash r g (λ f. Searches f m p w (Err SearchBlank, w₁)) (λ f. Searches f m p w (Err ManyStates, w₂)) (λ f s t. s) x y)
  searching_one (Err SearchBlank) w₁ (Err ShortWalkArea) w₂ x y = absurd (clash r g (λ f. Searches f m p w (Err SearchBlank, w₁)) (λ f. Searches f m p w (Err ShortWalkArea, w₂)) (λ f s t. s) x y)
  searching_one (Err SearchBlank) w₁ (Err PairsExceed) w₂ x y = absurd (clash r g (λ f. Searches f m p w (Err SearchBlank, w₁)) (λ f. Searches f m p w (Err PairsExceed, w₂)) (λ f s t. s) x y)
  searching_one (Err NoStart) w₁ (Ok (Shown j)) w₂ x y = absurd (clash r g (λ f. Searches f m p w (Err NoStart, w₁)) (λ f. Searches f m p w (Ok (Shown j), w₂)) (λ f s t. t.0.a_start s.0) x y)
  searching_one (Err NoStart) w₁ (Ok (Clear i)) w₂ x y = absurd (clash r g (λ f. Searches f m p w (Err NoStart, w₁)) (λ f. Searches f m p w (Ok (Clear i), w₂)) (λ f s t. t.0.a_start s.0) x y)
  searching_one (Err NoStart) w₁ (Err SearchBlank) w₂ x y = absurd (clash r g (λ f. Searches f m p w (Err NoStart, w₁)) (λ f. Searches f m p w (Err SearchBlank, w₂)) (λ f s t. t) x y)
  searching_one (Err NoStart) w₁ (Err NoStart) w₂ x y = (refl, agree r g (w₁ ≡ w₂) (list_set _ _) (λ f. Searches f m p w (Err NoStart, w₁)) (λ f. Searches f m p w (Err NoStart, w₂)) (λ f s t. s.1 ∙ sym t.1) x y)
  searching_one (Err NoStart) w₁ (Err ManyStates) w₂ x y = absurd (clash r g (λ f. Searches f m p w (Err NoStart, w₁)) (λ f. Searches f m p w (Err ManyStates, w₂)) (λ f s t. t.0 s.0) x y)
  searching_one (Err NoStart) w₁ (Err ShortWalkArea) w₂ x y = absurd (clash r g (λ f. Searches f m p w (Err NoStart, w₁)) (λ f. Searches f m p w (Err ShortWalkArea, w₂)) (λ f s t. t.0 s.0) x y)
  searching_one (Err NoStart) w₁ (Err PairsExceed) w₂ x y = absurd (clash r g (λ f. Searches f m p w (Err NoStart, w₁)) (λ f. Searches f m p w (Err PairsExceed, w₂)) (λ f s t. t.0.a_start s.0) x y)
  searching_one (Err ManyStates) w₁ (Ok (Shown j)) w₂ x y = absurd (clash r g (λ f. Searches f m p w (Err ManyStates, w₁)) (λ f. Searches f m p w (Ok (Shown j), w₂)) (λ f s t. omega (arith, s.1, t.0.few_states)) x y)
  searching_one (Err ManyStates) w₁ (Ok (Clear i)) w₂ x y = absurd (clash r g (λ f. Searches f m p w (Err ManyStates, w₁)) (λ f. Searches f m p w (Ok (Clear i), w₂)) (λ f s t. omega (arith, s.1, t.0.few_states)) x y)
  searching_one (Err ManyStates) w₁ (Err SearchBlank) w₂ x y = absurd (clash r g (λ f. Searches f m p w (Err ManyStates, w₁)) (λ f. Searches f m p w (Err SearchBlank, w₂)) (λ f s t. t) x y)
  searching_one (Err ManyStates) w₁ (Err NoStart) w₂ x y = absurd (clash r g (λ f. Searches f m p w (Err ManyStates, w₁)) (λ f. Searches f m p w (Err NoStart, w₂)) (λ f s t. s.0 t.0) x y)
  searching_one (Err ManyStates) w₁ (Err ManyStates) w₂ x y = (refl, agree r g (w₁ ≡ w₂) (list_set _ _) (λ f. Searches f m p w (Err ManyStates, w₁)) (λ f. Searches f m p w (Err ManyStates, w₂)) (λ f s t. s.2 ∙ sym t.2) x y)
  searching_one (Err ManyStates) w₁ (Err ShortWalkArea) w₂ x y = absurd (clash r g (λ f. Searches f m p w (Err ManyStates, w₁)) (λ f. Searches f m p w (Err ShortWalkArea, w₂)) (λ f s t. omega (arith, s.1, t.1)) x y)
  searching_one (Err ManyStates) w₁ (Err PairsExceed) w₂ x y = absurd (clash r g (λ f. Searches f m p w (Err ManyStates, w₁)) (λ f. Searches f m p w (Err PairsExceed, w₂)) (λ f s t. omega (arith, s.1, t.0.few_states)) x y)
  searching_one (Err ShortWalkArea) w₁ (Ok (Shown j)) w₂ x y = absurd (clash r g (λ f. Searches f m p w (Err ShortWalkArea, w₁)) (λ f. Searches f m p w (Ok (Shown j), w₂)) (λ f s t. omega (arith, s.2, t.0.long_area)) x y)
  searching_one (Err ShortWalkArea) w₁ (Ok (Clear i)) w₂ x y = absurd (clash r g (λ f. Searches f m p w (Err ShortWalkArea, w₁)) (λ f. Searches f m p w (Ok (Clear i), w₂)) (λ f s t. omega (arith, s.2, t.0.long_area)) x y)
  searching_one (Err ShortWalkArea) w₁ (Err SearchBlank) w₂ x y = absurd (clash r g (λ f. Searches f m p w (Err ShortWalkArea, w₁)) (λ f. Searches f m p w (Err SearchBlank, w₂)) (λ f s t. t) x y)
  searching_one (Err ShortWalkArea) w₁ (Err NoStart) w₂ x y = absurd (clash r g (λ f. Searches f m p w (Err ShortWalkArea, w₁)) (λ f. Searches f m p w (Err NoStart, w₂)) (λ f s t. s.0 t.0) x y)
  searching_one (Err ShortWalkArea) w₁ (Err ManyStates) w₂ x y = absurd (clash r g (λ f. Searches f m p w (Err ShortWalkArea, w₁)) (λ f. Searches f m p w (Err ManyStates, w₂)) (λ f s t. omega (arith, t.1, s.1)) x y)
  searching_one (Err ShortWalkArea) w₁ (Err ShortWalkArea) w₂ x y = (refl, agree r g (w₁ ≡ w₂) (list_set _ _) (λ f. Searches f m p w (Err ShortWalkArea, w₁)) (λ f. Searches f m p w (Err ShortWalkArea, w₂)) (λ f s t. s.3 ∙ sym t.3) x y)
  searching_one (Err ShortWalkArea) w₁ (Err PairsExceed) w₂ x y = absurd (clash r g (λ f. Searches f m p w (Err ShortWalkArea, w₁)) (λ f. Searches f m p w (Err PairsExceed, w₂)) (λ f s t. omega (arith, s.2, t.0.long_area)) x y)
  searching_one (Err PairsExceed) w₁ (Ok (Shown j)) w₂ x y = absurd (clash r g (λ f. Searches f m p w (Err PairsExceed, w₁)) (λ f. Searches f m p w (Ok (Shown j), w₂)) (λ f s t. s.1.0 (∣ (take j w₂, t.1.shortest, subst (ShorterFit f m p) (sym (shown_length j w₂ t.1.within)) t.1.fit_before) ∣₁)) x y)
  searching_one (Err PairsExceed) w₁ (Ok (Clear i)) w₂ x y = absurd (clash r g (λ f. Searches f m p w (Err PairsExceed, w₁)) (λ f. Searches f m p w (Ok (Clear i), w₂)) (λ f s t. s.1.1 (t.1.none, t.1.fit_all)) x y)
  searching_one (Err PairsExceed) w₁ (Err SearchBlank) w₂ x y = absurd (clash r g (λ f. Searches f m p w (Err PairsExceed, w₁)) (λ f. Searches f m p w (Err SearchBlank, w₂)) (λ f s t. t) x y)
  searching_one (Err PairsExceed) w₁ (Err NoStart) w₂ x y = absurd (clash r g (λ f. Searches f m p w (Err PairsExceed, w₁)) (λ f. Searches f m p w (Err NoStart, w₂)) (λ f s t. s.0.a_start t.0) x y)
  searching_one (Err PairsExceed) w₁ (Err ManyStates) w₂ x y = absurd (clash r g (λ f. Searches f m p w (Err PairsExceed, w₁)) (λ f. Searches f m p w (Err ManyStates, w₂)) (λ f s t. omega (arith, t.1, s.0.few_states)) x y)
  searching_one (Err PairsExceed) w₁ (Err ShortWalkArea) w₂ x y = absurd (clash r g (λ f. Searches f m p w (Err PairsExceed, w₁)) (λ f. Searches f m p w (Err ShortWalkArea, w₂)) (λ f s t. omega (arith, t.2, s.0.long_area)) x y)
  searching_one (Err PairsExceed) w₁ (Err PairsExceed) w₂ x y = (refl, agree r g (w₁ ≡ w₂) (list_set _ _) (λ f. Searches f m p w (Err PairsExceed, w₁)) (λ f. Searches f m p w (Err PairsExceed, w₂)) (λ f s t. s.2 ∙ sym t.2) x y)

-- with a blank chart
blank_one : (w : List ℕ) (x y : Result Verdict SearchingFault × List ℕ) → x ≡ (Err SearchBlank, w) → y ≡ (Err SearchBlank, w) → AlikeSearched x.0 x.1 y.0 y.1
blank_one w x y p q =
    subst (λ (z : Result Verdict SearchingFault × List ℕ). AlikeSearched z.0 z.1 y.0 y.1) (sym p)
    (subst (λ (z : Result Verdict SearchingFault × List ℕ). AlikeSearched (Err SearchBlank) w z.0 z.1) (sym q) (refl, refl))

searchings_one : (o : Option Ruled) → GoodRule o → (m : Meaning) (p : ℕ) (w : List ℕ) (x y : Result Verdict SearchingFault × List ℕ)
    → RightSearching o m p w x → RightSearching o m p w y → AlikeSearched x.0 x.1 y.0 y.1
searchings_one None g m p w x y h k = blank_one w x y h k
searchings_one (Some r) g m p w x y h k = searching_one r g m p w x.0 x.1 y.0 y.1 h k

-- ---- loading

-- what is said of a line goes by its number and place, so it is compared
code : LineFault → ℕ × ℕ
code (Names Unfit) = (1, 0)
code (Sheet (Rule (WrongWord p))) = (2, p)
code (Sheet (Rule (WordWanted p))) = (3, p)
code (Sheet (Rule (BytesFollow p))) = (4, p)
code (Sheet (Rule (TooDeep p))) = (5, p)
code (Sheet OverKept) = (6, 0)
code (Sheet SheetFull) = (7, 0)
code (Table Form) = (18, 0)
code (Table NoRoom) = (19, 0)

decode : ℕ × ℕ → LineFault
decode c =
    cond (eqb c.0 1) (Names Unfit) (cond (eqb c.0 2) (Sheet (Rule (WrongWord c.1))) (cond (eqb c.0 3) (Sheet (Rule (WordWanted c.1)))
    (cond (eqb c.0 4) (Sheet (Rule (BytesFollow c.1))) (cond (eqb c.0 5) (Sheet (Rule (TooDeep c.1))) (cond (eqb c.0 6) (Sheet OverKept)
    (cond (eqb c.0 7) (Sheet SheetFull) (cond (eqb c.0 18) (Table Form) (Table NoRoom))))))))

decode_code : (s : LineFault) → decode (code s) ≡ s
unfolding code decode
decode_code (Names Unfit) = refl
decode_code (Sheet (Rule (WrongWord p))) = refl
decode_code (Sheet (Rule (WordWanted p))) = refl
decode_code (Sheet (Rule (BytesFollow p))) = refl
decode_code (Sheet (Rule (TooDeep p))) = refl
decode_code (Sheet OverKept) = refl
decode_code (Sheet SheetFull) = refl
decode_code (Table Form) = refl
decode_code (Table NoRoom) = refl

said_discrete : Discrete LineFault
said_discrete s t = go (ℕ_discrete (code s).0 (code t).0) (ℕ_discrete (code s).1 (code t).1)
  where
    go : Dec ((code s).0 ≡ (code t).0) → Dec ((code s).1 ≡ (code t).1) → Dec (s ≡ t)
    go (yes a) (yes b) = yes (sym (decode_code s) ∙ ap decode (ap₂ (λ i j. (i, j)) a b) ∙ decode_code t)
    go (yes a) (no n) = no (λ e. n (ap (λ z. (code z).1) e))
    go (no n) b = no (λ e. n (ap (λ z. (code z).0) e))

said_set : IsSet LineFault
said_set = hedberg said_discrete

-- one thing is said of a line
said_both : (r : Rooms) (c : Content) (e : Entry) (v w : Option LineFault) → SaidOfEntry r c e v → SaidOfEntry r c e w → ((A : Type 0) → IsProp A → (v ≡ w → A) → A)
said_both r c (signals t) v w p q A prop k = k (p ∙ sym q)
said_both r c (rule t) v w p q A prop k =
    ∥∥₁_elim p prop (λ a. ∥∥₁_elim q prop (λ b. k (a.2 ∙ ap said_of (entering_one c.names c.rules t a.0 b.0 a.1 b.1) ∙ sym b.2)))
said_both r c (state n s a) v w p q A prop k = k (p ∙ sym q)
said_both r c (step f t) v w p q A prop k = k (p ∙ sym q)

said_line : (r : Rooms) (c : Content) (o : Option Entry) (v w : Option LineFault) → SaidOfLine r c o v → SaidOfLine r c o w → ((A : Type 0) → IsProp A → (v ≡ w → A) → A)
said_line r c None v w p q A prop k = k (p ∙ sym q)
said_line r c (Some e) v w p q A prop k = said_both r c e v w p q A prop k

good_or_bad : (r : Rooms) (c : Content) (o : Option Entry) (s : LineFault) → SaidOfLine r c o None → SaidOfLine r c o (Some s) → ⊥
good_or_bad r c o s p q = said_line r c o None (Some s) p q ⊥ ⊥_prop (λ e. some_none s (sym e))

one_said : (r : Rooms) (c : Content) (o : Option Entry) (s t : LineFault) → SaidOfLine r c o (Some s) → SaidOfLine r c o (Some t) → s ≡ t
one_said r c o s t p q = said_line r c o (Some s) (Some t) p q (s ≡ t) (said_set s t) (λ e. some_same s t e)

pub not_good_and_bad : (r : Rooms) (c : Content) (n : ℕ) (ls : List Line) (x : FileFault) → AllGood r c ls → FirstBad r c n ls x → ⊥
not_good_and_bad r c n [] x p q = q
not_good_and_bad r c n (l ∷ ls) x p q =
    ⊎_elim (λ b. good_or_bad r c (formed c l) x.fault p.0 b.1) (λ b. not_good_and_bad r (added_if c (formed c l)) (n + 1) ls x p.1 b.1) q

one_bad : (r : Rooms) (c : Content) (n : ℕ) (ls : List Line) (x y : FileFault) → FirstBad r c n ls x → FirstBad r c n ls y → x ≡ y
one_bad r c n [] x y p q = absurd p
one_bad r c n (l ∷ ls) x y p q =
    ⊎_elim
    (λ a. ⊎_elim
    (λ b. ap₂ (λ i s. fault_of i s) (a.0 ∙ sym b.0) (one_said r c (formed c l) x.fault y.fault a.1 b.1))
    (λ b. absurd (good_or_bad r c (formed c l) x.fault b.0 a.1)) q)
    (λ a. ⊎_elim (λ b. absurd (good_or_bad r c (formed c l) y.fault a.0 b.1)) (λ b. one_bad r (added_if c (formed c l)) (n + 1) ls x y a.1 b.1) q) p
  where
    fault_of : ℕ → LineFault → FileFault
    fault_of i s = record { line = i; fault = s }

loading_one : (r : Rooms) (file : Text) (x y : Result (Unit {0}) FileFault) → RightLoading r file x → RightLoading r file y → x ≡ y
loading_one r file (Ok u) (Ok v) p q = refl
loading_one r file (Ok u) (Err y) p q = absurd (not_good_and_bad r nothing 1 (lines file) y p q)
loading_one r file (Err x) (Ok v) p q = absurd (not_good_and_bad r nothing 1 (lines file) x q p)
loading_one r file (Err x) (Err y) p q = ap Err (one_bad r nothing 1 (lines file) x y p q)

-- ---- any call

pub answers_are_determined : AnswersAreDetermined
answers_are_determined h (opening s t) x y a p q = opening_one t x y p q
answers_are_determined h (entering s t) x y a p q = entering_one (names h s) (rules h s) t x y p q
answers_are_determined h (loading s t r file) x y a p q = loading_one r file x y p q
answers_are_determined h (filling c s k r) x y a p q = fillings_one (rule_at h s k) (rule_good h a s k) r x y p q
answers_are_determined h (beginning c) x y a p q = beginning_one (filled_rule h c) x y p q
answers_are_determined h (scanning c l) x y a p q = scannings_one (filled_rule h c) (filled_good h a c) (watch h c) l x y p q
answers_are_determined h (searching c m n w) x y a p q = searchings_one (filled_rule h c) (filled_good h a c) (meaning_of h m) n w x y p q
