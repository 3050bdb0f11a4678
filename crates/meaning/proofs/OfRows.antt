-- Each refusal comes exactly where its row says. Assumes nothing.
use Rattle.std.proofs.Common.{◌≡◌, ℕ, ◌<◌, ◌≤◌, Bool, true, false, cond, ◌↔◌, leb, List, length, Some, None, Ok, Err, Option, Result, sym, refl, ap, ◌∙◌, subst, inl, inr, arith}
use mathlib.Core.Logic.{∥∥₁_elim, ∥∥₁_map}
use mathlib.Core.HLevel.{⊥_prop}
use mathlib.Core.Bool.{false≢true, Bool-set}
use native.Mathlib.Decide.{dec_lt}
use Rattle.std.proofs.lemmas.Bool.{and_parts, leb-true, le-leb}
use Rattle.meaning.specs.declared.refusals.RuleFault.TheVariants.{WrongWord, WordWanted, BytesFollow, TooDeep}
use Rattle.meaning.specs.declared.refusals.SheetFault.{SheetFault}
use Rattle.meaning.specs.declared.refusals.FillingFault.TheVariants.{NoRule, LabelsExceed, StandingsExceed}
use Rattle.meaning.specs.declared.refusals.ScanningFault.TheVariants.{Blank as ScanBlank, NoWatch, AlreadyBroken}
use Rattle.meaning.specs.declared.refusals.SearchingFault.{SearchingFault}
use Rattle.meaning.specs.declared.refusals.SearchingFault.TheVariants.{Blank as SearchBlank, NoStart, ManyStates, ShortWalkArea, PairsExceed}
use Rattle.meaning.specs.declared.refusals.NamesFault.TheVariants.{Unfit}
use Rattle.meaning.specs.declared.refusals.BeginningFault.TheVariants.{Blank as BeginBlank}
use Rattle.meaning.specs.declared.refusals.TableFault.{TableFault}
use Rattle.meaning.specs.declared.refusals.TableFault.TheVariants.{Form, NoRoom}
use Rattle.meaning.specs.declared.refusals.LineFault.{LineFault}
use Rattle.meaning.specs.declared.refusals.LineFault.TheVariants.{Names, Table}
use Rattle.meaning.specs.declared.refusals.FittingFault.{FittingFault}
use Rattle.meaning.specs.declared.refusals.FittingFault.TheVariants.{TooLarge}
use Rattle.meaning.specs.declared.answers.Verdict.{Verdict}
use Rattle.logic.specs.Formula.{Formula}
use Rattle.meaning.specs.Names.{fit}
use Rattle.meaning.specs.Charts.{Areas}
use Rattle.meaning.specs.Machines.{Meaning}
use Rattle.meaning.specs.Kinds.{stuck_fits, LayerIsTooLarge}
use Rattle.meaning.specs.Files.{Line, Entry, signals, rule, state, step, Content, Rooms, formed, has_room, FindsNoRoom, said_of, SaidOfLine}
use Rattle.meaning.specs.Calls.{History}
use Rattle.meaning.specs.Histories.{names, Ruled, rule_at, filled_rule, watch, meaning_of}
use Rattle.meaning.specs.Right.{HasNoRule, LabelsExceedRoom, StandingsExceedRoom, RightFilling, ChartIsBlank, RightBeginning, HasNoWatch, WatchIsBroken, RightScanning, HasNoStart, HasManyStates, WalkAreaIsShort, Searchable, PairsExceedRoom, RightSearching, AllRight}
use Rattle.meaning.specs.Rows.{OfRule, OfWatch, EnteringRows, LoadingRows, FittingRows, RefusalsHaveTheirRows}
use Rattle.meaning.proofs.OfHistories.{some_same}
use Rattle.meaning.proofs.OfNames.{names_good}
use Rattle.meaning.proofs.OfPlaces.{faults_are_told_by_words}

-- ---- entering

entering_rows : (h : History) → AllRight h → (s : ℕ) (t : List ℕ) → EnteringRows h s t
entering_rows h r s t =
    let told = faults_are_told_by_words (names h s) t (names_good h r s) in
    record {
      row_2 = λ p. told (WrongWord p);
      row_3 = λ p. told (WordWanted p);
      row_4 = λ p. told (BytesFollow p);
      row_5 = λ p. told (TooDeep p);
      row_6 = (λ x. x, λ x. x);
      row_7 = (λ x. x, λ x. x);
    }

-- ---- filling, beginning, scanning

of_none : (P : Formula → Type 0) → OfRule None P → ⊥
of_none P x = ∥∥₁_elim x ⊥_prop (λ y. y.1)

row_8 : (o : Option Ruled) (a : Areas) → RightFilling o a (Err NoRule) ↔ HasNoRule o
row_8 None a = (λ _. refl, λ _. refl)
row_8 (Some r) a = (λ h. absurd (∥∥₁_elim h ⊥_prop (λ y. y.2)), λ e. absurd (grind arith))

row_9 : (o : Option Ruled) (a : Areas) → RightFilling o a (Err LabelsExceed) ↔ OfRule o (λ f. LabelsExceedRoom f a)
row_9 None a = (λ e. absurd (grind arith), λ x. absurd (of_none (λ f. LabelsExceedRoom f a) x))
row_9 (Some r) a = (λ h. h, λ h. h)

row_10 : (o : Option Ruled) (a : Areas) → RightFilling o a (Err StandingsExceed) ↔ OfRule o (λ f. StandingsExceedRoom f a)
row_10 None a = (λ e. absurd (grind arith), λ x. absurd (of_none (λ f. StandingsExceedRoom f a) x))
row_10 (Some r) a = (λ h. h, λ h. h)

beginning_row : (o : Option Ruled) → RightBeginning o (Err BeginBlank) ↔ ChartIsBlank o
beginning_row None = (λ _. refl, λ _. refl)
beginning_row (Some r) = (λ e. absurd (grind arith), λ e. absurd (grind arith))

scanning_11 : (o : Option Ruled) (t : Option (List ℕ)) (a : ℕ) → RightScanning o t a (Err ScanBlank) ↔ ChartIsBlank o
scanning_11 None t a = (λ _. refl, λ _. refl)
scanning_11 (Some r) None a = (λ e. absurd (grind arith), λ e. absurd (grind arith))
scanning_11 (Some r) (Some u) a = (λ h. absurd (∥∥₁_elim h ⊥_prop (λ y. y.2)), λ e. absurd (grind arith))

scanning_12 : (o : Option Ruled) (t : Option (List ℕ)) (a : ℕ) → RightScanning o t a (Err NoWatch) ↔ (¬ ChartIsBlank o × HasNoWatch t)
scanning_12 None t a = (λ e. absurd (grind arith), λ k. absurd (k.0 refl))
scanning_12 (Some r) None a = (λ _. ((λ e. grind arith), refl), λ _. refl)
scanning_12 (Some r) (Some u) a = (λ h. absurd (∥∥₁_elim h ⊥_prop (λ y. y.2)), λ k. absurd (let e = k.1 in grind arith))

scanning_13 : (o : Option Ruled) (t : Option (List ℕ)) (a : ℕ) → RightScanning o t a (Err AlreadyBroken) ↔ OfWatch o t WatchIsBroken
scanning_13 None t a = (λ e. absurd (grind arith), λ x. absurd (∥∥₁_elim x ⊥_prop (λ y. y.2)))
scanning_13 (Some r) None a = (λ e. absurd (grind arith), λ x. absurd (∥∥₁_elim x ⊥_prop (λ y. let e = y.3 in grind arith)))
scanning_13 (Some r) (Some u) a = (
  λ h. ∥∥₁_map h (λ y. (y.0, u, y.1, refl, y.2)),
  λ x. ∥∥₁_map x (λ y. (y.0, y.2, subst (WatchIsBroken y.0) (sym (some_same u y.1 y.3)) y.4)),
)

-- ---- search

blank_err : (e : SearchingFault) (w : List ℕ) → ◌≡◌ {A = Result Verdict SearchingFault × List ℕ} (Err e, w) (Err SearchBlank, w) → ◌≡◌ {A = Result Verdict SearchingFault} (Err e) (Err SearchBlank)
blank_err e w k = ap (λ (z : Result Verdict SearchingFault × List ℕ). z.0) k

searching_11 : (o : Option Ruled) (m : Meaning) (p : ℕ) (w : List ℕ) → RightSearching o m p w (Err SearchBlank, w) ↔ ChartIsBlank o
searching_11 None m p w = (λ _. refl, λ _. refl)
searching_11 (Some r) m p w = (λ h. absurd (∥∥₁_elim h ⊥_prop (λ y. y.2)), λ e. absurd (grind arith))

searching_14 : (o : Option Ruled) (m : Meaning) (p : ℕ) (w : List ℕ) → RightSearching o m p w (Err NoStart, w) ↔ OfRule o (λ f. HasNoStart m)
searching_14 None m p w = (λ k. absurd (let e = blank_err NoStart w k in grind arith), λ x. absurd (of_none (λ f. HasNoStart m) x))
searching_14 (Some r) m p w = (λ h. ∥∥₁_map h (λ y. (y.0, y.1, y.2.0)), λ h. ∥∥₁_map h (λ y. (y.0, y.1, (y.2, refl))))

searching_15 : (o : Option Ruled) (m : Meaning) (p : ℕ) (w : List ℕ) → RightSearching o m p w (Err ManyStates, w) ↔ OfRule o (λ f. ¬ HasNoStart m × HasManyStates m)
searching_15 None m p w = (λ k. absurd (let e = blank_err ManyStates w k in grind arith), λ x. absurd (of_none (λ f. ¬ HasNoStart m × HasManyStates m) x))
searching_15 (Some r) m p w = (λ h. ∥∥₁_map h (λ y. (y.0, y.1, (y.2.0, y.2.1))), λ h. ∥∥₁_map h (λ y. (y.0, y.1, (y.2.0, y.2.1, refl))))

few_not_many : (n : ℕ) → n ≤ 65536 → 65536 < n → ⊥
few_not_many n a b = omega arith

not_many_few : (n : ℕ) → (65536 < n → ⊥) → n ≤ 65536
not_many_few n d = elim (dec_lt 65536 n) [ yes l ↦ absurd (d l) | no o ↦ omega arith ]

searching_16 : (o : Option Ruled) (m : Meaning) (p : ℕ) (w : List ℕ) → RightSearching o m p w (Err ShortWalkArea, w) ↔ OfRule o (λ f. ¬ HasNoStart m × ¬ HasManyStates m × WalkAreaIsShort p (length w))
searching_16 None m p w = (λ k. absurd (let e = blank_err ShortWalkArea w k in grind arith), λ x. absurd (of_none (λ f. ¬ HasNoStart m × ¬ HasManyStates m × WalkAreaIsShort p (length w)) x))
searching_16 (Some r) m p w = (
  λ h. ∥∥₁_map h (λ y. (y.0, y.1, (y.2.0, few_not_many m.count y.2.1, y.2.2))),
  λ h. ∥∥₁_map h (λ y. (y.0, y.1, (y.2.0, not_many_few m.count y.2.1, y.2.2, refl))),
)

searching_17 : (o : Option Ruled) (m : Meaning) (p : ℕ) (w : List ℕ) → RightSearching o m p w (Err PairsExceed, w) ↔ OfRule o (λ f. Searchable m p (length w) × PairsExceedRoom f m p)
searching_17 None m p w = (λ k. absurd (let e = blank_err PairsExceed w k in grind arith), λ x. absurd (of_none (λ f. Searchable m p (length w) × PairsExceedRoom f m p) x))
searching_17 (Some r) m p w = (λ h. ∥∥₁_map h (λ y. (y.0, y.1, (y.2.0, y.2.1))), λ h. ∥∥₁_map h (λ y. (y.0, y.1, (y.2.0, y.2.1, refl))))

-- ---- loading

-- what may be said of an entry by a test
by_test : (b : Bool) (x v : LineFault) → Some x ≡ cond b None (Some v) → (b ≡ false) × (x ≡ v)
by_test true x v e = absurd (grind arith)
by_test false x v e = (refl, some_same x v e)

form_not_names : ◌≡◌ {A = LineFault} (Table Form) (Names Unfit) → ⊥
form_not_names e = grind arith

room_not_names : ◌≡◌ {A = LineFault} (Table NoRoom) (Names Unfit) → ⊥
room_not_names e = grind arith

form_not_room : ◌≡◌ {A = LineFault} (Table Form) (Table NoRoom) → ⊥
form_not_room e = grind arith

not_of_rule : (e : TableFault) (a : Result ℕ SheetFault) → ◌≡◌ {A = Option LineFault} (Some (Table e)) (said_of a) → ⊥
not_of_rule e (Ok n) d = grind arith
not_of_rule e (Err x) d = grind arith

form_said : (r : Rooms) (c : Content) (o : Option Entry) → SaidOfLine r c o (Some (Table Form)) → o ≡ None
form_said r c None h = refl
form_said r c (Some (signals t)) h = absurd (form_not_names (by_test (fit t) (Table Form) (Names Unfit) h).1)
form_said r c (Some (rule t)) h = absurd (∥∥₁_elim h ⊥_prop (λ y. not_of_rule Form y.0 y.2))
form_said r c (Some (state n s a)) h = absurd (form_not_room (by_test (has_room r c (state n s a)) (Table Form) (Table NoRoom) h).1)
form_said r c (Some (step f t)) h = absurd (form_not_room (by_test (has_room r c (step f t)) (Table Form) (Table NoRoom) h).1)

room_said : (r : Rooms) (c : Content) (o : Option Entry) → SaidOfLine r c o (Some (Table NoRoom)) → (e : Entry) × (o ≡ Some e) × FindsNoRoom r c e
room_said r c None h = absurd (form_not_room (sym (some_same (Table NoRoom) (Table Form) h)))
room_said r c (Some (signals t)) h = absurd (room_not_names (by_test (fit t) (Table NoRoom) (Names Unfit) h).1)
room_said r c (Some (rule t)) h = absurd (∥∥₁_elim h ⊥_prop (λ y. not_of_rule NoRoom y.0 y.2))
room_said r c (Some (state n s a)) h = (state n s a, refl, (by_test (has_room r c (state n s a)) (Table NoRoom) (Table NoRoom) h).0)
room_said r c (Some (step f t)) h = (step f t, refl, (by_test (has_room r c (step f t)) (Table NoRoom) (Table NoRoom) h).0)

no_room : (r : Rooms) (c : Content) (e : Entry) → FindsNoRoom r c e → SaidOfLine r c (Some e) (Some (Table NoRoom))
no_room r c (signals t) h = absurd (false≢true (sym h))
no_room r c (rule t) h = absurd (false≢true (sym h))
no_room r c (state n s a) h = ap (λ b. cond b None (Some (Table NoRoom))) (sym h)
no_room r c (step f t) h = ap (λ b. cond b None (Some (Table NoRoom))) (sym h)

said_prop : (r : Rooms) (c : Content) (o : Option Entry) → ∥ ((e : Entry) × (o ≡ Some e) × FindsNoRoom r c e) ∥₁ → SaidOfLine r c o (Some (Table NoRoom))
said_prop r c None x = absurd (∥∥₁_elim x ⊥_prop (λ y. let e = y.1 in grind arith))
said_prop r c (Some e) x = no_room r c e (∥∥₁_elim x (Bool-set _ _) (λ y. subst (FindsNoRoom r c) (sym (some_same e y.0 y.1)) y.2))

loading_rows : (r : Rooms) (c : Content) (l : Line) → LoadingRows r c l
loading_rows r c l = record {
  row_18 = (form_said r c (formed c l), λ e. subst (λ o. SaidOfLine r c o (Some (Table Form))) (sym e) refl);
  row_19 = (λ h. ∣ room_said r c (formed c l) h ∣₁, said_prop r c (formed c l));
}

-- ---- fitting

fitting_rows : FittingRows
fitting_rows m g = (λ e. too_large (stuck_fits m g) refl e, λ t. refused (stuck_fits m g) refl t)
  where
    large_or_not : (stuck_fits m g ≡ true → ⊥) → LayerIsTooLarge m g
    large_or_not d =
        elim (dec_lt 32768 m.count) [
          | yes a ↦ inl a
          | no a ↦ elim (dec_lt 524288 m.width) [
            | yes b ↦ inr (inl b)
            | no b ↦ elim (dec_lt 7 g) [
              | yes k ↦ inr (inr k)
              | no k ↦ absurd (d (rw (le-leb m.count 32768 (omega arith)) (rw (le-leb m.width 524288 (omega arith)) (le-leb g 7 (omega arith)))))
            ]
          ]
        ]

    too_large : (b : Bool) → stuck_fits m g ≡ b → ◌≡◌ {A = Result (Unit {0}) FittingFault} (cond b (Ok tt) (Err TooLarge)) (Err TooLarge) → LayerIsTooLarge m g
    too_large true s e = absurd (grind arith)
    too_large false s e = large_or_not (λ t. false≢true (sym s ∙ t))

    refused : (b : Bool) → stuck_fits m g ≡ b → LayerIsTooLarge m g → ◌≡◌ {A = Result (Unit {0}) FittingFault} (cond b (Ok tt) (Err TooLarge)) (Err TooLarge)
    refused false s t = refl
    refused true s t =
        let k = and_parts (leb m.count 32768) _ s in
        let j = and_parts (leb m.width 524288) _ k.1 in
        let x = leb-true m.count 32768 k.0 in
        let y = leb-true m.width 524288 j.0 in
        let z = leb-true g 7 j.1 in
        absurd (elim t [ inl a ↦ omega arith | inr b ↦ elim b [ inl a ↦ omega arith | inr a ↦ omega arith ] ])

-- ---- all rows

pub refusals_have_their_rows : RefusalsHaveTheirRows
refusals_have_their_rows = record {
  of_opening = λ h s t. (λ x. x, λ x. x);
  of_entering = entering_rows;
  of_filling = λ h c s k a. record { row_8 = row_8 (rule_at h s k) a; row_9 = row_9 (rule_at h s k) a; row_10 = row_10 (rule_at h s k) a };
  of_beginning = λ h c. beginning_row (filled_rule h c);
  of_scanning = λ h c a. record {
    row_11 = scanning_11 (filled_rule h c) (watch h c) a;
    row_12 = scanning_12 (filled_rule h c) (watch h c) a;
    row_13 = scanning_13 (filled_rule h c) (watch h c) a;
  };
  of_searching = λ h c m p w. record {
    row_11 = searching_11 (filled_rule h c) (meaning_of h m) p w;
    row_14 = searching_14 (filled_rule h c) (meaning_of h m) p w;
    row_15 = searching_15 (filled_rule h c) (meaning_of h m) p w;
    row_16 = searching_16 (filled_rule h c) (meaning_of h m) p w;
    row_17 = searching_17 (filled_rule h c) (meaning_of h m) p w;
  };
  of_loading = loading_rows;
  of_fitting = fitting_rows;
}
