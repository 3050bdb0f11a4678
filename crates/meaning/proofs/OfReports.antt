-- Each printed line says rightly what it says. Assumes nothing.
use Rattle.std.proofs.Common.{◌≡◌, ℕ, ◌<◌, ◌≤◌, ◌^◌, eqb, List, [], ◌∷◌, ◌++◌, length, take, get_or, Some, None, Ok, Err, Option, Result, codes, decimal, sym, ap, ◌∙◌, subst, ⊎_elim, arith, length-append}
use mathlib.Core.Logic.{∥∥₁_elim, ∥∥₁_map, ∥∥₁_prop}
use mathlib.Core.HLevel.{⊥_prop, ×_prop, ¬_prop, Π_prop}
use mathlib.Core.List.{is_set}
use native.Mathlib.Nat.{ℕ_set}
use Rattle.std.specs.List.{slice_get}
use native.Mathlib.Bridge.{le_prop}
use Rattle.std.proofs.lemmas.List.{append_cancel_left, append_cancel_right}
use Rattle.std.proofs.lemmas.Fmt.{decimal_injective}
use Rattle.meaning.specs.declared.refusals.FillingFault.{FillingFault}
use Rattle.meaning.specs.declared.refusals.FillingFault.TheVariants.{NoRule, LabelsExceed, StandingsExceed}
use Rattle.meaning.specs.declared.refusals.SearchingFault.{SearchingFault}
use Rattle.meaning.specs.declared.refusals.SearchingFault.TheVariants.{Blank as SearchBlank, NoStart, ManyStates, ShortWalkArea, PairsExceed}
use Rattle.meaning.specs.declared.answers.Verdict.{Verdict}
use Rattle.meaning.specs.declared.answers.Verdict.TheVariants.{Shown, Clear}
use Rattle.logic.specs.Formula.{Formula}
use Rattle.meaning.specs.Bytes.{Text}
use Rattle.meaning.specs.Refusals.{number_of_filling}
use Rattle.meaning.specs.Machines.{Meaning}
use Rattle.meaning.specs.Kinds.{table_meaning}
use Rattle.meaning.specs.Walks.{Shortest, ShorterFit, AllFit, Showable, Clearable, Pairs}
use Rattle.meaning.specs.Written.{IsBreachFormula}
use Rattle.meaning.specs.Files.{Line, Entry, signals, rule, state, step, Content, Rooms, formed, added_if, content_from, state_room, SaidOfLine, AllGood, nothing, lines, content, lines_in}
use Rattle.meaning.specs.Histories.{Ruled, ruled, rule_at, filled_rule}
use Rattle.meaning.specs.Right.{FormulaOf, ExceedsLabels, ExceedsStandings, HasNoStart, PairsExceedRoom, Fills, RightFilling, Searches, RightSearching}
use Rattle.meaning.specs.Printed.{table_rooms, chart_areas, field, fields, rule_line, loaded, filled, verdict, PrintsRule}
use Rattle.meaning.specs.Reports.{refused_line, clear_line, broken_line, ChartFits, IsLookedFor, SaysRightly, ReportsSayRightly}
use Rattle.meaning.proofs.OfHistories.{at_same}
use Rattle.meaning.proofs.OfClaims.{shown_length}
use Rattle.meaning.proofs.OfLaws.{room_left}
use Rattle.meaning.proofs.OfNames.{one_formula, names_good}
use Rattle.meaning.proofs.Determined.{pairs_are_unique}

-- ---- lines of rules with different verdicts differ

one_verdict : (k : ℕ) (a b : Text) → rule_line k a ≡ rule_line k b → a ≡ b
one_verdict k a b e =
    append_cancel_left (decimal k) a b
    (append_cancel_left (codes "rule,") (decimal k ++ a) (decimal k ++ b) (append_cancel_right (codes "rule," ++ (decimal k ++ a)) (codes "rule," ++ (decimal k ++ b)) (codes "\n") e))

byte_of : (i k : ℕ) (a b : Text) → rule_line k a ≡ rule_line k b → get_or a i 0 ≡ get_or b i 0
byte_of i k a b e = ap (λ l. get_or l i 0) (one_verdict k a b e)

abbrev refused : ℕ → Text
refused n = codes ",refused" ++ field n

abbrev cleared : ℕ → Text
cleared n = codes ",clear" ++ field n

abbrev broke : List ℕ → Text
broke xs = codes ",broken" ++ (field (length xs) ++ fields xs)

refused_not_clear : (k i n : ℕ) → refused_line k i ≡ clear_line k n → ⊥
refused_not_clear k i n e = let d : 114 ≡ 99 = byte_of 1 k (refused i) (cleared n) e in omega (arith, d)

refused_not_broken : (k i : ℕ) (xs : List ℕ) → refused_line k i ≡ broken_line k xs → ⊥
refused_not_broken k i xs e = let d : 114 ≡ 98 = byte_of 1 k (refused i) (broke xs) e in omega (arith, d)

clear_not_broken : (k n : ℕ) (xs : List ℕ) → clear_line k n ≡ broken_line k xs → ⊥
clear_not_broken k n xs e = let d : 99 ≡ 98 = byte_of 1 k (cleared n) (broke xs) e in omega (arith, d)

small_number : (n : ℕ) → n ≤ 1024 → n < 2 ^ 64
small_number n l = omega (arith, l)

one_count_printed : (k i n : ℕ) → i ≤ 1024 → n ≤ 1024 → clear_line k i ≡ clear_line k n → i ≡ n
one_count_printed k i n l j e =
    decimal_injective i n (small_number i l) (small_number n j) (append_cancel_left (codes ",clear,") (decimal i) (decimal n) (one_verdict k (cleared i) (cleared n) e))

one_refusal : (k i j : ℕ) → i ≤ 1024 → j ≤ 1024 → refused_line k i ≡ refused_line k j → i ≡ j
one_refusal k i j l r e =
    decimal_injective i j (small_number i l) (small_number j r) (append_cancel_left (codes ",refused,") (decimal i) (decimal j) (one_verdict k (refused i) (refused j) e))

nine_not_ten : (k : ℕ) → refused_line k 9 ≡ refused_line k 10 → ⊥
nine_not_ten k e = let d : 9 ≡ 10 = one_refusal k 9 10 (omega arith) (omega arith) e in omega (arith, d)

nine_not_14 : (k : ℕ) → refused_line k 9 ≡ refused_line k 14 → ⊥
nine_not_14 k e = let d : 9 ≡ 14 = one_refusal k 9 14 (omega arith) (omega arith) e in omega (arith, d)

nine_not_17 : (k : ℕ) → refused_line k 9 ≡ refused_line k 17 → ⊥
nine_not_17 k e = let d : 9 ≡ 17 = one_refusal k 9 17 (omega arith) (omega arith) e in omega (arith, d)

ten_not_14 : (k : ℕ) → refused_line k 10 ≡ refused_line k 14 → ⊥
ten_not_14 k e = let d : 10 ≡ 14 = one_refusal k 10 14 (omega arith) (omega arith) e in omega (arith, d)

ten_not_17 : (k : ℕ) → refused_line k 10 ≡ refused_line k 17 → ⊥
ten_not_17 k e = let d : 10 ≡ 17 = one_refusal k 10 17 (omega arith) (omega arith) e in omega (arith, d)

no_14_as_17 : (k : ℕ) → refused_line k 14 ≡ refused_line k 17 → ⊥
no_14_as_17 k e = let d : 14 ≡ 17 = one_refusal k 14 17 (omega arith) (omega arith) e in omega (arith, d)

-- ---- the table of a good file has few states

few_added : (r : Rooms) (c : Content) (o : Option Entry) → length c.states ≤ state_room r → SaidOfLine r c o None → length (added_if c o).states ≤ state_room r
few_added r c None h s = h
few_added r c (Some (signals t)) h s = h
few_added r c (Some (rule t)) h s = h
few_added r c (Some (state n b a)) h s = omega (arith, room_left (length c.states) (state_room r) s, length-append c.states (record { start = eqb b 1; letter = a } ∷ []))
few_added r c (Some (step f t)) h s = h

few_from : (r : Rooms) (c : Content) (ls : List Line) → length c.states ≤ state_room r → AllGood r c ls → length (content_from c ls).states ≤ state_room r
few_from r c [] h g = h
few_from r c (l ∷ ls) h g = few_from r (added_if c (formed c l)) ls (few_added r c (formed c l) h g.0) g.1

-- ---- what a line tells

-- the line of rule k, with why it is this one
data Told (f : Formula) (m : Meaning) (k : ℕ) (line : Text) : Type 0 where
  by_labels : ExceedsLabels f 512 → line ≡ refused_line k 9 → Told f m k line
  by_standings : ¬ ExceedsLabels f 512 × ExceedsStandings f 32 → line ≡ refused_line k 10 → Told f m k line
  by_start : ChartFits f × HasNoStart m → line ≡ refused_line k 14 → Told f m k line
  by_pairs : IsLookedFor f m × PairsExceedRoom f m 1024 → line ≡ refused_line k 17 → Told f m k line
  as_clear : (n : ℕ) → n ≤ 1024 → IsLookedFor f m → Clearable f m 1024 → Pairs f m n → line ≡ clear_line k n → Told f m k line
  as_broken : (xs : List ℕ) → IsLookedFor f m → Shortest f m xs → ShorterFit f m 1024 (length xs) → line ≡ broken_line k xs → Told f m k line

module _ (f : Formula) (m : Meaning) (k : ℕ) (line : Text) where
  not_both : Clearable f m 1024 → Showable f m 1024 → ⊥
  not_both c s = ∥∥₁_elim s ⊥_prop (λ x. c.0 x.0 x.1.breach)

  many_labels : ExceedsLabels f 512 → Told f m k line → line ≡ refused_line k 9
  many_labels a (by_labels b e) = e
  many_labels a (by_standings b e) = absurd (b.0 a)
  many_labels a (by_start b e) = absurd (b.0.0 a)
  many_labels a (by_pairs b e) = absurd (b.0.0.0 a)
  many_labels a (as_clear n l b c d e) = absurd (b.0.0 a)
  many_labels a (as_broken xs b c d e) = absurd (b.0.0 a)

  labels_only : line ≡ refused_line k 9 → Told f m k line → ExceedsLabels f 512
  labels_only q (by_labels b e) = b
  labels_only q (by_standings b e) = absurd (nine_not_ten k (sym q ∙ e))
  labels_only q (by_start b e) = absurd (nine_not_14 k (sym q ∙ e))
  labels_only q (by_pairs b e) = absurd (nine_not_17 k (sym q ∙ e))
  labels_only q (as_clear n l b c d e) = absurd (refused_not_clear k 9 n (sym q ∙ e))
  labels_only q (as_broken xs b c d e) = absurd (refused_not_broken k 9 xs (sym q ∙ e))

  many_standings : ¬ ExceedsLabels f 512 × ExceedsStandings f 32 → Told f m k line → line ≡ refused_line k 10
  many_standings a (by_labels b e) = absurd (a.0 b)
  many_standings a (by_standings b e) = e
  many_standings a (by_start b e) = absurd (b.0.1 a.1)
  many_standings a (by_pairs b e) = absurd (b.0.0.1 a.1)
  many_standings a (as_clear n l b c d e) = absurd (b.0.1 a.1)
  many_standings a (as_broken xs b c d e) = absurd (b.0.1 a.1)

  standings_only : line ≡ refused_line k 10 → Told f m k line → ¬ ExceedsLabels f 512 × ExceedsStandings f 32
  standings_only q (by_labels b e) = absurd (nine_not_ten k (sym e ∙ q))
  standings_only q (by_standings b e) = b
  standings_only q (by_start b e) = absurd (ten_not_14 k (sym q ∙ e))
  standings_only q (by_pairs b e) = absurd (ten_not_17 k (sym q ∙ e))
  standings_only q (as_clear n l b c d e) = absurd (refused_not_clear k 10 n (sym q ∙ e))
  standings_only q (as_broken xs b c d e) = absurd (refused_not_broken k 10 xs (sym q ∙ e))

  no_start : ChartFits f × HasNoStart m → Told f m k line → line ≡ refused_line k 14
  no_start a (by_labels b e) = absurd (a.0.0 b)
  no_start a (by_standings b e) = absurd (a.0.1 b.1)
  no_start a (by_start b e) = e
  no_start a (by_pairs b e) = absurd (b.0.1 a.1)
  no_start a (as_clear n l b c d e) = absurd (b.1 a.1)
  no_start a (as_broken xs b c d e) = absurd (b.1 a.1)

  start_only : line ≡ refused_line k 14 → Told f m k line → ChartFits f × HasNoStart m
  start_only q (by_labels b e) = absurd (nine_not_14 k (sym e ∙ q))
  start_only q (by_standings b e) = absurd (ten_not_14 k (sym e ∙ q))
  start_only q (by_start b e) = b
  start_only q (by_pairs b e) = absurd (no_14_as_17 k (sym q ∙ e))
  start_only q (as_clear n l b c d e) = absurd (refused_not_clear k 14 n (sym q ∙ e))
  start_only q (as_broken xs b c d e) = absurd (refused_not_broken k 14 xs (sym q ∙ e))

  clear : IsLookedFor f m × Clearable f m 1024 → Told f m k line → ∥ ((n : ℕ) × (line ≡ clear_line k n)) ∥₁
  clear a (by_labels b e) = absurd (a.0.0.0 b)
  clear a (by_standings b e) = absurd (a.0.0.1 b.1)
  clear a (by_start b e) = absurd (a.0.1 b.1)
  clear a (by_pairs b e) = absurd (b.1.1 a.1)
  clear a (as_clear n l b c d e) = ∣ (n, e) ∣₁
  clear a (as_broken xs b c d e) = absurd (a.1.0 xs c.breach)

  clear_only : (n : ℕ) → line ≡ clear_line k n → Told f m k line → IsLookedFor f m × Clearable f m 1024
  clear_only n q (by_labels b e) = absurd (refused_not_clear k 9 n (sym e ∙ q))
  clear_only n q (by_standings b e) = absurd (refused_not_clear k 10 n (sym e ∙ q))
  clear_only n q (by_start b e) = absurd (refused_not_clear k 14 n (sym e ∙ q))
  clear_only n q (by_pairs b e) = absurd (refused_not_clear k 17 n (sym e ∙ q))
  clear_only n q (as_clear i l b c d e) = (b, c)
  clear_only n q (as_broken xs b c d e) = absurd (clear_not_broken k n xs (sym q ∙ e))

  counted : (n : ℕ) → n ≤ 1024 → line ≡ clear_line k n → Told f m k line → Pairs f m n
  counted n j q (by_labels b e) = absurd (refused_not_clear k 9 n (sym e ∙ q))
  counted n j q (by_standings b e) = absurd (refused_not_clear k 10 n (sym e ∙ q))
  counted n j q (by_start b e) = absurd (refused_not_clear k 14 n (sym e ∙ q))
  counted n j q (by_pairs b e) = absurd (refused_not_clear k 17 n (sym e ∙ q))
  counted n j q (as_clear i l b c d e) = subst (Pairs f m) (one_count_printed k i n l j (sym e ∙ q)) d
  counted n j q (as_broken xs b c d e) = absurd (clear_not_broken k n xs (sym q ∙ e))

  shortest : IsLookedFor f m → Showable f m 1024 → Told f m k line → ∥ ((xs : List ℕ) × Shortest f m xs × (line ≡ broken_line k xs)) ∥₁
  shortest a s (by_labels b e) = absurd (a.0.0 b)
  shortest a s (by_standings b e) = absurd (a.0.1 b.1)
  shortest a s (by_start b e) = absurd (a.1 b.1)
  shortest a s (by_pairs b e) = absurd (b.1.0 s)
  shortest a s (as_clear n l b c d e) = absurd (not_both c s)
  shortest a s (as_broken xs b c d e) = ∣ (xs, c, e) ∣₁

  broken_only : (xs : List ℕ) → line ≡ broken_line k xs → Told f m k line → IsLookedFor f m × Showable f m 1024
  broken_only xs q (by_labels b e) = absurd (refused_not_broken k 9 xs (sym e ∙ q))
  broken_only xs q (by_standings b e) = absurd (refused_not_broken k 10 xs (sym e ∙ q))
  broken_only xs q (by_start b e) = absurd (refused_not_broken k 14 xs (sym e ∙ q))
  broken_only xs q (by_pairs b e) = absurd (refused_not_broken k 17 xs (sym e ∙ q))
  broken_only xs q (as_clear n l b c d e) = absurd (clear_not_broken k n xs (sym e ∙ q))
  broken_only xs q (as_broken ys b c d e) = (b, ∣ (ys, c, d) ∣₁)

  many_pairs : IsLookedFor f m × PairsExceedRoom f m 1024 → Told f m k line → line ≡ refused_line k 17
  many_pairs a (by_labels b e) = absurd (a.0.0.0 b)
  many_pairs a (by_standings b e) = absurd (a.0.0.1 b.1)
  many_pairs a (by_start b e) = absurd (a.0.1 b.1)
  many_pairs a (by_pairs b e) = e
  many_pairs a (as_clear n l b c d e) = absurd (a.1.1 c)
  many_pairs a (as_broken xs b c d e) = absurd (a.1.0 ∣ (xs, c, d) ∣₁)

  pairs_only : line ≡ refused_line k 17 → Told f m k line → IsLookedFor f m × PairsExceedRoom f m 1024
  pairs_only q (by_labels b e) = absurd (nine_not_17 k (sym e ∙ q))
  pairs_only q (by_standings b e) = absurd (ten_not_17 k (sym e ∙ q))
  pairs_only q (by_start b e) = absurd (no_14_as_17 k (sym e ∙ q))
  pairs_only q (by_pairs b e) = b
  pairs_only q (as_clear n l b c d e) = absurd (refused_not_clear k 17 n (sym q ∙ e))
  pairs_only q (as_broken xs b c d e) = absurd (refused_not_broken k 17 xs (sym q ∙ e))

-- ---- the calls that are made for a line

text_set : IsSet Text
text_set = is_set ℕ_set

states_set : IsSet (List ℕ)
states_set = is_set ℕ_set

looked_for_prop : (f : Formula) (m : Meaning) → IsProp (IsLookedFor f m)
looked_for_prop f m = ×_prop (×_prop ¬_prop ¬_prop) ¬_prop

clearable_prop : (f : Formula) (m : Meaning) → IsProp (Clearable f m 1024)
clearable_prop f m = ×_prop (Π_prop (λ xs. ¬_prop)) ∥∥₁_prop

module _ (file : Text) (good : AllGood table_rooms nothing (lines file)) (k : ℕ) (t : Text) (here : slice_get (content file).rules k ≡ Some t)
    (f : Formula) (is : IsBreachFormula (content file).names t f) (line : Text) where
  abbrev r : Ruled
  r = record { under = (content file).names; text = t }

  abbrev m : Meaning
  m = table_meaning (lines_in (content file))

  at_k : rule_at (loaded file) 0 k ≡ Some r
  at_k = ap (ruled (content file).names) here

  filled_with : (n : ℕ × ℕ) → filled_rule (filled k n ∷ loaded file) k ≡ Some r
  filled_with n = at_same k (rule_at (loaded file) 0 k) None ∙ at_k

  few_states : m.count ≤ 256
  few_states = few_from table_rooms nothing (lines file) (omega arith) good

  by_f : (A : Type 0) → IsProp A → (P : Formula → Type 0) → (P f → A) → ∥ ((g : Formula) × FormulaOf (Some r) g × P g) ∥₁ → A
  by_f A prop P go x = ∥∥₁_elim x prop (λ a. go (subst P (one_formula (content file).names t (names_good (loaded file) (good, tt) 0) a.0 f a.1 is) a.2))

  few_pairs : (n : ℕ) → Pairs f m n → AllFit f m 1024 → n ≤ 1024
  few_pairs n c fit = ∥∥₁_elim fit le_prop (λ x. subst (λ i. i ≤ 1024) (pairs_are_unique f m x.0 n ∣ x.2 ∣₁ c) x.1)

  refused_told : (e : FillingFault) → Fills f chart_areas (Err e) → line ≡ refused_line k (number_of_filling e) → Told f m k line
  refused_told NoRule h e = absurd h
  refused_told LabelsExceed h e = by_labels h e
  refused_told StandingsExceed h e = by_standings h e

  looked_told : ChartFits f → (w : List ℕ) → length w ≡ 1025 → (x : Result Verdict SearchingFault) (w' : List ℕ) → Searches f m 1024 w (x, w') → line ≡ rule_line k (verdict (x, w')) → Told f m k line
  looked_told c w l (Err SearchBlank) w' h e = absurd h
  looked_told c w l (Err NoStart) w' h e = by_start (c, h.0) e
  looked_told c w l (Err ManyStates) w' h e = absurd (omega (arith, h.1, few_states))
  looked_told c w l (Err ShortWalkArea) w' h e = absurd (omega (arith, h.2, l))
  looked_told c w l (Err PairsExceed) w' h e = by_pairs ((c, h.0.a_start), h.1) e
  looked_told c w l (Ok (Clear n)) w' h e = as_clear n (few_pairs n h.1.number h.1.fit_all) (c, h.0.a_start) (h.1.none, h.1.fit_all) h.1.number e
  looked_told c w l (Ok (Shown j)) w' h e =
      let long = shown_length j w' h.1.within in
      as_broken (take j w') (c, h.0.a_start) h.1.shortest (subst (ShorterFit f m 1024) (sym long) h.1.fit_before)
      (e ∙ ap (λ i. rule_line k (codes ",broken" ++ (field i ++ fields (take j w')))) (sym long))

  told : (A : Type 0) → IsProp A → (Told f m k line → A) → PrintsRule (loaded file) k line → A
  told A prop go p =
      ∥∥₁_elim p prop (λ x.
      ⊎_elim
      (λ a. by_f A prop (λ g. Fills g chart_areas (Err a.0)) (λ h. go (refused_told a.0 h a.2)) (subst (λ o. RightFilling o chart_areas (Err a.0)) at_k a.1))
      (λ b.
      by_f A prop (λ g. Fills g chart_areas (Ok b.0))
      (λ h. by_f A prop (λ g. Searches g m 1024 b.1 b.2) (λ s. go (looked_told (h.0, h.1) b.1 b.4 b.2.0 b.2.1 s b.6)) (subst (λ o. RightSearching o m 1024 b.1 b.2) (filled_with b.0) b.5))
      (subst (λ o. RightFilling o chart_areas (Ok b.0)) at_k b.3)) x)

  says : PrintsRule (loaded file) k line → SaysRightly f m k line
  says p = record {
    many_labels = (λ q. told _ ∥∥₁_prop (labels_only f m k line q) p, λ a. told _ (text_set _ _) (many_labels f m k line a) p);
    many_standings = (λ q. told _ (×_prop ¬_prop ∥∥₁_prop) (standings_only f m k line q) p, λ a. told _ (text_set _ _) (many_standings f m k line a) p);
    no_start = (λ q. told _ (×_prop (×_prop ¬_prop ¬_prop) (states_set _ _)) (start_only f m k line q) p, λ a. told _ (text_set _ _) (no_start f m k line a) p);
    clear = (
      λ x. ∥∥₁_elim x (×_prop (looked_for_prop f m) (clearable_prop f m)) (λ y. told _ (×_prop (looked_for_prop f m) (clearable_prop f m)) (clear_only f m k line y.0 y.1) p),
      λ a. told _ ∥∥₁_prop (clear f m k line a) p,
    );
    counted = λ n l q. told _ ∥∥₁_prop (counted f m k line n l q) p;
    broken = (
      λ x. ∥∥₁_elim x (×_prop (looked_for_prop f m) ∥∥₁_prop) (λ y. told _ (×_prop (looked_for_prop f m) ∥∥₁_prop) (broken_only f m k line y.0 y.1) p),
      λ a. ∥∥₁_map (told _ ∥∥₁_prop (shortest f m k line a.0 a.1) p) (λ y. (y.0, y.2)),
    );
    shortest = λ a s. told _ ∥∥₁_prop (shortest f m k line a s) p;
    many_pairs = (λ q. told _ (×_prop (looked_for_prop f m) (×_prop ¬_prop ¬_prop)) (pairs_only f m k line q) p, λ a. told _ (text_set _ _) (many_pairs f m k line a) p);
  }

pub reports_say_rightly : ReportsSayRightly
reports_say_rightly file good k t here f is line p = says file good k t here f is line p
