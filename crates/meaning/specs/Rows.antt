-- Each refusal comes exactly where its row of docs/REFUSALS.md says: the rows are named in `Places`, `Sheets`, `Right`, `Files`, `Kinds`. Assumes nothing.
use Rattle.std.specs.Prelude.{◌≡◌, ℕ, ◌↔◌, List, length, Some, None, Err, Option}
use Rattle.meaning.specs.declared.refusals.NamesFault.TheVariants.{Unfit}
use Rattle.meaning.specs.declared.refusals.RuleFault.TheVariants.{WrongWord, WordWanted, BytesFollow, TooDeep}
use Rattle.meaning.specs.declared.refusals.SheetFault.TheVariants.{Rule, OverKept, SheetFull}
use Rattle.meaning.specs.declared.refusals.FillingFault.TheVariants.{NoRule, LabelsExceed, StandingsExceed}
use Rattle.meaning.specs.declared.refusals.BeginningFault.TheVariants.{Blank as BeginBlank}
use Rattle.meaning.specs.declared.refusals.ScanningFault.TheVariants.{Blank as ScanBlank, NoWatch, AlreadyBroken}
use Rattle.meaning.specs.declared.refusals.SearchingFault.TheVariants.{Blank as SearchBlank, NoStart, ManyStates, ShortWalkArea, PairsExceed}
use Rattle.meaning.specs.declared.refusals.TableFault.TheVariants.{Form, NoRoom}
use Rattle.meaning.specs.declared.refusals.LineFault.TheVariants.{Table}
use Rattle.meaning.specs.declared.refusals.FittingFault.TheVariants.{TooLarge}
use Rattle.logic.specs.Formula.{Formula}
use Rattle.meaning.specs.Bytes.{Text}
use Rattle.meaning.specs.Faults.{text_fault}
use Rattle.meaning.specs.Places.{WrongWordAt, WordWantedAt, BytesFollowAt, TooDeepAt}
use Rattle.meaning.specs.Sheets.{SheetIsFull, IsOverKept}
use Rattle.meaning.specs.Charts.{Areas}
use Rattle.meaning.specs.Machines.{Meaning}
use Rattle.meaning.specs.Kinds.{fitting, LayerIsTooLarge}
use Rattle.meaning.specs.Files.{Line, Entry, Content, Rooms, formed, LineBreaksForm, FindsNoRoom, SaidOfLine}
use Rattle.meaning.specs.Calls.{Machine, opening, entering, filling, beginning, scanning, searching, History}
use Rattle.meaning.specs.Histories.{names, rules, Ruled, rule_at, filled_rule, watch, meaning_of}
use Rattle.meaning.specs.Right.{FormulaOf, NamesAreUnfit, HasNoRule, LabelsExceedRoom, StandingsExceedRoom, ChartIsBlank, HasNoWatch, WatchIsBroken}
use Rattle.meaning.specs.Right.{HasNoStart, HasManyStates, WalkAreaIsShort, Searchable, PairsExceedRoom, Right, AllRight}

-- there is a rule, and P holds of its breach formula
abbrev pub OfRule : Option Ruled → (Formula → Type 0) → Type 0
OfRule r P = ∥ ((f : Formula) × FormulaOf r f × P f) ∥₁

-- the chart has a watch, and P holds of the breach formula of its rule and of the letters of the watch
abbrev pub OfWatch : Option Ruled → Option (List ℕ) → (Formula → List ℕ → Type 0) → Type 0
OfWatch r watched P = ∥ ((f : Formula) × (u : List ℕ) × FormulaOf r f × (watched ≡ Some u) × P f u) ∥₁

-- opening: 1
abbrev pub OpeningRows : History → Type 0
OpeningRows h = (s : ℕ) (t : Text) → Right h (opening s t) (Err Unfit) ↔ NamesAreUnfit t

-- entering: 2 to 5 by the text's words; without a fault of the text 7, and where it is not full 6
pub record EnteringRows (h : History) (s : ℕ) (t : Text) : Type 0 where
  pub row_2 : (p : ℕ) → Right h (entering s t) (Err (Rule (WrongWord p))) ↔ WrongWordAt (names h s) t p
  pub row_3 : (p : ℕ) → Right h (entering s t) (Err (Rule (WordWanted p))) ↔ WordWantedAt (names h s) t p
  pub row_4 : (p : ℕ) → Right h (entering s t) (Err (Rule (BytesFollow p))) ↔ BytesFollowAt (names h s) t p
  pub row_5 : (p : ℕ) → Right h (entering s t) (Err (Rule (TooDeep p))) ↔ TooDeepAt (names h s) t p
  pub row_6 : Right h (entering s t) (Err OverKept) ↔ ((text_fault (names h s) t ≡ None) × ¬ SheetIsFull (names h s) (rules h s) t × IsOverKept (names h s) t)
  pub row_7 : Right h (entering s t) (Err SheetFull) ↔ ((text_fault (names h s) t ≡ None) × SheetIsFull (names h s) (rules h s) t)

-- filling: 8, 9, 10
pub record FillingRows (h : History) (c s k : ℕ) (a : Areas) : Type 0 where
  pub row_8 : Right h (filling c s k a) (Err NoRule) ↔ HasNoRule (rule_at h s k)
  pub row_9 : Right h (filling c s k a) (Err LabelsExceed) ↔ OfRule (rule_at h s k) (λ f. LabelsExceedRoom f a)
  pub row_10 : Right h (filling c s k a) (Err StandingsExceed) ↔ OfRule (rule_at h s k) (λ f. StandingsExceedRoom f a)

-- beginning: 11
abbrev pub BeginningRows : History → Type 0
BeginningRows h = (c : ℕ) → Right h (beginning c) (Err BeginBlank) ↔ ChartIsBlank (filled_rule h c)

-- scan: 11, 12, 13
pub record ScanningRows (h : History) (c a : ℕ) : Type 0 where
  pub row_11 : Right h (scanning c a) (Err ScanBlank) ↔ ChartIsBlank (filled_rule h c)
  pub row_12 : Right h (scanning c a) (Err NoWatch) ↔ (¬ ChartIsBlank (filled_rule h c) × HasNoWatch (watch h c))
  pub row_13 : Right h (scanning c a) (Err AlreadyBroken) ↔ OfWatch (filled_rule h c) (watch h c) WatchIsBroken

-- search: 11, and 14 to 17, of which the lower number wins; the walk area stays
pub record SearchingRows (h : History) (c : ℕ) (m : Machine) (p : ℕ) (w : List ℕ) : Type 0 where
  pub row_11 : Right h (searching c m p w) (Err SearchBlank, w) ↔ ChartIsBlank (filled_rule h c)
  pub row_14 : Right h (searching c m p w) (Err NoStart, w) ↔ OfRule (filled_rule h c) (λ f. HasNoStart (meaning_of h m))
  pub row_15 : Right h (searching c m p w) (Err ManyStates, w) ↔ OfRule (filled_rule h c) (λ f. ¬ HasNoStart (meaning_of h m) × HasManyStates (meaning_of h m))
  pub row_16 : Right h (searching c m p w) (Err ShortWalkArea, w)
      ↔ OfRule (filled_rule h c) (λ f. ¬ HasNoStart (meaning_of h m) × ¬ HasManyStates (meaning_of h m) × WalkAreaIsShort p (length w))
  pub row_17 : Right h (searching c m p w) (Err PairsExceed, w) ↔ OfRule (filled_rule h c) (λ f. Searchable (meaning_of h m) p (length w) × PairsExceedRoom f (meaning_of h m) p)

-- loading, of a line behind those that set c: 18, and 19 of a line that keeps its form
pub record LoadingRows (r : Rooms) (c : Content) (l : Line) : Type 0 where
  pub row_18 : SaidOfLine r c (formed c l) (Some (Table Form)) ↔ LineBreaksForm c l
  pub row_19 : SaidOfLine r c (formed c l) (Some (Table NoRoom)) ↔ ∥ ((e : Entry) × (formed c l ≡ Some e) × FindsNoRoom r c e) ∥₁

-- fitting: 20
abbrev pub FittingRows : Type 0
FittingRows = (m : Meaning) (signal : ℕ) → (fitting m signal ≡ Err TooLarge) ↔ LayerIsTooLarge m signal

-- all rows, after every history; those of entering after every history of right answers
pub record RefusalsHaveTheirRows : Type 0 where
  pub of_opening : (h : History) → OpeningRows h
  pub of_entering : (h : History) → AllRight h → (s : ℕ) (t : Text) → EnteringRows h s t
  pub of_filling : (h : History) (c s k : ℕ) (a : Areas) → FillingRows h c s k a
  pub of_beginning : (h : History) → BeginningRows h
  pub of_scanning : (h : History) (c a : ℕ) → ScanningRows h c a
  pub of_searching : (h : History) (c : ℕ) (m : Machine) (p : ℕ) (w : List ℕ) → SearchingRows h c m p w
  pub of_loading : (r : Rooms) (c : Content) (l : Line) → LoadingRows r c l
  pub of_fitting : FittingRows
