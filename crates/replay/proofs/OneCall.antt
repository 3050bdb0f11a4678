-- One call of the list leaves every object as the longer list says. Assumes nothing.
use Rattle.std.proofs.Common.{◌≡◌, ℕ, ◌<◌, List, ◌∷◌, map, length, inl, inr, Some, None, Ok, Err, Option, Result, refl, sym, ap, subst, ◌∙◌, nat_lt, slice_get, slice_index_or, slice_set, replicate, IfOk}
use Rattle.std.proofs.lemmas.Bool.{cond-true, lt-ltb}
use Rattle.std.proofs.lemmas.List.{length-set, length-map}
use Rattle.meaning.specs.declared.refusals.NamesFault.{NamesFault}
use Rattle.meaning.specs.declared.refusals.SheetFault.{SheetFault}
use Rattle.meaning.specs.declared.refusals.FileFault.{FileFault}
use Rattle.meaning.specs.declared.refusals.FillingFault.{FillingFault}
use Rattle.meaning.specs.declared.refusals.BeginningFault.{BeginningFault}
use Rattle.meaning.specs.declared.refusals.ScanningFault.{ScanningFault}
use Rattle.meaning.specs.declared.answers.Scanned.{Scanned as Scan}
use Rattle.meaning.specs.Bytes.{Text}
use Rattle.meaning.specs.Calls.{Machine, Call, searching, opening, entering, loading, filling, beginning, scanning, Answer as Given, Event, History}
use Rattle.meaning.specs.Claims.{sheet_of, table_of, chart_of}
use Rattle.rules.specs.declared.sheet.Sheet.{Sheet}
use Rattle.rules.specs.Led.{SheetLed, OpeningLed, EnteringLed}
use Rattle.machines.specs.declared.table.Table.{Table}
use Rattle.machines.specs.Held.{rooms_of, SameAreas as SameRooms}
use Rattle.charts.specs.declared.chart.Chart.{Chart}
use Rattle.charts.specs.Fills.{areas}
use Rattle.charts.specs.Kept.{SameAreas, OnLoan}
use Rattle.charts.specs.Led.{ChartLed, Answered}
use Rattle.loading.specs.Led.{TableLed, LedByLoading}
use Rattle.replay.specs.declared.answer.Answer.{Answer}
use Rattle.replay.specs.declared.answer.Answer.TheVariants.{Opened, Entered, Loaded, Filled, Begun, Scanned, NoSuchObject}
use Rattle.replay.specs.Objects.{Objects, objects, ObjectsLed, lent, table_loans, chart_loans}
use Rattle.replay.specs.Meant.{MeantCall, given, searching_with, if_below, if_there, opening_at, entering_at, loading_at, filling_at, beginning_at, scanning_at}
use Rattle.replay.specs.Looks.{LooksOn}
use Rattle.replay.specs.Replayed.{RightGiven, with_given, StepLed}
use Rattle.replay.proofs.Lists.{get_at, get_after_set, other_after_set, map_after_set, get_mapped}
use Rattle.replay.proofs.Stay.{sheet_stays, table_stays, chart_stays}

-- ---- all objects of a kind

abbrev pub AllSheets : History → List Sheet → Type 0
AllSheets h ss = (k : ℕ) (s : Sheet) → slice_get ss k ≡ Some s → SheetLed h k s

abbrev pub AllTables : History → List Table → Type 0
AllTables h ts = (k : ℕ) (t : Table) → slice_get ts k ≡ Some t → TableLed h k t

abbrev pub AllCharts : History → List Chart → Type 0
AllCharts h cs = (k : ℕ) (c : Chart) → slice_get cs k ≡ Some c → ChartLed h k c

-- a call that is made on none of them
sheets_stay : (h : History) (e : Event) (ss : List Sheet) → ((k : ℕ) → sheet_of e.call ≡ Some k → ⊥) → AllSheets h ss → AllSheets (e ∷ h) ss
sheets_stay h e ss ne all k s g = sheet_stays h e k s (ne k) (all k s g)

tables_stay : (h : History) (e : Event) (ts : List Table) → ((k : ℕ) → table_of e.call ≡ Some k → ⊥) → AllTables h ts → AllTables (e ∷ h) ts
tables_stay h e ts ne all k t g = table_stays h e k t (ne k) (all k t g)

charts_stay : (h : History) (e : Event) (cs : List Chart) → ((k : ℕ) → chart_of e.call ≡ Some k → ⊥) → AllCharts h cs → AllCharts (e ∷ h) cs
charts_stay h e cs ne all k c g = chart_stays h e k c (ne k) (all k c g)

-- a call that is made on number n
others : (n k : ℕ) → (k ≡ n → ⊥) → Some n ≡ Some k → ⊥
others n k ne i = ne (cc)

sheets_set : (h : History) (e : Event) (ss : List Sheet) (n : ℕ) (x : Sheet) → sheet_of e.call ≡ Some n → SheetLed (e ∷ h) n x → AllSheets h ss → AllSheets (e ∷ h) (slice_set ss n x)
sheets_set h e ss n x on led all k s g =
    elim (get_after_set ss n x k s g) [
      | inl p ↦ subst (λ i. SheetLed (e ∷ h) i s) (sym p.0) (subst (λ y. SheetLed (e ∷ h) n y) (sym p.1) led)
      | inr p ↦ sheet_stays h e k s (λ i. others n k p.0 (sym on ∙ i)) (all k s p.1)
    ]

tables_set : (h : History) (e : Event) (ts : List Table) (n : ℕ) (x : Table) → table_of e.call ≡ Some n → TableLed (e ∷ h) n x → AllTables h ts → AllTables (e ∷ h) (slice_set ts n x)
tables_set h e ts n x on led all k t g =
    elim (get_after_set ts n x k t g) [
      | inl p ↦ subst (λ i. TableLed (e ∷ h) i t) (sym p.0) (subst (λ y. TableLed (e ∷ h) n y) (sym p.1) led)
      | inr p ↦ table_stays h e k t (λ i. others n k p.0 (sym on ∙ i)) (all k t p.1)
    ]

charts_set : (h : History) (e : Event) (cs : List Chart) (n : ℕ) (x : Chart) → chart_of e.call ≡ Some n → ChartLed (e ∷ h) n x → AllCharts h cs → AllCharts (e ∷ h) (slice_set cs n x)
charts_set h e cs n x on led all k c g =
    elim (get_after_set cs n x k c g) [
      | inl p ↦ subst (λ i. ChartLed (e ∷ h) i c) (sym p.0) (subst (λ y. ChartLed (e ∷ h) n y) (sym p.1) led)
      | inr p ↦ chart_stays h e k c (λ i. others n k p.0 (sym on ∙ i)) (all k c p.1)
    ]

-- ---- calls that are made

-- a call on objects that are there is made
below_made : (n count : ℕ) (c : MeantCall) → n < count → if_below n count c ≡ c
below_made n count c l = cond-true (nat_lt n count) c (Err NoSuchObject) (lt-ltb n count l)

there_made : {X : Type 0} (o : Option X) (x : X) (f : X → Call) → o ≡ Some x → if_there o f ≡ Ok (f x)
there_made o x f e = ap (λ p. if_there p f) e

none : (k : ℕ) → None ≡ Some k → ⊥
none k e = cc

-- a write of the object that a call is made on leaves the others
others_after : {X : Type 0} (xs : List X) (n : ℕ) (x : X) (on : Option ℕ) → on ≡ Some n → (k : ℕ) → (on ≡ Some k → ⊥) → slice_get (slice_set xs n x) k ≡ slice_get xs k
others_after xs n x on i k ne = other_after_set xs n x k (λ e. ne (i ∙ ap Some (sym e)))

-- ---- the calls of each kind

pub opened : (ss : List Sheet) (n : ℕ) (d s' : Sheet) (t : Text) (r : Result (Unit {0}) NamesFault) → n < length ss
    → ((h : History) (m : ℕ) → SheetLed h m (slice_index_or ss n d) → OpeningLed h m t r s') → (ts : List Table) (cs : List Chart)
    → StepLed (opening_at (lent (objects ss ts cs)) n t) (Opened r) (objects ss ts cs) (objects (slice_set ss n s') ts cs)
opened ss n d s' t r l f ts cs =
    let o = objects ss ts cs in
    let o' = objects (slice_set ss n s') ts cs in
    let s = slice_index_or ss n d in
    let g : slice_get ss n ≡ Some s = get_at ss n d l in
    subst (λ (c : MeantCall). StepLed c (Opened r) o o') (sym (below_made n (length ss) (Ok (opening n t)) l)) (record {
      same = ap (λ k. record { sheets = k; rooms = map rooms_of ts; areas = map areas cs }) (length-set ss n s');
      on_loan = refl;
      others = record { sheets = others_after ss n s' (Some n) refl; tables = λ k ne. refl; charts = λ k ne. refl };
      right = λ h led. (f h n (led.sheets n s g)).0;
      led = λ h led. let v : Event = record { call = opening n t; answer = r } in record {
        sheets = sheets_set h v ss n s' refl (f h n (led.sheets n s g)).1 led.sheets;
        tables = tables_stay h v ts none led.tables;
        charts = charts_stay h v cs none led.charts;
      };
    })

pub entered : (ss : List Sheet) (n : ℕ) (d s' : Sheet) (t : Text) (r : Result ℕ SheetFault) → n < length ss
    → ((h : History) (m : ℕ) → SheetLed h m (slice_index_or ss n d) → EnteringLed h m t r s') → (ts : List Table) (cs : List Chart)
    → StepLed (entering_at (lent (objects ss ts cs)) n t) (Entered r) (objects ss ts cs) (objects (slice_set ss n s') ts cs)
entered ss n d s' t r l f ts cs =
    let o = objects ss ts cs in
    let o' = objects (slice_set ss n s') ts cs in
    let s = slice_index_or ss n d in
    let g : slice_get ss n ≡ Some s = get_at ss n d l in
    subst (λ (c : MeantCall). StepLed c (Entered r) o o') (sym (below_made n (length ss) (Ok (entering n t)) l)) (record {
      same = ap (λ k. record { sheets = k; rooms = map rooms_of ts; areas = map areas cs }) (length-set ss n s');
      on_loan = refl;
      others = record { sheets = others_after ss n s' (Some n) refl; tables = λ k ne. refl; charts = λ k ne. refl };
      right = λ h led. (f h n (led.sheets n s g)).0;
      led = λ h led. let v : Event = record { call = entering n t; answer = r } in record {
        sheets = sheets_set h v ss n s' refl (f h n (led.sheets n s g)).1 led.sheets;
        tables = tables_stay h v ts none led.tables;
        charts = charts_stay h v cs none led.charts;
      };
    })

tables_on_loan : (t t' : Table) → SameRooms t t' → table_loans t' ≡ table_loans t
tables_on_loan t t' s = simp (s.1, s.2) refl

pub loaded : (ss : List Sheet) (ts : List Table) (n y : ℕ) (d s' : Sheet) (e t' : Table) (file : Text) (r : Result (Unit {0}) FileFault)
    → n < length ss → y < length ts → LedByLoading (rooms_of (slice_index_or ts y e)) file r s' t' → SameRooms (slice_index_or ts y e) t' → (cs : List Chart)
    → StepLed (loading_at (lent (objects ss ts cs)) n y file) (Loaded r) (objects ss ts cs) (objects (slice_set ss n s') (slice_set ts y t') cs)
loaded ss ts n y d s' e t' file r l k f same cs =
    let o = objects ss ts cs in
    let o' = objects (slice_set ss n s') (slice_set ts y t') cs in
    let t = slice_index_or ts y e in
    let g : slice_get ts y ≡ Some t = get_at ts y e k in
    let made : loading_at (lent o) n y file ≡ Ok (loading n y (rooms_of t) file) =
    below_made n (length ss) _ l ∙ there_made (slice_get (map rooms_of ts) y) (rooms_of t) (λ r. loading n y r file) (get_mapped rooms_of ts y t g) in
    subst (λ (c : MeantCall). StepLed c (Loaded r) o o') (sym made) (record {
      same = ap (λ k. record { sheets = k; rooms = map rooms_of (slice_set ts y t'); areas = map areas cs }) (length-set ss n s')
          ∙ ap (λ rs. record { sheets = length ss; rooms = rs; areas = map areas cs }) (map_after_set rooms_of ts y t t' g same.0);
      on_loan = ap (λ k. record { tables = k; charts = map chart_loans cs }) (map_after_set table_loans ts y t t' g (tables_on_loan t t' same));
      others = record { sheets = others_after ss n s' (Some n) refl; tables = others_after ts y t' (Some y) refl; charts = λ m ne. refl };
      right = λ h led. (f h n y).0;
      led = λ h led. let v : Event = record { call = loading n y (rooms_of t) file; answer = r } in record {
        sheets = sheets_set h v ss n s' refl (f h n y).1 led.sheets;
        tables = tables_set h v ts y t' refl (f h n y).2 led.tables;
        charts = charts_stay h v cs none led.charts;
      };
    })

-- ---- the calls on a chart

filled_on_loan : (d d' : Chart) → OnLoan d.labels d.standings d.next d' → chart_loans d' ≡ chart_loans d
filled_on_loan d d' s = simp (s.0, s.1, s.2) refl

same_on_loan : (d d' : Chart) → SameAreas d d' → chart_loans d' ≡ chart_loans d
same_on_loan d d' s = simp (s.0, s.1, s.2) refl

-- a call that is made on chart n alone
on_chart : (c : Call) (x : Given c) (a : Answer) (ss : List Sheet) (ts : List Table) (cs : List Chart) (n : ℕ) (d d' : Chart)
    → given c a ≡ Some x → sheet_of c ≡ None → table_of c ≡ None → chart_of c ≡ Some n → slice_get cs n ≡ Some d → areas d' ≡ areas d → chart_loans d' ≡ chart_loans d
    → ((h : History) → AllSheets h ss → ChartLed h n d → Answered h n c x d')
    → StepLed (Ok c) a (objects ss ts cs) (objects ss ts (slice_set cs n d'))
on_chart c x a ss ts cs n d d' is i j k g e q f =
    let v : Event = record { call = c; answer = x } in
    let o = objects ss ts cs in
    let o' = objects ss ts (slice_set cs n d') in
    record {
      same = ap (λ as'. record { sheets = length ss; rooms = map rooms_of ts; areas = as' }) (map_after_set areas cs n d d' g e);
      on_loan = ap (λ k. record { tables = map table_loans ts; charts = k }) (map_after_set chart_loans cs n d d' g q);
      others = record { sheets = λ m ne. refl; tables = λ m ne. refl; charts = others_after cs n d' (chart_of c) k };
      right = λ h led. subst (λ z. RightGiven h c z) (sym is) (f h led.sheets (led.charts n d g)).0;
      led = λ h led. subst (λ z. ObjectsLed (with_given c z h) o') (sym is) (record {
        sheets = sheets_stay h v ss (λ m p. none m (sym i ∙ p)) led.sheets;
        tables = tables_stay h v ts (λ m p. none m (sym j ∙ p)) led.tables;
        charts = charts_set h v cs n d' k (f h led.sheets (led.charts n d g)).1 led.charts;
      });
    }

pub filled : (ss : List Sheet) (cs : List Chart) (n m k : ℕ) (b : Sheet) (e d' : Chart) (r : Result (ℕ × ℕ) FillingFault)
    → m < length ss → n < length cs → b ≡ slice_index_or ss m b
    → ((h : History) (c s : ℕ) → SheetLed h s b → ChartLed h c (slice_index_or cs n e) → Answered h c (filling c s k (areas (slice_index_or cs n e))) r d')
    → areas d' ≡ areas (slice_index_or cs n e) → OnLoan (slice_index_or cs n e).labels (slice_index_or cs n e).standings (slice_index_or cs n e).next d' → (ts : List Table)
    → StepLed (filling_at (lent (objects ss ts cs)) n m k) (Filled r) (objects ss ts cs) (objects ss ts (slice_set cs n d'))
filled ss cs n m k b e d' r l q is f same loan ts =
    let o = objects ss ts cs in
    let d = slice_index_or cs n e in
    let g : slice_get cs n ≡ Some d = get_at cs n e q in
    let made : filling_at (lent o) n m k ≡ Ok (filling n m k (areas d)) =
    below_made m (length ss) _ l ∙ there_made (slice_get (map areas cs) n) (areas d) (λ a. filling n m k a) (get_mapped areas cs n d g) in
    subst (λ (c : MeantCall). StepLed c (Filled r) o (objects ss ts (slice_set cs n d'))) (sym made)
    (on_chart (filling n m k (areas d)) r (Filled r) ss ts cs n d d' refl refl refl refl g same (filled_on_loan d d' loan)
    (λ h sheets chart. f h n m (sheets m b (get_at ss m b l ∙ ap Some (sym is))) chart))

-- the call is made on a chart that is there
chart_made : (ss : List Sheet) (ts : List Table) (cs : List Chart) (n : ℕ) (c : Call) → n < length cs → if_below n (length (lent (objects ss ts cs)).areas) (Ok c) ≡ Ok c
chart_made ss ts cs n c l = below_made n (length (map areas cs)) (Ok c) (subst (λ k. n < k) (sym (length-map cs areas)) l)

same_areas : (d d' : Chart) → SameAreas d d' → areas d' ≡ areas d
same_areas d d' s = simp (s.0, s.1, s.2) refl

pub begun : (cs : List Chart) (n : ℕ) (e d' : Chart) (r : Result (Unit {0}) BeginningFault) → n < length cs
    → ((h : History) (c : ℕ) → ChartLed h c (slice_index_or cs n e) → Answered h c (beginning c) r d') → SameAreas (slice_index_or cs n e) d'
    → (ss : List Sheet) (ts : List Table) → StepLed (beginning_at (lent (objects ss ts cs)) n) (Begun r) (objects ss ts cs) (objects ss ts (slice_set cs n d'))
begun cs n e d' r l f same ss ts =
    let d = slice_index_or cs n e in
    subst (λ (c : MeantCall). StepLed c (Begun r) (objects ss ts cs) (objects ss ts (slice_set cs n d'))) (sym (chart_made ss ts cs n (beginning n) l))
    (on_chart (beginning n) r (Begun r) ss ts cs n d d' refl refl refl refl (get_at cs n e l) (same_areas d d' same) (same_on_loan d d' same) (λ h sheets chart. f h n chart))

pub scanned : (cs : List Chart) (n a : ℕ) (e d' : Chart) (r : Result Scan ScanningFault) → n < length cs
    → ((h : History) (c : ℕ) → ChartLed h c (slice_index_or cs n e) → Answered h c (scanning c a) r d') → SameAreas (slice_index_or cs n e) d'
    → (ss : List Sheet) (ts : List Table) → StepLed (scanning_at (lent (objects ss ts cs)) n a) (Scanned r) (objects ss ts cs) (objects ss ts (slice_set cs n d'))
scanned cs n a e d' r l f same ss ts =
    let d = slice_index_or cs n e in
    subst (λ (c : MeantCall). StepLed c (Scanned r) (objects ss ts cs) (objects ss ts (slice_set cs n d'))) (sym (chart_made ss ts cs n (scanning n a) l))
    (on_chart (scanning n a) r (Scanned r) ss ts cs n d d' refl refl refl refl (get_at cs n e l) (same_areas d d' same) (same_on_loan d d' same) (λ h sheets chart. f h n chart))

-- ---- looking for a breach

-- a call that is made on no object to change it leaves all as they are
looked_on : (c : Call) (g : Option (Given c)) (h : History) (o : Objects) → sheet_of c ≡ None → table_of c ≡ None → chart_of c ≡ None
    → RightGiven h c g → ObjectsLed h o → ObjectsLed (with_given c g h) o
looked_on c None h o i j k right led = absurd right
looked_on c (Some x) h o i j k right led =
    let v : Event = record { call = c; answer = x } in
    record {
      sheets = sheets_stay h v o.sheets (λ m p. none m (sym i ∙ p)) led.sheets;
      tables = tables_stay h v o.tables (λ m p. none m (sym j ∙ p)) led.tables;
      charts = charts_stay h v o.charts (λ m q. none m (sym k ∙ q)) led.charts;
    }

looked_step : (n pairs walk : ℕ) (k : Result Machine Answer) (a : Answer) (c : Chart) (o : Objects) → slice_get o.charts n ≡ Some c → LooksOn c o.tables k pairs walk a
    → StepLed (searching_with n pairs walk k) a o o
looked_step n pairs walk (Ok m) a c o g looks = record {
  same = refl;
  on_loan = refl;
  others = record { sheets = λ m ne. refl; tables = λ m ne. refl; charts = λ m ne. refl };
  right = λ h led. looks h n (led.charts n c g) led.tables;
  led = λ h led. looked_on (searching n m pairs (replicate walk 0)) (given (searching n m pairs (replicate walk 0)) a) h o refl refl refl (looks h n (led.charts n c g) led.tables) led;
}
looked_step n pairs walk (Err why) a c o g looks = record {
  same = refl;
  on_loan = refl;
  others = record { sheets = λ m ne. refl; tables = λ m ne. refl; charts = λ m ne. refl };
  right = λ h led. looks h n (led.charts n c g) led.tables;
  led = λ h led. led;
}

-- k is the machine where there are so many tables
pub looked : (ts : List Table) (cs : List Chart) (n pairs walk : ℕ) (k : ℕ → Result Machine Answer) (a : Answer) (c : Chart) → n < length cs → c ≡ slice_index_or cs n c
    → LooksOn c ts (k (length ts)) pairs walk a → (ss : List Sheet)
    → StepLed (if_below n (length (lent (objects ss ts cs)).areas) (searching_with n pairs walk (k (length (lent (objects ss ts cs)).rooms)))) a (objects ss ts cs) (objects ss ts cs)
looked ts cs n pairs walk k a c l is looks ss =
    let o = objects ss ts cs in
    let tables : length (map rooms_of ts) ≡ length ts = length-map ts rooms_of in
    let charts : length (map areas cs) ≡ length cs = length-map cs areas in
    let step = looked_step n pairs walk (k (length ts)) a c o (get_at cs n c l ∙ ap Some (sym is)) looks in
    subst (λ (x : MeantCall). StepLed x a o o)
    (sym (below_made n (length (map areas cs)) (searching_with n pairs walk (k (length (map rooms_of ts)))) (subst (λ m. n < m) (sym charts) l)))
    (subst (λ m. StepLed (searching_with n pairs walk (k m)) a o o) (sym tables) step)

-- where there is a result
pub if_ok_then : {X E : Type 0} {P Q : X → Type 0} (r : Result X E) → ((x : X) → P x → Q x) → IfOk r P → IfOk r Q
if_ok_then (Ok x) f p = f x p
if_ok_then (Err e) f p = tt
