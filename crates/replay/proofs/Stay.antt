-- Objects that a call is not made on are after it as the history says. Assumes nothing.
use Rattle.std.proofs.Common.{◌≡◌, ℕ, List, ◌∷◌, Some, Ok, Err, Option, sym, refl, ap, subst}
use Rattle.std.proofs.lemmas.Bool.{cond-false, ne_eqb}
use Rattle.meaning.specs.declared.refusals.FillingFault.TheVariants.{NoRule, LabelsExceed, StandingsExceed}
use Rattle.meaning.specs.Bytes.{Text}
use Rattle.meaning.specs.Kinds.{Lines}
use Rattle.meaning.specs.Whole.{ChartIs}
use Rattle.meaning.specs.Calls.{Call, opening, entering, loading, filling, beginning, scanning, searching, Answer, Event, History}
use Rattle.meaning.specs.Histories.{at, names, rules, table_lines, Ruled, rule_at, filled_rule, watch, names_after, rules_after, lines_after, filled_after, watch_after}
use Rattle.meaning.specs.Claims.{sheet_of, table_of, chart_of}
use Rattle.rules.specs.declared.sheet.Sheet.{Sheet}
use Rattle.rules.specs.Led.{SheetIs, SheetLed}
use Rattle.machines.specs.declared.table.Table.{Table}
use Rattle.machines.specs.Held.{held_lines}
use Rattle.charts.specs.declared.chart.Chart.{Chart}
use Rattle.charts.specs.Led.{held_of, mode_of, ChartLed}
use Rattle.loading.specs.Led.{TableLed}

at_other : {X : Type 0} (n x : ℕ) (new old : X) → (Some x ≡ Some n → ⊥) → at n x new old ≡ old
at_other n x new old ne = cond-false _ new old (ne_eqb n x (λ (e : n ≡ x). ne (ap Some (sym e))))

names_stay : (c : Call) (a : Answer c) (n : ℕ) (old : List Text) → (sheet_of c ≡ Some n → ⊥) → names_after c a n old ≡ old
names_stay (opening s t) (Ok u) n old ne = at_other n s _ old ne
names_stay (opening s t) (Err e) n old ne = refl
names_stay (entering s t) a n old ne = refl
names_stay (loading s y r file) (Ok u) n old ne = at_other n s _ old ne
names_stay (loading s y r file) (Err e) n old ne = at_other n s _ old ne
names_stay (filling c s k r) a n old ne = refl
names_stay (beginning c) a n old ne = refl
names_stay (scanning c l) a n old ne = refl
names_stay (searching c m p w) a n old ne = refl

rules_stay : (c : Call) (a : Answer c) (n : ℕ) (old : List Text) → (sheet_of c ≡ Some n → ⊥) → rules_after c a n old ≡ old
rules_stay (opening s t) (Ok u) n old ne = at_other n s _ old ne
rules_stay (opening s t) (Err e) n old ne = refl
rules_stay (entering s t) (Ok k) n old ne = at_other n s _ old ne
rules_stay (entering s t) (Err e) n old ne = refl
rules_stay (loading s y r file) (Ok u) n old ne = at_other n s _ old ne
rules_stay (loading s y r file) (Err e) n old ne = at_other n s _ old ne
rules_stay (filling c s k r) a n old ne = refl
rules_stay (beginning c) a n old ne = refl
rules_stay (scanning c l) a n old ne = refl
rules_stay (searching c m p w) a n old ne = refl

lines_stay : (c : Call) (a : Answer c) (n : ℕ) (old : Lines) → (table_of c ≡ Some n → ⊥) → lines_after c a n old ≡ old
lines_stay (opening s t) a n old ne = refl
lines_stay (entering s t) a n old ne = refl
lines_stay (loading s y r file) (Ok u) n old ne = at_other n y _ old ne
lines_stay (loading s y r file) (Err e) n old ne = at_other n y _ old ne
lines_stay (filling c s k r) a n old ne = refl
lines_stay (beginning c) a n old ne = refl
lines_stay (scanning c l) a n old ne = refl
lines_stay (searching c m p w) a n old ne = refl

filled_stays : (c : Call) (a : Answer c) (now : ℕ → ℕ → Option Ruled) (n : ℕ) (old : Option Ruled) → (chart_of c ≡ Some n → ⊥) → filled_after c a now n old ≡ old
filled_stays (opening s t) a now n old ne = refl
filled_stays (entering s t) a now n old ne = refl
filled_stays (loading s y r file) a now n old ne = refl
filled_stays (filling c s k r) (Ok x) now n old ne = at_other n c _ old ne
filled_stays (filling c s k r) (Err NoRule) now n old ne = refl
filled_stays (filling c s k r) (Err LabelsExceed) now n old ne = at_other n c _ old ne
filled_stays (filling c s k r) (Err StandingsExceed) now n old ne = at_other n c _ old ne
filled_stays (beginning c) a now n old ne = refl
filled_stays (scanning c l) a now n old ne = refl
filled_stays (searching c m p w) a now n old ne = refl

watch_stays : (c : Call) (a : Answer c) (n : ℕ) (old : Option (List ℕ)) → (chart_of c ≡ Some n → ⊥) → watch_after c a n old ≡ old
watch_stays (opening s t) a n old ne = refl
watch_stays (entering s t) a n old ne = refl
watch_stays (loading s y r file) a n old ne = refl
watch_stays (filling c s k r) (Ok x) n old ne = at_other n c _ old ne
watch_stays (filling c s k r) (Err NoRule) n old ne = refl
watch_stays (filling c s k r) (Err LabelsExceed) n old ne = at_other n c _ old ne
watch_stays (filling c s k r) (Err StandingsExceed) n old ne = at_other n c _ old ne
watch_stays (beginning c) (Ok u) n old ne = at_other n c _ old ne
watch_stays (beginning c) (Err e) n old ne = refl
watch_stays (scanning c l) (Ok x) n old ne = at_other n c _ old ne
watch_stays (scanning c l) (Err e) n old ne = refl
watch_stays (searching c m p w) a n old ne = refl

-- ---- what is led stays led

pub sheet_stays : (h : History) (e : Event) (n : ℕ) (s : Sheet) → (sheet_of e.call ≡ Some n → ⊥) → SheetLed h n s → SheetLed (e ∷ h) n s
sheet_stays h e n s ne led =
    let i = names_stay e.call e.answer n (names h n) ne in
    let j = rules_stay e.call e.answer n (rules h n) ne in
    subst (λ ns. SheetIs ns (rules (e ∷ h) n) s) (sym i) (subst (λ ts. SheetIs (names h n) ts s) (sym j) led)

pub table_stays : (h : History) (e : Event) (n : ℕ) (t : Table) → (table_of e.call ≡ Some n → ⊥) → TableLed h n t → TableLed (e ∷ h) n t
table_stays h e n t ne led = subst (λ ls. held_lines t ≡ ls) (sym (lines_stay e.call e.answer n (table_lines h n) ne)) led

pub chart_stays : (h : History) (e : Event) (n : ℕ) (d : Chart) → (chart_of e.call ≡ Some n → ⊥) → ChartLed h n d → ChartLed (e ∷ h) n d
chart_stays h e n d ne led =
    let i = filled_stays e.call e.answer (rule_at h) n (filled_rule h n) ne in
    let j = watch_stays e.call e.answer n (watch h n) ne in
    subst (λ f. ChartIs f (watch (e ∷ h) n) (held_of d) (mode_of d.state)) (sym i) (subst (λ w. ChartIs (filled_rule h n) w (held_of d) (mode_of d.state)) (sym j) led)
