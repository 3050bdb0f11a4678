-- The lines of a report, from what the calls behind them promise.
use Rattle.std.proofs.Common.{◌≡◌, ℕ, zero, suc, ◌+◌, List, [], ◌∷◌, ◌++◌, length, IfOk, None, Ok, Err, Result, inl, inr, refl, sym, ap, subst, ◌∙◌, append_assoc, append-nil, codes, arith}
use mathlib.Core.Logic.{∥∥₁_map}
use Rattle.meaning.specs.declared.refusals.FillingFault.{FillingFault}
use Rattle.meaning.specs.declared.refusals.FileFault.{FileFault}
use Rattle.meaning.specs.declared.refusals.SearchingFault.{SearchingFault}
use Rattle.meaning.specs.declared.answers.Verdict.{Verdict}
use Rattle.std.specs.Borrow.{Bor}
use Rattle.std.proofs.Common.{OnOk, ◌≤◌, take}
use Rattle.std.proofs.lemmas.List.{length-take-le}
use Rattle.meaning.specs.declared.answers.Verdict.TheVariants.{Shown, Clear}
use Rattle.report.specs.declared.text.Said.{Said}
use Rattle.report.specs.declared.text.Said.TheVariants.{Broken, Clear as ClearSaid, Refused}
use Rattle.report.specs.Said.{said_text}
use Rattle.meaning.specs.Refusals.{number_of_filling, number_of_searching}
use Rattle.meaning.specs.Bytes.{Text}
use Rattle.meaning.specs.Charts.{Areas}
use Rattle.meaning.specs.Kinds.{table_meaning}
use Rattle.meaning.specs.Calls.{Machine, table, filling, searching, History}
use Rattle.meaning.specs.Histories.{filled_rule, watch, meaning_of}
use Rattle.meaning.specs.Right.{Right}
use Rattle.meaning.specs.Files.{Rooms, RightLoading, content}
use Rattle.meaning.specs.Printed.{table_rooms, fault_line, loaded, chart_areas, field, rule_line, verdict, filled, PrintsRule, PrintsRules}
use Rattle.machines.specs.declared.table.Table.{Table}
use Rattle.machines.specs.Held.{held_lines}
use Rattle.rules.specs.declared.sheet.Sheet.{Sheet}
use Rattle.rules.specs.Led.{SheetIs, SheetLed}
use Rattle.charts.specs.declared.chart.Chart.{Chart}
use Rattle.charts.specs.Led.{ChartLed, Answered}
use Rattle.loading.specs.Led.{LedByLoading}
use Rattle.report.specs.Reported.{VerdictLed, Fresh, RuleLed, RulesLed, PrintsShort}

-- ---- what is said of a rule is what the answer is written as

pub said_of_shown : (said : Said) (r : Result Verdict SearchingFault) (v : Verdict) (w : List ℕ) (b : Bor (List ℕ)) (n : ℕ)
    → said ≡ Broken b → r ≡ Ok v → v ≡ Shown n → b.now ≡ take n w → n ≤ length w → said_text said ≡ verdict (r, w)
said_of_shown said r v w b n i j k s h = simp (i, j, k, s, length-take-le n w h) refl

pub said_of_clear : (said : Said) (r : Result Verdict SearchingFault) (v : Verdict) (w : List ℕ) (n : ℕ)
    → said ≡ ClearSaid n → r ≡ Ok v → v ≡ Clear n → said_text said ≡ verdict (r, w)
said_of_clear said r v w n i j k = simp (i, j, k) refl

pub said_of_fault : (said : Said) (r : Result Verdict SearchingFault) (e : SearchingFault) (w : List ℕ) (n : ℕ)
    → said ≡ Refused n → n ≡ number_of_searching e → r ≡ Err e → said_text said ≡ verdict (r, w)
said_of_fault said r e w n i j k = simp (i, j, k) refl

-- what looking for a breach says in its history form
abbrev pub Looks : Chart → Table → ℕ → List ℕ → Result Verdict SearchingFault × List ℕ → Type 0
Looks c t pairs w x = (h : History) (k : ℕ) (m : Machine) → ChartLed h k c → meaning_of h m ≡ table_meaning (held_lines t) → Right h (searching k m pairs w) x

pub verdict_told : (c : Chart) (t : Table) (k : ℕ) (pairs : ℕ) (w : List ℕ) (x : Result Verdict SearchingFault × List ℕ) (out : Text)
    → pairs ≡ 1024 → length w ≡ 1025 → Looks c t pairs w x → out ≡ rule_line k (verdict x) → VerdictLed c t k out
verdict_told c t k pairs w x out p l looks e h chart held =
    (w, x, l, subst (λ n. Right h (searching k (table 0) n w) x) p (looks h k (table 0) chart (ap table_meaning (sym held))), e)

-- what filling says in its history form
abbrev pub FillsLed : Sheet → Chart → ℕ → Areas → Result (ℕ × ℕ) FillingFault → Chart → Type 0
FillsLed s c k a x d = (h : History) (n m : ℕ) → SheetLed h m s → ChartLed h n c → Answered h n (filling n m k a) x d

-- a chart as a list of calls has it that never filled it
abbrev pub NewLed : Chart → Type 0
NewLed c = (h : History) (n : ℕ) → filled_rule h n ≡ None → watch h n ≡ None → ChartLed h n c

pub refused_told : (s : Sheet) (t : Table) (c d : Chart) (k : ℕ) (a : Areas) (x : Result (ℕ × ℕ) FillingFault) (e : FillingFault) (out : Text)
    → a ≡ chart_areas → NewLed c → FillsLed s c k a x d → x ≡ Err e → out ≡ rule_line k (codes ",refused" ++ field (number_of_filling e)) → RuleLed s t k out
refused_told s t c d k a x e out i new fills j o h fresh =
    let f = fills h k 0 fresh.sheet (new h k (fresh.unfilled k) (fresh.unwatched k)) in
    let right : Right h (filling k 0 k chart_areas) (Err e) = subst (λ z. Right h (filling k 0 k z) (Err e)) i (subst (λ y. Right h (filling k 0 k a) y) j f.0) in
    ∣ inl (e, right, o) ∣₁

pub rule_told : (s : Sheet) (t : Table) (c d : Chart) (k : ℕ) (a : Areas) (x : Result (ℕ × ℕ) FillingFault) (n : ℕ × ℕ) (out : Text)
    → a ≡ chart_areas → NewLed c → FillsLed s c k a x d → x ≡ Ok n → VerdictLed d t k out → RuleLed s t k out
rule_told s t c d k a x n out i new fills j told h fresh =
    let g = subst (λ y. FillsLed s c k a y d) j fills in
    let f = subst (λ z. FillsLed s c k z (Ok n) d) i g h k 0 fresh.sheet (new h k (fresh.unfilled k) (fresh.unwatched k)) in
    let v = told (filled k n ∷ h) f.1 fresh.table in
    ∣ inr (n, v.0, v.1, f.0, v.2, v.3, v.4) ∣₁

-- areas of these lengths
abbrev pub areas_with : ℕ → ℕ → ℕ → Areas
areas_with a b c = record { labels = a; records = b; nexts = c }

pub areas_are : (a b c : ℕ) → a ≡ 512 → b ≡ 32 → c ≡ 8192 → areas_with a b c ≡ chart_areas
areas_are a b c i j k = simp (i, j, k) refl

-- one rule more
rules_more : (h : History) (n k : ℕ) (out line : Text) → PrintsRules h n k out → PrintsRule h (k + n) line → PrintsRules h (suc n) k (out ++ line)
rules_more h zero k out line e p = ∣ (line, [], subst (λ i. PrintsRule h i line) (omega arith) p, refl, ap (λ (o : Text). o ++ line) e ∙ sym (append-nil line)) ∣₁
rules_more h (suc n) k out line q p =
    let next : k + suc n ≡ k + 1 + n = omega arith in
    ∥∥₁_map q (λ x. (x.0, x.1 ++ line, x.2, rules_more h n (k + 1) x.1 line x.3 (subst (λ i. PrintsRule h i line) next p), ap (λ (o : Text). o ++ line) x.4 ∙ append_assoc x.0 x.1 line))

pub rules_told : (s : Sheet) (t : Table) (n : ℕ) (out line : Text) → RulesLed s t n out → RuleLed s t n line → RulesLed s t (n + 1) (out ++ line)
rules_told s t n out line before here h fresh =
    let at : n ≡ 0 + n = omega arith in
    let more : suc n ≡ n + 1 = omega arith in
    subst (λ i. PrintsRules h i 0 (out ++ line)) more (rules_more h n 0 out line (before h fresh) (subst (λ i. PrintsRule h i line) at (here h fresh)))

-- what is known where there is no error
pub on_ok_then : {X E : Type 0} {P Q : Type 0} (r : Result X E) → (P → Q) → OnOk r P → OnOk r Q
on_ok_then (Ok x) f p = f p
on_ok_then (Err e) f p = tt

pub if_ok_on : {X E : Type 0} {P Q : Type 0} (r : Result X E) → (P → Q) → IfOk r (λ _. P) → OnOk r Q
if_ok_on (Ok x) f p = f p
if_ok_on (Err e) f p = tt

-- what is known of a value where there is one
pub if_ok_then : {X E : Type 0} {P Q : X → Type 0} (r : Result X E) → ((x : X) → P x → Q x) → IfOk r P → IfOk r Q
if_ok_then (Ok x) f p = f x p
if_ok_then (Err e) f p = tt

-- ---- a file that is not too long

pub refused_file_told : (file : Text) (rooms : Rooms) (x : Result (Unit {0}) FileFault) (e : FileFault) (out : Text)
    → rooms ≡ table_rooms → RightLoading rooms file x → x ≡ Err e → out ≡ fault_line e → PrintsShort file out
refused_file_told file rooms x e out i right j o =
    ∣ (Err e, subst (λ r. RightLoading r file (Err e)) i (subst (λ y. RightLoading rooms file y) j right), o) ∣₁

pub loaded_file_told : (file : Text) (rooms : Rooms) (x : Result (Unit {0}) FileFault) (u : Unit {0}) (s : Sheet) (t : Table) (m n : ℕ) (out : Text)
    → rooms ≡ table_rooms → RightLoading rooms file x → x ≡ Ok u → LedByLoading rooms file x s t
    → ((ns ts : List Text) → SheetIs ns ts s → m ≡ length ts) → n ≡ m → RulesLed s t n out → PrintsShort file out
loaded_file_told file rooms x u s t m n out i right j led count k told =
    let r = subst (λ r. RightLoading r file (Ok u)) i (subst (λ y. RightLoading rooms file y) j right) in
    let l = subst (λ r. LedByLoading r file (Ok u) s t) i (subst (λ y. LedByLoading rooms file y s t) j led) [] 0 0 in
    let fresh : Fresh (loaded file) s t = record { sheet = l.1; table = l.2; unfilled = λ c. refl; unwatched = λ c. refl } in
    let all : n ≡ length (content file).rules = k ∙ count (content file).names (content file).rules l.1 in
    ∣ (Ok u, r, subst (λ i. PrintsRules (loaded file) i 0 out) all (told (loaded file) fresh)) ∣₁

abbrev pub rooms_with : ℕ → ℕ → Rooms
rooms_with a b = record { states = a; steps = b }

pub rooms_are : (a b : ℕ) → a ≡ 256 → b ≡ 1024 → rooms_with a b ≡ table_rooms
rooms_are a b i j = simp (i, j) refl
