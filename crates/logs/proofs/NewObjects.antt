-- New objects are as the empty history says, and have the rooms that are promised. Assumes nothing.
use Rattle.std.proofs.Common.{◌≡◌, ℕ, zero, suc, List, [], ◌∷◌, ◌++◌, Some, None, Ok, Err, Result, IfOk, MatchResult, slice_get, refl, ap, subst, ◌∙◌}
use Rattle.meaning.specs.Kinds.{no_lines}
use Rattle.meaning.specs.Printed.{table_rooms, chart_areas}
use Rattle.meaning.specs.Machines.{Meaning, Lawful}
use Rattle.meaning.specs.Calls.{History}
use Rattle.meaning.specs.Histories.{filled_rule, watch}
use Rattle.rules.specs.declared.sheet.Sheet.{Sheet}
use Rattle.rules.specs.Led.{SheetLed}
use Rattle.machines.specs.declared.table.Table.{Table}
use Rattle.machines.specs.Held.{held_lines, rooms_of}
use Rattle.charts.specs.declared.chart.Chart.{Chart}
use Rattle.charts.specs.Fills.{areas}
use Rattle.charts.specs.Led.{ChartLed}
use Rattle.replay.specs.declared.call.Call.{Call}
use Rattle.replay.specs.declared.answer.Answer.{Answer}
use Rattle.replay.specs.Objects.{Objects, objects, ObjectsLed}
use Rattle.replay.specs.Replayed.{RightAnswers, Replayed}
use Rattle.logs.specs.Fresh.{AllBlank, AllNew, with_two_sheets, with_tables, new_objects}

-- what holds of both elements of a list of two holds of each
each_of_two : {X : Type 0} (P : ℕ → X → Type 0) (a b : X) (xs : List X) → xs ≡ a ∷ (b ∷ []) → P 0 a → P 1 b → (n : ℕ) (x : X) → slice_get xs n ≡ Some x → P n x
each_of_two P a b xs e p q n x g = at_each n (subst (λ ys. slice_get ys n ≡ Some x) e g)
  where
    at_each : (n : ℕ) → slice_get (a ∷ (b ∷ [])) n ≡ Some x → P n x
    at_each zero g = let i : a ≡ x = cc in subst (λ y. P 0 y) i p
    at_each (suc zero) g = let i : b ≡ x = cc in subst (λ y. P 1 y) i q
    at_each (suc (suc n)) g = absurd (cc)

-- a list that two were pushed on
pub two_pushed : {X : Type 0} (xs ys zs : List X) (a b : X) → xs ≡ [] → ys ≡ xs ++ (a ∷ []) → zs ≡ ys ++ (b ∷ []) → zs ≡ a ∷ (b ∷ [])
two_pushed xs ys zs a b i j k = k ∙ ap (λ l. l ++ (b ∷ [])) (j ∙ ap (λ l. l ++ (a ∷ [])) i)

pub if_ok_then : {X E : Type 0} {P Q : X → Type 0} (r : Result X E) → ((x : X) → P x → Q x) → IfOk r P → IfOk r Q
if_ok_then (Ok x) f p = f x p
if_ok_then (Err e) f p = tt

pub if_matched : {X E : Type 0} {P R : X → Type 0} (Q : E → Type 0) (r : Result X E) → ((x : X) → P x → R x) → MatchResult r P Q → IfOk r R
if_matched Q (Ok x) f p = f x p
if_matched Q (Err e) f p = tt

-- ---- the tables

pub blank_tables : (ts : List Table) (a b : Table) → ts ≡ a ∷ (b ∷ []) → held_lines a ≡ no_lines → held_lines b ≡ no_lines → AllBlank ts
blank_tables ts a b e p q = each_of_two (λ n t. held_lines t ≡ no_lines) a b ts e p q

pub table_rooms_are : (ts : List Table) (a b : Table) → ts ≡ a ∷ (b ∷ []) → rooms_of a ≡ table_rooms → rooms_of b ≡ table_rooms → with_tables ts ≡ new_objects
table_rooms_are ts a b e p q = simp (e, p, q) refl

-- ---- the charts

-- a chart as a list of calls has it that never filled it
abbrev pub NewLed : Chart → Type 0
NewLed c = (h : History) (n : ℕ) → filled_rule h n ≡ None → watch h n ≡ None → ChartLed h n c

pub new_charts : (cs : List Chart) (c d : Chart) → cs ≡ c ∷ (d ∷ []) → NewLed c → NewLed d → AllNew cs
new_charts cs c d e p q = each_of_two (λ n x. ChartLed [] n x) c d cs e (p [] 0 refl refl) (q [] 1 refl refl)

pub chart_areas_are : (ts : List Table) (cs : List Chart) (c d : Chart) → cs ≡ c ∷ (d ∷ []) → areas c ≡ chart_areas → areas d ≡ chart_areas → with_two_sheets ts cs ≡ with_tables ts
chart_areas_are ts cs c d e p q = simp (e, p, q) refl

-- ---- all objects

pub two_sheets : {M : Type 0} (mean : M → Meaning) (laws : (m : M) → Lawful (mean m)) (calls : List (Call M)) (v : List Answer)
    (s t : Sheet) (ts : List Table) (cs : List Chart) (o : Objects)
    → SheetLed [] 0 s → SheetLed [] 1 t → AllBlank ts → AllNew cs
    → Replayed mean laws calls v (objects (s ∷ (t ∷ [])) ts cs) o → RightAnswers mean laws (with_two_sheets ts cs) [] calls v
two_sheets mean laws calls v s t ts cs o p q blank new r =
    let led : ObjectsLed [] (objects (s ∷ (t ∷ [])) ts cs) = record {
      sheets = each_of_two (λ n x. SheetLed [] n x) s t (s ∷ (t ∷ [])) refl p q;
      tables = blank;
      charts = new;
    } in
    r.right [] led
