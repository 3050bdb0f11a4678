use Rattle.std.proofs.Common.{◌≡◌, ◌∙◌, ℕ, nat_lt, List, length, slice_get, Some, Ok, Err, Result, IfOk, refl, sym, ap, subst}
use Rattle.std.proofs.lemmas.Bool.{cond-true, cond-false, lt-ltb, le-ltb}
use Rattle.std.specs.declared.alloc.AllocError.{AllocError}
use Rattle.meaning.specs.Machines.{Meaning}
use Rattle.meaning.specs.Kinds.{table_meaning, round_meaning}
use Rattle.meaning.specs.Calls.{Machine, History, table, round, other}
use Rattle.meaning.specs.Histories.{meaning_of}
use Rattle.machines.specs.declared.table.Table.{Table}
use Rattle.machines.specs.Held.{held_lines}
use Rattle.charts.specs.declared.chart.Chart.{Chart}
use Rattle.loading.specs.Led.{TableLed}
use Rattle.replay.specs.declared.answer.Answer.{Answer}
use Rattle.replay.specs.declared.answer.Answer.TheVariants.{NoSuchObject}
use Rattle.replay.specs.Meant.{under, ground, searching_with}
use Rattle.replay.specs.Replayed.{RightAnswer}
use Rattle.replay.specs.Looks.{LooksUnder, LooksOn}
use Rattle.replay.proofs.Lists.{get_at}
use Rattle.replay.proofs.OneCall.{if_ok_then}
use Rattle.replay.proofs.look.Look.on.Goals as goal

-- the ground is k, which means m
on_ground : (c : Chart) (ts : List Table) (k : Machine) (o : Result Machine Answer) (m : Meaning) (ss stuck : List ℕ) (pairs walk : ℕ) (r : Result Answer AllocError)
    → o ≡ Ok k → ss ≡ stuck → ((h : History) → ((i : ℕ) (t : Table) → slice_get ts i ≡ Some t → TableLed h i t) → meaning_of h k ≡ m)
    → IfOk r (LooksUnder c m ss pairs walk) → IfOk r (LooksOn c ts (under stuck o) pairs walk)
on_ground c ts k o m ss stuck pairs walk r is same means ok =
    if_ok_then r (λ a looks. λ h n led tables. subst (λ (x : Result Machine Answer). RightAnswer h (searching_with n pairs walk (under stuck x)) a) (sym is)
    (subst (λ (x : List ℕ). RightAnswer h (searching_with n pairs walk (under x (Ok k))) a) same (looks h n k led (means h tables)))) ok

pub returns-in-Round : goal.returns-in-Round
returns-in-Round g c =
    let s = c.args.self.now in
    let p = c.args.pile.now in
    let n = length c.args.tables.now in
    on_ground s.chart.now c.args.tables.now (round c.in-Round.letters.items) (ground g.M.Machine.meaning g.M.Machine.lawful n p.ground) (round_meaning c.new.result.letters.now)
    c.as_slice-stuck.result.now p.stuck.items s.pairs s.walk c.under-in-Round.result
    (ap (ground g.M.Machine.meaning g.M.Machine.lawful n) c.in-Round.is) c.as_slice-stuck.ensures.value (λ h led. ap round_meaning (sym (c.new.ensures ∙ c.as_slice.ensures.value))) c.under-in-Round.ensures

pub returns-in-Other : goal.returns-in-Other
returns-in-Other g c =
    let s = c.args.self.now in
    let p = c.args.pile.now in
    let n = length c.args.tables.now in
    let x = c.in-Other.other in
    on_ground s.chart.now c.args.tables.now (other (g.M.Machine.meaning x) (g.M.Machine.lawful x)) (ground g.M.Machine.meaning g.M.Machine.lawful n p.ground) (g.M.Machine.meaning x)
    c.as_slice-stuck.result.now p.stuck.items s.pairs s.walk c.under-in-Other.result
    (ap (ground g.M.Machine.meaning g.M.Machine.lawful n) c.in-Other.is) c.as_slice-stuck.ensures.value (λ h led. refl) c.under-in-Other.ensures

pub returns-then-table-tables : goal.returns-then-table-tables
returns-then-table-tables g c =
    let s = c.args.self.now in
    let t = c.in-Table.table in
    let n = length c.args.tables.now in
    λ h k led tables. subst (λ (x : Result Machine Answer). RightAnswer h (searching_with k s.pairs s.walk (under c.args.pile.now.stuck.items x)) NoSuchObject)
    (sym (ap (ground g.M.Machine.meaning g.M.Machine.lawful n) c.in-Table.is ∙ cond-false (nat_lt t n) (Ok (table t)) (Err NoSuchObject) (le-ltb t n c.if-table-tables.true))) refl

pub returns-else-table-tables : goal.returns-else-table-tables
returns-else-table-tables g c =
    let s = c.args.self.now in
    let p = c.args.pile.now in
    let t = c.in-Table.table in
    let ts = c.args.tables.now in
    let x = c.index-tables-table.result in
    let l = c.if-table-tables.false in
    on_ground s.chart.now ts (table t) (ground g.M.Machine.meaning g.M.Machine.lawful (length ts) p.ground) (table_meaning (held_lines x))
    c.as_slice-stuck.result.now p.stuck.items s.pairs s.walk c.under.result
    (ap (ground g.M.Machine.meaning g.M.Machine.lawful (length ts)) c.in-Table.is ∙ cond-true (nat_lt t (length ts)) (Ok (table t)) (Err NoSuchObject) (lt-ltb t (length ts) l))
    c.as_slice-stuck.ensures.value (λ h led. ap table_meaning (sym (led t x (get_at ts t x l ∙ ap Some (sym c.index-tables-table.is))))) c.under.ensures
