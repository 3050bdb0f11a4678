-- One line, taken by the sheet or by the table.
use Rattle.std.proofs.Common.{◌≡◌, ◌≤◌, true, false, [], length, take, Some, None, Ok, Err, Result, sym, refl, ap, arith, length-take}
use lib.ListN.{length-map}
use Rattle.meaning.specs.declared.refusals.LineFault.{LineFault}
use Rattle.meaning.specs.declared.refusals.LineFault.TheVariants.{Names, Table}
use Rattle.meaning.specs.declared.refusals.NamesFault.{NamesFault}
use Rattle.meaning.specs.declared.refusals.NamesFault.TheVariants.{Unfit}
use Rattle.meaning.specs.declared.refusals.TableFault.TheVariants.{Form}
use Rattle.meaning.specs.Bytes.{Text}
use Rattle.meaning.specs.Names.{fit, names_of}
use Rattle.meaning.specs.Kinds.{Lines, no_lines}
use Rattle.meaning.specs.Files.{Rooms, Content, Entry, nothing, signals, placed, added, added_if, lines_in, SaidOfLine}
use Rattle.machines.specs.declared.table.Table.{Table as CodeTable}
use Rattle.machines.specs.Rows.{state_line}
use Rattle.machines.specs.Held.{held_lines}
use Rattle.std.specs.Borrow.{Bor}
use Rattle.lines.specs.declared.Entry.{Entry as CodeEntry}
use Rattle.lines.specs.declared.Entry.TheVariants.{Signals, Rule, State, Step}
use Rattle.lines.specs.Fields.{shown}
use Rattle.rules.specs.declared.sheet.Sheet.{Sheet}
use Rattle.rules.specs.Led.{SheetIs}
use Rattle.loading.specs.Takes.{Holds, Takes, TakesOnSheet, TakesOnTable}
use Rattle.loading.proofs.OfPlaces.{opened_after}

held_after : (c : Content) (e : Entry) (s : Sheet) (ls : Lines) → placed c (Some e) ≡ Some e → SheetIs (added c e).names (added c e).rules s → ls ≡ lines_in (added c e)
    → Holds s ls true (added_if c (placed c (Some e)))
held_after c e s ls q a b = rw q (record { sheet = a; table = b; begun = opened_after c e q; early = λ x. cc })

pub sheet_takes : (r : Rooms) (c : Content) (e : Entry) (k : Result (Unit {0}) LineFault) (s : Sheet) (ls : Lines) → TakesOnSheet r c e k s → ls ≡ lines_in (added c e) → Takes r c (placed c (Some e)) k s ls
sheet_takes r c e (Ok u) s ls h b = (h.0, held_after c e s ls h.1 h.2 b)
sheet_takes r c e (Err x) s ls h b = h

pub table_takes : (r : Rooms) (c : Content) (e : Entry) (k : Result (Unit {0}) LineFault) (s : Sheet) (ls : Lines) → TakesOnTable r c e k ls → SheetIs (added c e).names (added c e).rules s → Takes r c (placed c (Some e)) k s ls
table_takes r c e (Ok u) s ls h a = (h.0, held_after c e s ls h.1 a h.2)
table_takes r c e (Err x) s ls h a = h

-- names that come first, and names that come once more
pub names_taken : (r : Rooms) (t : Text) (s : Sheet) (ls : Lines) → ls ≡ no_lines → fit t ≡ true → SheetIs (names_of t) [] s → Takes r nothing (Some (signals t)) (Ok tt) s ls
names_taken r t s ls e f h = (simp f, record { sheet = h; table = e; begun = refl; early = λ _. refl })

pub names_unfit : (r : Rooms) (t : Text) (s : Sheet) (ls : Lines) (x : NamesFault) → fit t ≡ false → Takes r nothing (Some (signals t)) (Err (Names x)) s ls
names_unfit r t s ls Unfit f = simp f

pub names_late : (r : Rooms) (c : Content) (t : Text) → true ≡ c.opened → SaidOfLine r c (placed c (Some (signals t))) (Some (Table Form))
names_late r c t b = let x : c.opened ≡ true = sym b in let w : placed c (Some (signals t)) ≡ None = simp x in rw w refl

-- nothing else comes first
pub not_first : (r : Rooms) (e : CodeEntry) → ((x : Bor Text) → e ≡ Signals x → ⊥) → SaidOfLine r nothing (placed nothing (Some (shown e))) (Some (Table Form))
not_first r (Signals x) h = absurd (h x refl)
not_first r (Rule x) h = refl
not_first r (State n s a) h = refl
not_first r (Step f t) h = refl

-- a table has few states
pub few_states : (t : CodeTable) (c : Content) → held_lines t ≡ lines_in c → length c.states ≤ 4096
few_states t c l =
    let n = ap (λ (k : Lines). length k.states) l in
    let m = length-map (take t.state_count t.states.now) state_line in
    let k = length-take t.state_count t.states.now in
    omega (arith, t.states_few)
