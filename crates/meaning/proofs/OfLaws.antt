-- The kinds of machines keep the laws. Assumes nothing.
use Rattle.std.proofs.Common.{◌≡◌, ℕ, zero, suc, ◌+◌, ◌-◌, ◌*◌, ◌^◌, ◌<◌, ◌≤◌, Bool, true, false, cond, eqb, ltb, leb, List, [], ◌∷◌, ◌++◌, map, length, get_or, Some, None, Ok, Err, filter, Option, refl, ⊎_elim, arith, length-append}
use lib.Bits.{bit_or, or_lt}
use lib.Pow.{pow-lt}
use lib.ListN.{length-map}
use Rattle.std.proofs.lemmas.Bool.{and_parts, ltb-true, ltb-false, leb-true}
use Rattle.std.proofs.ByRecursion.{All-weaker}
use Rattle.std.specs.List.{AllByRecursion}
use Rattle.meaning.specs.declared.refusals.LineFault.TheVariants.{Table}
use Rattle.meaning.specs.declared.refusals.TableFault.TheVariants.{NoRoom}
use Rattle.logic.specs.Formula.{Letters}
use Rattle.meaning.specs.Bytes.{is_empty}
use Rattle.meaning.specs.Machines.{Meaning, Lawful, Among, Once}
use Rattle.meaning.specs.Kinds.{State, Step, Lines, no_lines, starts_from, steps_from, table_meaning, no_machine, doubled, stuck_fitting, stuck_fits}
use Rattle.meaning.specs.Files.{Line, ended, cut, Entry, signals, rule, state, step, entry, Content, nothing, in_place, placed, formed, added_if, content_from, content, lines, lines_in, last_from, Rooms, step_room, SaidOfLine, AllGood}
use Rattle.meaning.specs.Calls.{Call, opening, entering, loading, filling, beginning, scanning, searching, Answer, History, table, round, stuck, other}
use Rattle.meaning.specs.Histories.{lines_after, table_lines, meaning_of}
use Rattle.meaning.specs.Right.{Right, AllRight}
use Rattle.meaning.specs.Laws.{RoundsAreLawful, StuckLayersAreLawful, LoadedTablesAreLawful, MachinesAreLawful}
use Rattle.meaning.proofs.OfHistories.{at_keeps}

by_test : (P : Bool → Type 0) (b : Bool) → (b ≡ true → P true) → (b ≡ false → P false) → P b
by_test P true f g = f refl
by_test P false f g = g refl

-- ---- the round

one_below : (n x : ℕ) (b : Bool) → (b ≡ true → x < n) → AllByRecursion (λ s. s < n) (cond b (x ∷ []) [])
one_below n x true h = (h refl, tt)
one_below n x false h = tt

one_short : (x : ℕ) (b : Bool) → length (cond b (x ∷ []) []) ≤ 1
one_short x true = omega arith
one_short x false = omega arith

one_once : (x : ℕ) (b : Bool) → Once (cond b (x ∷ []) [])
one_once x true = (λ n. n, tt)
one_once x false = tt

letter_at : (w : List ℕ) (s : ℕ) → Letters w → s < length w → get_or w s 0 < 256
letter_at [] s h l = absurd (omega arith)
letter_at (a ∷ w) zero h l = h.0
letter_at (a ∷ w) (suc s) h l = letter_at w s h.1 (omega arith)

pub rounds_are_lawful : RoundsAreLawful
rounds_are_lawful w h = record {
  starts_below = one_below (length w) 0 (ltb 0 (length w)) (λ e. ltb-true 0 (length w) e);
  starts_once = one_once 0 (ltb 0 (length w));
  steps_below = λ s l. one_below (length w) (s + 1) (ltb (s + 1) (length w)) (λ e. ltb-true (s + 1) (length w) e);
  steps_few = λ s l. one_short (s + 1) (ltb (s + 1) (length w));
  letters_small = λ s l. letter_at w s h l;
  width_small = omega arith;
}

-- ---- the stuck layer

pub length_doubled : (n : ℕ) (ts : List ℕ) → length (doubled n ts) ≡ 2 * length ts
length_doubled n [] = refl
length_doubled n (t ∷ ts) = let h = length_doubled n ts in omega arith

doubled_below : (n : ℕ) (ts : List ℕ) → AllByRecursion (λ t. t < n) ts → AllByRecursion (λ t. t < 2 * n) (doubled n ts)
doubled_below n [] h = tt
doubled_below n (t ∷ ts) h = (omega (arith, h.0), (omega (arith, h.0), doubled_below n ts h.1))

raised_below : (n : ℕ) (ts : List ℕ) → AllByRecursion (λ t. t < n) ts → AllByRecursion (λ t. t < 2 * n) (map (λ t. n + t) ts)
raised_below n [] h = tt
raised_below n (t ∷ ts) h = (omega (arith, h.0), raised_below n ts h.1)

no_machine_lawful : Lawful no_machine
no_machine_lawful = record {
  starts_below = tt;
  starts_once = tt;
  steps_below = λ s h. tt;
  steps_few = λ s h. omega arith;
  letters_small = λ s h. omega arith;
  width_small = omega arith;
}

stuck_letter : (a signal : ℕ) → a < 256 → signal ≤ 7 → bit_or a (2 ^ signal) < 256
stuck_letter a signal h l = or_lt 8 a (2 ^ signal) h (pow-lt {i = signal} {j = 8} (omega arith))

stuck_fitting_lawful : (m : Meaning) (g : ℕ) → Lawful m → m.width ≤ 524288 → g ≤ 7 → Lawful (stuck_fitting m g)
stuck_fitting_lawful m g l small low = record {
  starts_below = All-weaker (λ s. s < m.count) (λ s. s < 2 * m.count) (λ s h. omega arith) m.starts l.starts_below;
  starts_once = l.starts_once;
  steps_below = λ s h. by_test (λ b. AllByRecursion (λ t. t < 2 * m.count) (cond b (doubled m.count (m.steps s)) (map (λ t. m.count + t) (m.steps (s - m.count)))))
      (ltb s m.count)
      (λ e. doubled_below m.count (m.steps s) (l.steps_below s (ltb-true s m.count e)))
      (λ e. raised_below m.count (m.steps (s - m.count)) (l.steps_below (s - m.count) (omega (arith, ltb-false s m.count e))));
  steps_few = λ s h. by_test (λ b. length (cond b (doubled m.count (m.steps s)) (map (λ t. m.count + t) (m.steps (s - m.count)))) ≤ 2 * m.width)
      (ltb s m.count)
      (λ e. omega (arith, length_doubled m.count (m.steps s), l.steps_few s (ltb-true s m.count e)))
      (λ e. let h : s - m.count < m.count = omega (arith, ltb-false s m.count e) in
      omega (arith, length-map (m.steps (s - m.count)) (λ t. m.count + t), l.steps_few (s - m.count) h));
  letters_small = λ s h. by_test (λ b. cond b (m.letter s) (bit_or (m.letter (s - m.count)) (2 ^ g)) < 256)
      (ltb s m.count)
      (λ e. l.letters_small s (ltb-true s m.count e))
      (λ e. stuck_letter (m.letter (s - m.count)) g (l.letters_small (s - m.count) (omega (arith, ltb-false s m.count e))) low);
  width_small = omega arith;
}

pub stuck_layers_are_lawful : StuckLayersAreLawful
stuck_layers_are_lawful m g l = by_test (λ b. Lawful (cond b (stuck_fitting m g) no_machine)) (stuck_fits m g)
    (λ e.
    let k = and_parts (leb m.count 32768) _ e in
    let j = and_parts (leb m.width 524288) _ k.1 in
    stuck_fitting_lawful m g l (leb-true m.width 524288 j.0) (leb-true g 7 j.1))
    (λ e. no_machine_lawful)

-- ---- the table

starts_within : (k : ℕ) (ss : List State) → AllByRecursion (λ s. (k ≤ s) × (s < k + length ss)) (starts_from k ss)
starts_within k [] = tt
starts_within k (s ∷ ss) = go s.start (All-weaker (λ i. (k + 1 ≤ i) × (i < k + 1 + length ss)) (λ i. (k ≤ i) × (i < k + length (s ∷ ss))) (λ i h. (omega (arith, h.0), omega (arith, h.1))) (starts_from (k + 1) ss) (starts_within (k + 1) ss))
  where
    go : (b : Bool) → AllByRecursion (λ i. (k ≤ i) × (i < k + length (s ∷ ss))) (starts_from (k + 1) ss) → AllByRecursion (λ i. (k ≤ i) × (i < k + length (s ∷ ss))) (cond b (k ∷ starts_from (k + 1) ss) (starts_from (k + 1) ss))
    go true h = ((omega arith, omega arith), h)
    go false h = h

above_not_among : (k : ℕ) (xs : List ℕ) → AllByRecursion (λ i. k + 1 ≤ i) xs → Among k xs → ⊥
above_not_among k [] h m = m
above_not_among k (x ∷ xs) h m = ⊎_elim (λ (e : k ≡ x). omega (arith, h.0)) (λ (m' : Among k xs). above_not_among k xs h.1 m') m

starts_rise : (k : ℕ) (ss : List State) → Once (starts_from k ss)
starts_rise k [] = tt
starts_rise k (s ∷ ss) = go s.start (starts_rise (k + 1) ss)
  where
    go : (b : Bool) → Once (starts_from (k + 1) ss) → Once (cond b (k ∷ starts_from (k + 1) ss) (starts_from (k + 1) ss))
    go true h = (above_not_among k (starts_from (k + 1) ss) (All-weaker (λ i. (k + 1 ≤ i) × (i < k + 1 + length ss)) (λ i. k + 1 ≤ i) (λ i p. p.0) (starts_from (k + 1) ss) (starts_within (k + 1) ss)), h)
    go false h = h

from_below : (n s : ℕ) (es : List Step) → AllByRecursion (λ (e : Step). e.to < n) es → AllByRecursion (λ t. t < n) (steps_from es s)
from_below n s [] h = tt
from_below n s (e ∷ es) h = kept (eqb e.from s) (from_below n s es h.1)
  where
    kept : (b : Bool) → AllByRecursion (λ t. t < n) (steps_from es s) → AllByRecursion (λ t. t < n) (map (λ (e : Step). e.to) (cond b (e ∷ filter (λ (e : Step). eqb e.from s) es) (filter (λ (e : Step). eqb e.from s) es)))
    kept true r = (h.0, r)
    kept false r = r

from_few : (s : ℕ) (es : List Step) → length (steps_from es s) ≤ length es
from_few s [] = omega arith
from_few s (e ∷ es) = kept (eqb e.from s) (from_few s es)
  where
    kept : (b : Bool) → length (steps_from es s) ≤ length es → length (map (λ (e : Step). e.to) (cond b (e ∷ filter (λ (e : Step). eqb e.from s) es) (filter (λ (e : Step). eqb e.from s) es))) ≤ suc (length es)
    kept true r = omega arith
    kept false r = omega arith

-- what good lines keep
pub record Sound (states : List State) (steps : List Step) : Type 0 where
  pub bytes : AllByRecursion (λ (s : State). s.letter ≤ 255) states
  pub ends : AllByRecursion (λ (e : Step). e.to < length states) steps
  pub few : length steps ≤ 16384

state_letter : (ss : List State) (i : ℕ) (d : State) → AllByRecursion (λ (s : State). s.letter ≤ 255) ss → i < length ss → (get_or ss i d).letter < 256
state_letter [] i d h l = absurd (omega arith)
state_letter (s ∷ ss) zero d h l = omega (arith, h.0)
state_letter (s ∷ ss) (suc i) d h l = state_letter ss i d h.1 (omega arith)

pub table_lawful : (t : Lines) → Sound t.states t.steps → Lawful (table_meaning t)
table_lawful t h = record {
  starts_below = All-weaker (λ i. (0 ≤ i) × (i < 0 + length t.states)) (λ i. i < length t.states) (λ i p. omega (arith, p.1)) (starts_from 0 t.states) (starts_within 0 t.states);
  starts_once = starts_rise 0 t.states;
  steps_below = λ s l. from_below (length t.states) s t.steps h.ends;
  steps_few = λ s l. omega (arith, from_few s t.steps, h.few);
  letters_small = λ s l. state_letter t.states s (record { start = false; letter = 0 }) h.bytes l;
  width_small = omega arith;
}

all_end : {X : Type 0} (P : X → Type 0) (xs : List X) (x : X) → AllByRecursion P xs → P x → AllByRecursion P (xs ++ (x ∷ []))
all_end P [] x h p = (p, tt)
all_end P (y ∷ ys) x h p = (h.0, all_end P ys x h.1 p)

pub room_left : (n room : ℕ) → None ≡ cond (ltb n room) None (Some (Table NoRoom)) → n < room
room_left n room h = go (ltb n room) refl h
  where
    go : (b : Bool) → ltb n room ≡ b → None ≡ cond b None (Some (Table NoRoom)) → n < room
    go true e k = ltb-true n room e
    go false e k = absurd (grind arith)

-- an entry in its place keeps this
entry_sound : (r : Rooms) (c : Content) (e : Entry) → in_place c e ≡ true → Sound c.states c.steps → SaidOfLine r c (Some e) None → Sound (added_if c (Some e)).states (added_if c (Some e)).steps
entry_sound r c (signals t) i h s = h
entry_sound r c (rule t) i h s = h
entry_sound r c (state n b a) i h s =
    let k = and_parts c.opened _ i in
    let j = and_parts (is_empty c.steps) _ k.1 in
    let m = and_parts (eqb n (length c.states)) _ j.1 in
    let q = and_parts (leb b 1) _ m.1 in
    let longer = length-append c.states (record { start = eqb b 1; letter = a } ∷ []) in
    record {
      bytes = all_end (λ (s : State). s.letter ≤ 255) c.states (record { start = eqb b 1; letter = a }) h.bytes (leb-true a 255 q.1);
      ends = All-weaker (λ (e : Step). e.to < length c.states) (λ (e : Step). e.to < length (c.states ++ (record { start = eqb b 1; letter = a } ∷ []))) (λ e p. omega (arith, p, longer)) c.steps h.ends;
      few = h.few;
    }
entry_sound r c (step f t) i h s =
    let k = and_parts c.opened _ i in
    let j = and_parts (leb (last_from c.steps) f) _ k.1 in
    let m = and_parts (ltb f (length c.states)) _ j.1 in
    let left = room_left (length c.steps) (step_room r) s in
    record {
      bytes = h.bytes;
      ends = all_end (λ (e : Step). e.to < length c.states) c.steps (record { from = f; to = t }) h.ends (ltb-true t (length c.states) m.1);
      few = omega (arith, left, length-append c.steps (record { from = f; to = t } ∷ []));
    }

placed_sound : (r : Rooms) (c : Content) (o : Option Entry) → Sound c.states c.steps → SaidOfLine r c (placed c o) None → Sound (added_if c (placed c o)).states (added_if c (placed c o)).steps
placed_sound r c None h s = h
placed_sound r c (Some e) h s = go (in_place c e) refl s
  where
    go : (b : Bool) → in_place c e ≡ b → SaidOfLine r c (cond b (Some e) None) None → Sound (added_if c (cond b (Some e) None)).states (added_if c (cond b (Some e) None)).steps
    go true i s' = entry_sound r c e i h s'
    go false i s' = h

line_sound : (r : Rooms) (c : Content) (l : Line) → Sound c.states c.steps → SaidOfLine r c (formed c l) None → Sound (added_if c (formed c l)).states (added_if c (formed c l)).steps
line_sound r c (ended t) h s = placed_sound r c (entry t) h s
line_sound r c (cut t) h s = h

lines_sound : (r : Rooms) (c : Content) (ls : List Line) → Sound c.states c.steps → AllGood r c ls → Sound (content_from c ls).states (content_from c ls).steps
lines_sound r c [] h g = h
lines_sound r c (l ∷ ls) h g = lines_sound r (added_if c (formed c l)) ls (line_sound r c l h g.0) g.1

nothing_sound : Sound [] []
nothing_sound = record { bytes = tt; ends = tt; few = omega arith }

pub loaded_tables_are_lawful : LoadedTablesAreLawful
loaded_tables_are_lawful r file g = table_lawful (lines_in (content file)) (lines_sound r nothing (lines file) nothing_sound g)

-- ---- after any list of calls

abbrev SoundLines : Lines → Type 0
SoundLines t = Sound t.states t.steps

after_sound : (h : History) (c : Call) (x : Answer c) → Right h c x → (n : ℕ) (old : Lines) → SoundLines old → SoundLines (lines_after c x n old)
after_sound h (opening s t) x k n old g = g
after_sound h (entering s t) x k n old g = g
after_sound h (loading s y r file) (Ok u) k n old g = at_keeps SoundLines n y (lines_in (content file)) old (lines_sound r nothing (lines file) nothing_sound k) g
after_sound h (loading s y r file) (Err e) k n old g = at_keeps SoundLines n y no_lines old nothing_sound g
after_sound h (filling c s k' a) x k n old g = g
after_sound h (beginning c) x k n old g = g
after_sound h (scanning c a) x k n old g = g
after_sound h (searching c m p w) x k n old g = g

lines_are_sound : (h : History) → AllRight h → (n : ℕ) → SoundLines (table_lines h n)
lines_are_sound [] r n = nothing_sound
lines_are_sound (e ∷ h) r n = after_sound h e.call e.answer r.0 n (table_lines h n) (lines_are_sound h r.1 n)

pub machines_are_lawful : MachinesAreLawful
machines_are_lawful h r (table t) b = table_lawful (table_lines h t) (lines_are_sound h r t)
machines_are_lawful h r (round w) b = rounds_are_lawful w b
machines_are_lawful h r (stuck m g) b = stuck_layers_are_lawful (meaning_of h m) g (machines_are_lawful h r m b)
machines_are_lawful h r (other m l) b = l
