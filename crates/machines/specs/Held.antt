-- The lines that a table holds, its rooms, and what it answers to one line more. Assumes nothing.
use Rattle.std.specs.Prelude.{◌≡◌, ℕ, Bool, cond, ◌&&◌, List, [], ◌∷◌, ◌++◌, length, Ok, Err, Result, ◌==◌, nat_le, nat_lt}
use Rattle.meaning.specs.declared.refusals.TableFault.{TableFault}
use Rattle.meaning.specs.declared.refusals.TableFault.TheVariants.{Form, NoRoom}
use Rattle.meaning.specs.Kinds.{Lines}
use Rattle.meaning.specs.Files.{Rooms, state_room, step_room, last_from}
use Rattle.machines.specs.declared.records.State.{State}
use Rattle.machines.specs.declared.records.Step.{Step}
use Rattle.machines.specs.declared.table.Table.{Table}
use Rattle.machines.specs.Rows.{state_lines, step_lines}

-- the lines that a table holds
abbrev pub held_lines : Table → Lines
held_lines t = record { states = state_lines t.states.now t.state_count; steps = step_lines t.steps.now t.step_count }

-- how many states and steps two areas have room for
abbrev pub rooms_in : List State → List Step → Rooms
rooms_in ss es = record { states = length ss; steps = length es }

-- the room of a table's areas
abbrev pub rooms_of : Table → Rooms
rooms_of t = rooms_in t.states.now t.steps.now

-- a table keeps its lent areas
abbrev pub SameAreas : Table → Table → Type 0
SameAreas old new = (rooms_of new ≡ rooms_of old) × (new.states.ghost_name ≡ old.states.ghost_name) × (new.steps.ghost_name ≡ old.steps.ghost_name)

-- one state more
abbrev pub with_state : Lines → Bool → ℕ → Lines
with_state t start letter = record { states = t.states ++ (record { start = start; letter = letter } ∷ []); steps = t.steps }

-- one step more
abbrev pub with_step : Lines → ℕ → ℕ → Lines
with_step t from to = record { states = t.states; steps = t.steps ++ (record { from = from; to = to } ∷ []) }

-- a line that breaks its form is refused by that, before it finds no room
abbrev pub line_answer : Bool → Bool → Result (Unit {0}) TableFault
line_answer formed room = cond formed (cond room (Ok tt) (Err NoRoom)) (Err Form)

-- a state line counts on without gaps
abbrev pub state_answer : Rooms → Lines → ℕ → Result (Unit {0}) TableFault
state_answer r t number = line_answer (number == length t.states) (nat_lt (length t.states) (state_room r))

-- a step line does not fall below the last source, and its ends are declared
abbrev pub step_answer : Rooms → Lines → ℕ → ℕ → Result (Unit {0}) TableFault
step_answer r t from to =
    line_answer (nat_le (last_from t.steps) from && (nat_lt from (length t.states) && nat_lt to (length t.states))) (nat_lt (length t.steps) (step_room r))

-- what the table holds after the answer
abbrev pub if_taken : {X : Type 0} → Result (Unit {0}) TableFault → X → X → X
if_taken (Ok u) new old = new
if_taken (Err e) new old = old

-- what is promised of refusals only
abbrev pub IfRefused : Result (Unit {0}) TableFault → Type 0 → Type 0
IfRefused (Ok u) P = Unit {0}
IfRefused (Err e) P = P
