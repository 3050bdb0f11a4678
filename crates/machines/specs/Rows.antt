-- What the records of a table keep besides its lines. Assumes nothing.
use Rattle.std.specs.Prelude.{◌≡◌, ℕ, ◌+◌, ◌<◌, ◌≤◌, false, cond, List, [], map, get_or, take, drop, ◌==◌, slice_index_or}
use Rattle.meaning.specs.Files.{last_from}
use Rattle.meaning.specs.Kinds.{State as StateLine, Step as StepLine, starts_from, steps_from}
use Rattle.machines.specs.declared.records.State.{State}
use Rattle.machines.specs.declared.records.Step.{Step}

-- a record of no state
abbrev pub blank_state : State
blank_state = record { start = false; letter = 0; first_step = 0; step_count = 0; nth_start = 0 }

-- a record of no step
abbrev pub blank_step : Step
blank_step = record { from = 0; to = 0 }

-- the record of state s
abbrev pub row : List State → ℕ → State
row ss s = slice_index_or ss s blank_state

-- the line of a state's record
abbrev pub state_line : State → StateLine
state_line x = record { start = x.start; letter = x.letter }

-- the line of a step's record
abbrev pub step_line : Step → StepLine
step_line e = record { from = e.from; to = e.to }

-- the lines of the first n states
abbrev pub state_lines : List State → ℕ → List StateLine
state_lines ss n = map state_line (take n ss)

-- the lines of the first m steps
abbrev pub step_lines : List Step → ℕ → List StepLine
step_lines es m = map step_line (take m es)

-- the start whose number a record keeps
abbrev pub start_at : State → ℕ
start_at x = x.nth_start

-- where a step leads
abbrev pub end_of : Step → ℕ
end_of e = e.to

-- a state with one step more, where the next step stands at m
abbrev pub stepped : State → ℕ → State
stepped x m = record {
  start = x.start;
  letter = x.letter;
  first_step = cond (x.step_count == 0) m x.first_step;
  step_count = x.step_count + 1;
  nth_start = x.nth_start;
}

-- Below, n is the number of states, m that of steps, k that of starts.
-- the first k records keep the numbers of the starts
abbrev pub Starts : List State → ℕ → ℕ → Type 0
Starts ss n k = starts_from 0 (state_lines ss n) ≡ map start_at (take k ss)

-- the letters of states are bytes
abbrev pub Letters : List State → ℕ → Type 0
Letters ss n = (s : ℕ) → s < n → (row ss s).letter < 256

-- steps lead to declared states
abbrev pub Ends : List Step → ℕ → ℕ → Type 0
Ends es n m = (i : ℕ) → i < m → (get_or es i blank_step).to < n

-- steps come from declared states
abbrev pub Sources : List Step → ℕ → ℕ → Type 0
Sources es n m = (s : ℕ) → n ≤ s → steps_from (step_lines es m) s ≡ []

-- the steps of a state, as its record says, are among those held
abbrev pub Within : List State → ℕ → ℕ → Type 0
Within ss n m = (s : ℕ) → s < n → (row ss s).first_step + (row ss s).step_count ≤ m

-- the steps of a state stand together, where its record says
abbrev pub Together : List State → List Step → ℕ → ℕ → Type 0
Together ss es n m = (s : ℕ) → s < n → steps_from (step_lines es m) s ≡ map end_of (take (row ss s).step_count (drop (row ss s).first_step es))

-- of the states from the last source on only that one has steps, and they stand last
abbrev pub Newest : List State → List Step → ℕ → ℕ → Type 0
Newest ss es n m = (s : ℕ) → (s < n) × (last_from (step_lines es m) ≤ s) × (0 < (row ss s).step_count)
    → (s ≡ last_from (step_lines es m)) × ((row ss s).first_step + (row ss s).step_count ≡ m)

-- all that the records keep besides the lines: n states, m steps, k starts
pub record Rows (ss : List State) (es : List Step) (n m k : ℕ) : Type 0 where
  pub starts : Starts ss n k
  pub letters : Letters ss n
  pub ends : Ends es n m
  pub sources : Sources es n m
  pub within : Within ss n m
  pub together : Together ss es n m
  pub newest : Newest ss es n m
