-- A table keeps the laws of machines. Assumes nothing.
use Rattle.std.specs.Prelude.{◌≡◌, ℕ, zero, suc, ◌<◌, ◌≤◌, List, [], ◌∷◌, map, length, take, slice_index_or}
use Rattle.std.proofs.Common.{arith, length-take}
use Rattle.std.proofs.lemmas.List.{length-map}
use Rattle.std.specs.List.{AllByRecursion}
use Rattle.meaning.specs.Machines.{Lawful}
use Rattle.meaning.specs.Kinds.{State as StateLine, Step as StepLine, table_meaning}
use Rattle.meaning.proofs.OfLaws.{table_lawful}
use Rattle.machines.specs.declared.table.Table.{Table}
use Rattle.machines.specs.Rows.{blank_state, blank_step, state_line, step_line}
use Rattle.machines.specs.Held.{held_lines}

all_front : {X Y : Type 0} (P : Y → Type 0) (f : X → Y) (d : X) (xs : List X) (n : ℕ) → n ≤ length xs → ((i : ℕ) → i < n → P (f (slice_index_or xs i d))) → AllByRecursion P (map f (take n xs))
all_front P f d xs zero l h = tt
all_front P f d [] (suc n) l h = tt
all_front P f d (x ∷ xs) (suc n) l h = (h 0 (omega arith), all_front P f d xs n (omega arith) (λ i j. h (suc i) (omega arith)))

-- as many lines as records
pub length_front : {X Y : Type 0} (f : X → Y) (xs : List X) (n : ℕ) → n ≤ length xs → length (map f (take n xs)) ≡ n
length_front f xs n l = omega (arith, length-map (take n xs) f, length-take n xs)

-- what a table means keeps the laws
pub tables_keep_laws : (t : Table) → Lawful (table_meaning (held_lines t))
tables_keep_laws t =
    let n = length_front state_line t.states.now t.state_count t.states_within in
    let m = length_front step_line t.steps.now t.step_count t.steps_within in
    table_lawful (held_lines t) (record {
      bytes = all_front (λ (x : StateLine). x.letter ≤ 255) state_line blank_state t.states.now t.state_count t.states_within (λ s h. omega (arith, t.rows.letters s h));
      ends = all_front (λ (e : StepLine). e.to < length (held_lines t).states) step_line blank_step t.steps.now t.step_count t.steps_within (λ i h. omega (arith, n, t.rows.ends i h));
      few = omega (arith, m, t.steps_few);
    })
