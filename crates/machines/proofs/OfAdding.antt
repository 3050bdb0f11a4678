-- What a table answers to one line more, and what it holds then.
use Rattle.std.proofs.Common.{◌≡◌, ℕ, suc, ◌+◌, ◌-◌, ◌<◌, ◌≤◌, Bool, List, [], ◌∷◌, map, length, set, Some, None, Option, refl, ap, ◌∙◌, arith, length-set}
use Rattle.std.specs.Prelude.{MatchOption, option_copied}
use Rattle.std.specs.Borrow.{Bor}
use Rattle.std.specs.List.{slice_get}
use mir.Val.{bool_byte}
use Rattle.std.proofs.lemmas.List.{get_or-set_same}
use Rattle.meaning.specs.Files.{last_from}
use Rattle.meaning.specs.Kinds.{Lines}
use Rattle.machines.specs.declared.records.State.{State}
use Rattle.machines.specs.declared.records.Step.{Step}
use Rattle.machines.specs.declared.table.Table.{Table}
use Rattle.machines.specs.Rows.{blank_state, row, stepped, state_line, step_line, state_lines, step_lines, Rows}
use Rattle.machines.specs.Held.{held_lines, with_state, with_step}
use Rattle.machines.proofs.OfRows.{renumbered, fresh, same_front, state_lines_more, step_lines_more, numbered, declared, joined}

-- the source of the last line, as the last record tells it
pub last_known : (es : List Step) (o : Option (Bor Step)) (r : ℕ) → option_copied o ≡ slice_get es (length es - 1) → MatchOption o (r ≡ 0) (λ x. r ≡ x.now.from) → r ≡ last_from (map step_line es)
last_known [] None r e h = h
last_known [] (Some x) r e h = cc
last_known (x ∷ []) None r e h = cc
last_known (x ∷ []) (Some y) r e h = let q : y.now ≡ x = cc in h ∙ ap (λ z. z.from) q
last_known (x ∷ (y ∷ ys)) o r e h = let q : length (x ∷ (y ∷ ys)) - 1 ≡ suc (length (y ∷ ys) - 1) = omega arith in last_known (y ∷ ys) o r (rw q at e) h

module _ (t : Table) where
  -- a state
  pub state_held : (i : ℕ) (x y : State) → state_line x ≡ state_line (row t.states.now i) → t.state_count < length t.states.now
      → ◌≡◌ {A = Lines} (record { states = state_lines (set (set t.states.now i x) t.state_count y) (t.state_count + 1); steps = (held_lines t).steps }) (with_state (held_lines t) y.start y.letter)
  state_held i x y e h =
      let n = t.state_count in
      let ss = t.states.now in
      rw (state_lines_more (set ss i x) n y (omega (arith, length-set ss i x)), same_front state_line ss i n x blank_state e) refl

  pub state_rows : (start : Bool) (letter : ℕ) → letter < 256 → t.state_count < length t.states.now
      → Rows (set (set t.states.now t.start_count (renumbered (row t.states.now t.start_count) t.state_count)) t.state_count (fresh start letter t.state_count))
      t.steps.now (t.state_count + 1) t.step_count (t.start_count + bool_byte start)
  state_rows start letter small h =
      let ss = t.states.now in
      let n = t.state_count in
      let k = t.start_count in
      let x : State = renumbered (row ss k) n in
      let inside : k < length ss = omega (arith, t.starts_within) in
      let r = numbered ss t.steps.now n t.step_count k t.rows k n (omega arith) inside in
      declared (set ss k x) t.steps.now n t.step_count k r start letter small (omega (arith, length-set ss k x)) t.starts_within
      (λ _. ap (λ (y : State). y.nth_start) (get_or-set_same ss k x blank_state inside))

  -- a step; `last` is the source of the last one
  pub step_held : (i : ℕ) (x : State) (e : Step) → state_line x ≡ state_line (row t.states.now i) → t.step_count < length t.steps.now
      → ◌≡◌ {A = Lines} (record { states = state_lines (set t.states.now i x) t.state_count; steps = step_lines (set t.steps.now t.step_count e) (t.step_count + 1) }) (with_step (held_lines t) e.from e.to)
  step_held i x e p h = rw (same_front state_line t.states.now i t.state_count x blank_state p, step_lines_more t.steps.now t.step_count e h) refl

  pub step_rows : (last from to : ℕ) (x : State) → last ≡ last_from (held_lines t).steps → last ≤ from → from < t.state_count → to < t.state_count → t.step_count < length t.steps.now
      → x ≡ stepped (row t.states.now from) t.step_count
      → Rows (set t.states.now from x) (set t.steps.now t.step_count (record { from = from; to = to })) t.state_count (t.step_count + 1) t.start_count
  step_rows last from to x e p q r h i =
      rw i (joined t.states.now t.steps.now t.state_count t.step_count t.start_count t.rows from to (omega arith) q r t.states_within h)
