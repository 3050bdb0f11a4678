-- The records of a table keep what they say after each write.
use Rattle.std.proofs.Common.{◌≡◌, ℕ, zero, suc, ◌+◌, ◌-◌, ◌<◌, ◌≤◌, Bool, true, false, cond, eqb, List, [], ◌∷◌, ◌++◌, map, length, get_or, take, drop, set, filter, sym, refl, ap, ◌∙◌, subst, inl, inr, add-zero, arith, length-drop, length-set, eq-eqb, ne_eqb}
use mir.Val.{bool_byte}
use Rattle.std.proofs.lemmas.List.Elements.{filter-append}
use Rattle.std.proofs.lemmas.List.{take_more_set, take-set, take-set-le, drop-set-add, map-append, map_push, map_more, append-nil, get_or-set_same, get_or-set_other}
use Rattle.std.proofs.lemmas.Bool.{cases_eq}
use Rattle.meaning.specs.Files.{last_from}
use Rattle.meaning.specs.Kinds.{State as StateLine, Step as StepLine, starts_from, steps_from}
use Rattle.machines.specs.declared.records.State.{State}
use Rattle.machines.specs.declared.records.Step.{Step}
use Rattle.machines.specs.Rows.{blank_state, blank_step, row, state_line, step_line, state_lines, step_lines, start_at, end_of, stepped, Starts, Rows}
use Rattle.machines.specs.TableLaws.{length_front}

-- a record that keeps another number of a start, and that of a new state
abbrev pub renumbered : State → ℕ → State
renumbered x j = record { start = x.start; letter = x.letter; first_step = x.first_step; step_count = x.step_count; nth_start = j }

abbrev pub fresh : Bool → ℕ → ℕ → State
fresh start letter n = record { start = start; letter = letter; first_step = 0; step_count = 0; nth_start = n }

-- a write to the record of state i
at_set : (P : ℕ → State → Type 0) (ss : List State) (i : ℕ) (x : State) → i < length ss → P i x → (s : ℕ) → ((s ≡ i → ⊥) → P s (row ss s)) → P s (row (set ss i x) s)
at_set P ss i x l p s q = elim (cases_eq s i) [
  | inl e ↦ subst (λ (j : ℕ). P j (row (set ss i x) j)) (sym e) (subst (P i) (sym (get_or-set_same ss i x blank_state l)) p)
  | inr e ↦ subst (P s) (sym (get_or-set_other ss i s x blank_state e)) (q e)
]

-- a write that one field's list does not show
pub same_front : {X Y : Type 0} (f : X → Y) (xs : List X) (i n : ℕ) (x d : X) → f x ≡ f (get_or xs i d) → map f (take n (set xs i x)) ≡ map f (take n xs)
same_front f [] i zero x d e = refl
same_front f [] i (suc n) x d e = refl
same_front f (y ∷ ys) i zero x d e = refl
same_front f (y ∷ ys) zero (suc n) x d e = ap (λ z. z ∷ map f (take n ys)) e
same_front f (y ∷ ys) (suc i) (suc n) x d e = ap (λ zs. f y ∷ zs) (same_front f ys i n x d e)

-- one line more
starts_more : (k : ℕ) (xs : List StateLine) (s : StateLine) → starts_from k (xs ++ (s ∷ [])) ≡ starts_from k xs ++ cond s.start ((k + length xs) ∷ []) []
starts_more k [] s = rw add-zero refl
starts_more k (x ∷ xs) s =
    let e : (k + 1) + length xs ≡ k + suc (length xs) = omega arith in
    by x.start (rw e at (starts_more (k + 1) xs s))
  where
    by : (b : Bool) → starts_from (k + 1) (xs ++ (s ∷ [])) ≡ starts_from (k + 1) xs ++ cond s.start ((k + suc (length xs)) ∷ []) []
        → cond b (k ∷ starts_from (k + 1) (xs ++ (s ∷ []))) (starts_from (k + 1) (xs ++ (s ∷ []))) ≡ cond b (k ∷ starts_from (k + 1) xs) (starts_from (k + 1) xs) ++ cond s.start ((k + suc (length xs)) ∷ []) []
    by true ih = ap (λ (zs : List ℕ). k ∷ zs) ih
    by false ih = ih

steps_more : (es : List StepLine) (e : StepLine) (s : ℕ) → steps_from (es ++ (e ∷ [])) s ≡ steps_from es s ++ steps_from (e ∷ []) s
steps_more es e s =
    ap (map (λ (e : StepLine). e.to)) (filter-append (λ (e : StepLine). eqb e.from s) es (e ∷ []))
    ∙ map-append (λ (e : StepLine). e.to) (filter (λ (e : StepLine). eqb e.from s) es) (filter (λ (e : StepLine). eqb e.from s) (e ∷ []))

steps_same : (es : List StepLine) (f t : ℕ) → steps_from (es ++ (record { from = f; to = t } ∷ [])) f ≡ steps_from es f ++ (t ∷ [])
steps_same es f t = let q : eqb f f ≡ true = eq-eqb f f refl in steps_more es (record { from = f; to = t }) f ∙ simp q

steps_other : (es : List StepLine) (f t s : ℕ) → (f ≡ s → ⊥) → steps_from (es ++ (record { from = f; to = t } ∷ [])) s ≡ steps_from es s
steps_other es f t s ne = let q : eqb f s ≡ false = ne_eqb f s ne in steps_more es (record { from = f; to = t }) s ∙ simp (q, append-nil (steps_from es s))

last_more : (es : List StepLine) (e : StepLine) → last_from (es ++ (e ∷ [])) ≡ e.from
last_more [] e = refl
last_more (x ∷ []) e = refl
last_more (x ∷ (y ∷ ys)) e = last_more (y ∷ ys) e

pub state_lines_more : (ss : List State) (n : ℕ) (x : State) → n < length ss → state_lines (set ss n x) (n + 1) ≡ state_lines ss n ++ (state_line x ∷ [])
state_lines_more ss n x l = ap (map state_line) (take_more_set ss n x l) ∙ map_push state_line (take n ss) x

pub step_lines_more : (es : List Step) (m : ℕ) (e : Step) → m < length es → step_lines (set es m e) (m + 1) ≡ step_lines es m ++ (step_line e ∷ [])
step_lines_more es m e l = ap (map step_line) (take_more_set es m e l) ∙ map_push step_line (take m es) e

-- a part of the steps, and a write behind it
part_kept : (es : List Step) (f c m : ℕ) (e : Step) → f + c ≤ m → take c (drop f (set es m e)) ≡ take c (drop f es)
part_kept es f c m e h =
    let q : m ≡ f + (m - f) = omega arith in
    ap (λ (i : ℕ). take c (drop f (set es i e))) q ∙ (ap (take c) (drop-set-add f es (m - f) e) ∙ take-set-le c (drop f es) (m - f) e (omega arith))

part_more : (es : List Step) (f c m : ℕ) (e : Step) → f + c ≡ m → m < length es → take (c + 1) (drop f (set es m e)) ≡ take c (drop f es) ++ (e ∷ [])
part_more es f c m e h l =
    ap (λ (i : ℕ). take (c + 1) (drop f (set es i e))) (sym h)
    ∙ (ap (take (c + 1)) (drop-set-add f es c e) ∙ take_more_set (drop f es) c e (omega (arith, length-drop f es)))

-- where the steps of a state begin once it has one more
placed : (c f m : ℕ) → (0 < c → f + c ≡ m) → cond (eqb c 0) m f + c ≡ m
placed zero f m h = omega arith
placed (suc c) f m h = let q : eqb (suc c) 0 ≡ false = ne_eqb (suc c) 0 (λ (e : suc c ≡ 0). omega arith) in rw q (h (omega arith))

part_placed : (es : List Step) (c f m : ℕ) → take c (drop (cond (eqb c 0) m f) es) ≡ take c (drop f es)
part_placed es zero f m = refl
part_placed es (suc c) f m = let q : eqb (suc c) 0 ≡ false = ne_eqb (suc c) 0 (λ (e : suc c ≡ 0). omega arith) in rw q refl

module _ (ss : List State) (es : List Step) (n m k : ℕ) (g : Rows ss es n m k) where
  -- the number of a start is written behind those of the starts so far
  pub numbered : (i j : ℕ) → k ≤ i → i < length ss → Rows (set ss i (renumbered (row ss i) j)) es n m k
  numbered i j h l =
      let x : State = renumbered (row ss i) j in
      record {
        starts = ap (starts_from 0) (same_front state_line ss i n x blank_state refl) ∙ (g.starts ∙ sym (ap (map start_at) (take-set-le k ss i x h)));
        letters = λ s. at_set (λ s y. s < n → y.letter < 256) ss i x l (g.letters i) s (λ _. g.letters s);
        ends = g.ends;
        sources = g.sources;
        within = λ s. at_set (λ s y. s < n → y.first_step + y.step_count ≤ m) ss i x l (g.within i) s (λ _. g.within s);
        together = λ s. at_set (λ s y. s < n → steps_from (step_lines es m) s ≡ map end_of (take y.step_count (drop y.first_step es))) ss i x l (g.together i) s (λ _. g.together s);
        newest = λ s. at_set (λ s y. (s < n) × (last_from (step_lines es m) ≤ s) × (0 < y.step_count) → (s ≡ last_from (step_lines es m)) × (y.first_step + y.step_count ≡ m)) ss i x l (g.newest i) s (λ _. g.newest s);
      }

  -- a state comes at the end
  pub declared : (start : Bool) (letter : ℕ) → letter < 256 → n < length ss → k ≤ n → ((k ≡ n → ⊥) → (row ss k).nth_start ≡ n)
      → Rows (set ss n (fresh start letter n)) es (n + 1) m (k + bool_byte start)
  declared start letter small l h v =
      let x : State = fresh start letter n in
      record {
        starts = starts_then start;
        letters = λ s i. at_set (λ s y. s < n + 1 → y.letter < 256) ss n x l (λ _. small) s (λ ne j. g.letters s (omega arith)) i;
        ends = λ i j. omega (arith, g.ends i j);
        sources = λ s j. g.sources s (omega arith);
        within = λ s i. at_set (λ s y. s < n + 1 → y.first_step + y.step_count ≤ m) ss n x l (λ _. omega arith) s (λ ne j. g.within s (omega arith)) i;
        together = λ s i. at_set (λ s y. s < n + 1 → steps_from (step_lines es m) s ≡ map end_of (take y.step_count (drop y.first_step es))) ss n x l (λ _. g.sources n (omega arith)) s (λ ne j. g.together s (omega arith)) i;
        newest = λ s i. at_set (λ s y. (s < n + 1) × (last_from (step_lines es m) ≤ s) × (0 < y.step_count) → (s ≡ last_from (step_lines es m)) × (y.first_step + y.step_count ≡ m)) ss n x l
            (λ j. absurd (omega (arith, j.2))) s (λ ne j. g.newest s (omega (arith, j.0), j.1, j.2)) i;
      }
    where
      starts_then : (b : Bool) → Starts (set ss n (fresh b letter n)) (n + 1) (k + bool_byte b)
      starts_then b =
          let x : State = fresh b letter n in
          let len : 0 + length (state_lines ss n) ≡ n = omega (arith, length_front state_line ss n (omega arith)) in
          ap (starts_from 0) (state_lines_more ss n x l)
          ∙ (starts_more 0 (state_lines ss n) (state_line x)
          ∙ (ap (λ (z : ℕ). starts_from 0 (state_lines ss n) ++ cond b (z ∷ []) []) len
          ∙ (ap (λ (zs : List ℕ). zs ++ cond b (n ∷ []) []) g.starts ∙ front b)))
        where
          front : (c : Bool) → map start_at (take k ss) ++ cond c (n ∷ []) [] ≡ map start_at (take (k + bool_byte c) (set ss n (fresh b letter n)))
          front true =
              let x : State = fresh b letter n in
              let kept_front = ap (map start_at) (take-set-le k ss n x h) in
              let nth_is : (row (set ss n x) k).nth_start ≡ n = at_set (λ _ y. y.nth_start ≡ n) ss n x l refl k v in
              sym (map_more start_at (set ss n x) k blank_state (omega (arith, length-set ss n x))
              ∙ (ap (λ (zs : List ℕ). zs ++ ((row (set ss n x) k).nth_start ∷ [])) kept_front
              ∙ ap (λ (z : ℕ). map start_at (take k ss) ++ (z ∷ [])) nth_is))
          front false =
              let x : State = fresh b letter n in
              let same : k + 0 ≡ k = omega arith in
              append-nil (map start_at (take k ss)) ∙ sym (ap (λ (i : ℕ). map start_at (take i (set ss n x))) same ∙ ap (map start_at) (take-set-le k ss n x h))

  -- a step is written behind the steps so far
  pub written : (e : Step) → Rows ss (set es m e) n m k
  written e =
      let q : step_lines (set es m e) m ≡ step_lines es m = ap (map step_line) (take-set es m e) in
      record {
        starts = g.starts;
        letters = g.letters;
        ends = λ i j. subst (λ (d : Step). d.to < n) (sym (get_or-set_other es m i e blank_step (λ (p : i ≡ m). omega arith))) (g.ends i j);
        sources = λ s j. ap (λ (ls : List StepLine). steps_from ls s) q ∙ g.sources s j;
        within = g.within;
        together = λ s j. ap (λ (ls : List StepLine). steps_from ls s) q ∙ (g.together s j ∙ sym (ap (map end_of) (part_kept es (row ss s).first_step (row ss s).step_count m e (g.within s j))));
        newest = subst (λ (ls : List StepLine). (s : ℕ) → (s < n) × (last_from ls ≤ s) × (0 < (row ss s).step_count) → (s ≡ last_from ls) × ((row ss s).first_step + (row ss s).step_count ≡ m)) (sym q) g.newest;
      }

  -- and the record of its source says so
  pub joined : (f t : ℕ) → last_from (step_lines es m) ≤ f → f < n → t < n → n ≤ length ss → m < length es
      → Rows (set ss f (stepped (row ss f) m)) (set es m (record { from = f; to = t })) n (m + 1) k
  joined f t low fn tn nl ml =
      let e : Step = record { from = f; to = t } in
      let x : State = row ss f in
      let y : State = stepped x m in
      let ls = step_lines es m in
      let ls' = step_lines (set es m e) (m + 1) in
      let more : ls' ≡ ls ++ (step_line e ∷ []) = step_lines_more es m e ml in
      let last : last_from ls' ≡ f = ap last_from more ∙ last_more ls (step_line e) in
      let at_end : y.first_step + x.step_count ≡ m = placed x.step_count x.first_step m (λ h. (g.newest f (fn, low, h)).1) in
      record {
        starts = ap (starts_from 0) (same_front state_line ss f n y blank_state refl) ∙ (g.starts ∙ sym (same_front start_at ss f k y blank_state refl));
        letters = λ s. at_set (λ s z. s < n → z.letter < 256) ss f y (omega arith) (g.letters f) s (λ _. g.letters s);
        ends = λ i j. elim (cases_eq i m) [
          | inl p ↦ subst (λ (i : ℕ). (get_or (set es m e) i blank_step).to < n) (sym p) (subst (λ (d : Step). d.to < n) (sym (get_or-set_same es m e blank_step ml)) tn)
          | inr p ↦ subst (λ (d : Step). d.to < n) (sym (get_or-set_other es m i e blank_step p)) (g.ends i (omega arith))
        ];
        sources = λ s j. ap (λ (zs : List StepLine). steps_from zs s) more ∙ (steps_other ls f t s (λ (p : f ≡ s). omega arith) ∙ g.sources s j);
        within = λ s. at_set (λ s z. s < n → z.first_step + z.step_count ≤ m + 1) ss f y (omega arith) (λ _. omega (arith, at_end)) s (λ _ i. omega (arith, g.within s i));
        together = λ s. at_set (λ s z. s < n → steps_from ls' s ≡ map end_of (take z.step_count (drop z.first_step (set es m e)))) ss f y (omega arith)
            (λ i. ap (λ (zs : List StepLine). steps_from zs f) more
            ∙ (steps_same ls f t
            ∙ (ap (λ (zs : List ℕ). zs ++ (t ∷ [])) (g.together f fn ∙ sym (ap (map end_of) (part_placed es x.step_count x.first_step m)))
            ∙ sym (ap (map end_of) (part_more es y.first_step x.step_count m e at_end ml) ∙ map_push end_of (take x.step_count (drop y.first_step es)) e))))
            s
            (λ ne i. ap (λ (zs : List StepLine). steps_from zs s) more
            ∙ (steps_other ls f t s (λ (p : f ≡ s). ne (sym p))
            ∙ (g.together s i ∙ sym (ap (map end_of) (part_kept es (row ss s).first_step (row ss s).step_count m e (g.within s i))))));
        newest = λ s. at_set (λ s z. (s < n) × (last_from ls' ≤ s) × (0 < z.step_count) → (s ≡ last_from ls') × (z.first_step + z.step_count ≡ m + 1)) ss f y (omega arith)
            (λ _. (sym last, omega (arith, at_end)))
            s
            (λ ne j. let w = g.newest s (j.0, omega (arith, j.1, last, low), j.2) in absurd (ne (omega (arith, w.0, j.1, last, low))));
      }
