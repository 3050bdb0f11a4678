-- The pairs kept so far, and how far the exploration of walks has come. Assumes nothing.
use Rattle.std.specs.Prelude.{◌≡◌, ℕ, zero, suc, ◌+◌, ◌<◌, ◌≤◌, Bool, true, false, ◌⊎◌, List, [], ◌∷◌, ◌++◌, length, get_or, ◌≢◌, slice_index, slice_index_or, slice_set}
use Rattle.std.specs.declared.ops.ControlFlow.{ControlFlow}
use Rattle.std.specs.declared.ops.ControlFlow.TheVariants.{Continue, Break}
use Rattle.meaning.specs.Machines.{Meaning, Among}
use Rattle.meaning.specs.Walks.{Walk, last, word}
use Rattle.pairs.specs.Readers.{Reader, standing_of, after}
use Rattle.pairs.specs.declared.pair.Pair.{Pair}
use Rattle.pairs.specs.declared.level.LastStep.{LastStep}

-- the level that is being filled: its first entry, how many pairs are kept in all, whether one found no room, and how many states its walks have
pub record Tally : Type 0 where
  pub base : ℕ
  pub count : ℕ
  pub full : Bool
  pub depth : ℕ

-- what trying the starts came to: a start that is itself a breach, or none
abbrev pub Tried : Type 0
Tried = ControlFlow ℕ (Unit {0})

-- what leaving entries came to: an entry with a state behind it that ends a breach, or none
abbrev pub Found : Type 0
Found = ControlFlow LastStep (Unit {0})

-- an entry that holds nothing
abbrev pub no_pair : Pair
no_pair = record { state = 0; standing = 0; parent = 0; depth = 0 }

-- the state of entry i
abbrev pub state_at : List Pair → ℕ → ℕ
state_at E i = (get_or E i no_pair).state

-- the standing of entry i
abbrev pub standing_at : List Pair → ℕ → ℕ
standing_at E i = (get_or E i no_pair).standing

-- the entry before entry i on its walk
abbrev pub parent_at : List Pair → ℕ → ℕ
parent_at E i = (get_or E i no_pair).parent

-- how many states the walk to entry i has
abbrev pub depth_at : List Pair → ℕ → ℕ
depth_at E i = (get_or E i no_pair).depth

-- the standing that follows entry i
abbrev pub next_at : Meaning → Reader → List Pair → ℕ → ℕ
next_at m r E i = r.next (standing_at E i) (m.letter (state_at E i))

-- whether the state t behind the standing q ends a breach
abbrev pub bad : Meaning → Reader → ℕ → ℕ → Bool
bad m r t q = r.says (r.next q (m.letter t))

-- one of the first n entries is the pair of s and q
pub record Has (E : List Pair) (n s q : ℕ) : Type 0 where
  pub at : ℕ
  pub below : at < n
  pub state : state_at E at ≡ s
  pub standing : standing_at E at ≡ q

-- p is a start, or a step from entry `p.parent`
abbrev pub Comes : Meaning → Reader → List Pair → ℕ → Pair → Type 0
Comes m r E i p =
    (Among p.state m.starts × (p.standing ≡ 0) × (p.depth ≡ 1))
    ⊎ ((p.parent < i) × Among p.state (m.steps (state_at E p.parent)) × (p.standing ≡ next_at m r E p.parent) × (p.depth ≡ depth_at E p.parent + 1))

-- the area is full, and a walk of at most j states has a pair that is not kept
pub record Over (m : Meaning) (r : Reader) (E : List Pair) (n j : ℕ) : Type 0 where
  pub full : n ≡ length E
  pub walk : List ℕ
  pub walks : Walk m walk
  pub short : length walk ≤ j
  pub missing : Has E n (last walk) (standing_of m r walk) → ⊥

-- n pairs are kept: those from `base` on have depth j, those before less
pub record Stage (m : Meaning) (r : Reader) (rows base : ℕ) (E : List Pair) (n : ℕ) (over : Bool) (j : ℕ) : Type 0 where
  pub fits : n ≤ length E
  pub begun : base ≤ n
  pub comes : (i : ℕ) → i < n → Comes m r E i (slice_index_or E i no_pair)
  pub inside : (i : ℕ) → i < n → (state_at E i < m.count) × (standing_at E i < rows)
  pub low : (i : ℕ) → i < n → depth_at E i ≤ i + 1
  pub old : (i : ℕ) → i < base → depth_at E i < j
  pub fresh : (i : ℕ) → base ≤ i → i < n → depth_at E i ≡ j
  pub differ : (i k : ℕ) → i < k → k < n → state_at E i ≡ state_at E k → standing_at E i ≢ standing_at E k
  pub overflow : over ≡ true → Over m r E n j

-- the first n entries stay
pub record Grows (E : List Pair) (n : ℕ) (F : List Pair) (k : ℕ) : Type 0 where
  pub more : n ≤ k
  pub same_length : length F ≡ length E
  pub stays : (i : ℕ) → i < n → slice_index_or F i no_pair ≡ slice_index_or E i no_pair

-- all starts are kept
abbrev pub StartsKept : Meaning → List Pair → ℕ → Type 0
StartsKept m E n = (s : ℕ) → Among s m.starts → Has E n s 0

-- no start is a breach
abbrev pub StartsGood : Meaning → Reader → Type 0
StartsGood m r = (s : ℕ) → Among s m.starts → bad m r s 0 ≡ false

-- all steps from entry i are kept
abbrev pub KeptFrom : Meaning → Reader → List Pair → ℕ → ℕ → Type 0
KeptFrom m r E n i = (t : ℕ) → Among t (m.steps (state_at E i)) → Has E n t (next_at m r E i)

-- no step from entry i ends a breach
abbrev pub GoodFrom : Meaning → Reader → List Pair → ℕ → Type 0
GoodFrom m r E i = (t : ℕ) → Among t (m.steps (state_at E i)) → bad m r t (next_at m r E i) ≡ false

-- every walk of at most j states has its pair among the first n
abbrev pub Covered : Meaning → Reader → List Pair → ℕ → ℕ → Type 0
Covered m r E n j = (xs : List ℕ) → Walk m xs → length xs ≤ j → Has E n (last xs) (standing_of m r xs)

-- between two levels: entries from `lo` on have yet to be left
pub record Between (m : Meaning) (r : Reader) (E : List Pair) (lo n j : ℕ) : Type 0 where
  pub starts_kept : StartsKept m E n
  pub starts_good : StartsGood m r
  pub kept : (i : ℕ) → i < lo → KeptFrom m r E n i
  pub good : (i : ℕ) → i < lo → GoodFrom m r E i
  pub covered : Covered m r E n j
  pub clean : (xs : List ℕ) → Walk m xs → length xs ≤ j → r.says (after r (word m xs)) ≢ true

-- the states that lead to entry i, which has depth d
abbrev pub chain : List Pair → ℕ → ℕ → List ℕ
chain E zero i = []
chain E (suc d) i = chain E d (parent_at E i) ++ (state_at E i ∷ [])

-- the present level: its first entry and its number of states; the count of all kept, and whether one found no room
abbrev pub StageOf : Meaning → Reader → ℕ → List Pair → Tally → Type 0
StageOf m r rows E k = Stage m r rows k.base E k.count k.full k.depth

-- what keeping p does
pub record Keeps (E : List Pair) (k : Tally) (p : Pair) (F : List Pair) (k' : Tally) : Type 0 where
  pub base : k'.base ≡ k.base
  pub depth : k'.depth ≡ k.depth
  pub ways :
      (Has E k.count p.state p.standing × (F ≡ E) × (k'.count ≡ k.count) × (k'.full ≡ k.full))
      ⊎ ((Has E k.count p.state p.standing → ⊥) × (k.count < length E) × (F ≡ slice_set E k.count p) × (k'.count ≡ k.count + 1) × (k'.full ≡ k.full))
      ⊎ ((Has E k.count p.state p.standing → ⊥) × (k.count ≡ length E) × (F ≡ E) × (k'.count ≡ k.count) × (k'.full ≡ true))

-- from one area to another with no entry lost and nothing forgotten
pub record Goes_on (m : Meaning) (r : Reader) (rows : ℕ) (E : List Pair) (k : Tally) (F : List Pair) (k' : Tally) : Type 0 where
  pub stage : StageOf m r rows F k'
  pub base : k'.base ≡ k.base
  pub depth : k'.depth ≡ k.depth
  pub grows : Grows E k.count F k'.count
  pub sticky : k'.full ≡ false → k.full ≡ false

-- a step to t from entry i ends a breach
pub record Breaks (m : Meaning) (r : Reader) (rows : ℕ) (E : List Pair) (k : Tally) (i t : ℕ) (F : List Pair) (k' : Tally) : Type 0 where
  pub step : Among t (m.steps (state_at E i))
  pub breach : bad m r t (next_at m r E i) ≡ true
  pub goes : Goes_on m r rows E k F k'

-- what leaving entry i does
pub record Left (m : Meaning) (r : Reader) (rows : ℕ) (E : List Pair) (k : Tally) (i : ℕ) (F : List Pair) (k' : Tally) : Type 0 where
  pub goes : Goes_on m r rows E k F k'
  pub kept : k'.full ≡ false → KeptFrom m r F k'.count i
  pub good : GoodFrom m r F i

-- what leaving entry i comes to: a breach is ended there, or it is left
abbrev pub Leaves : Meaning → Reader → ℕ → List Pair → Tally → ℕ → List Pair → Tally → Found → Type 0
Leaves m r rows E k i F k' (Break b) = (b.entry ≡ i) × Breaks m r rows E k i b.state F k'
Leaves m r rows E k i F k' (Continue _) = Left m r rows E k i F k'

-- the entries from low on, below x, were left
pub record LevelPart (m : Meaning) (r : Reader) (rows : ℕ) (E : List Pair) (k : Tally) (low x : ℕ) (F : List Pair) (k' : Tally) : Type 0 where
  pub goes : Goes_on m r rows E k F k'
  pub kept : k'.full ≡ false → (i : ℕ) → low ≤ i → i < x → KeptFrom m r F k'.count i
  pub good : (i : ℕ) → low ≤ i → i < x → GoodFrom m r F i

-- what leaving the entries from low on comes to
abbrev pub Levels : Meaning → Reader → ℕ → List Pair → Tally → ℕ → List Pair → Tally → Found → Type 0
Levels m r rows E k low F k' (Break b) = (low ≤ b.entry) × (b.entry < k.base) × Breaks m r rows E k b.entry b.state F k'
Levels m r rows E k low F k' (Continue _) = LevelPart m r rows E k low k.base F k'

-- what the starts do
pub record Begun (m : Meaning) (r : Reader) (rows : ℕ) (E : List Pair) (F : List Pair) (k : Tally) : Type 0 where
  pub stage : StageOf m r rows F k
  pub base : k.base ≡ 0
  pub depth : k.depth ≡ 1
  pub same_length : length F ≡ length E
  pub kept : k.full ≡ false → StartsKept m F k.count
  pub good : StartsGood m r

-- what trying the starts comes to
abbrev pub Begins : Meaning → Reader → ℕ → List Pair → List Pair → Tally → Tried → Type 0
Begins m r rows E F k (Break s) = Among s m.starts × (bad m r s 0 ≡ true)
Begins m r rows E F k (Continue _) = Begun m r rows E F k

-- each of the first n entries has depth 1, or stands behind its parent
abbrev pub Rooted : List Pair → ℕ → Type 0
Rooted E n = (i : ℕ) → i < n → (depth_at E i ≡ 1) ⊎ ((parent_at E i < i) × (depth_at E i ≡ depth_at E (parent_at E i) + 1))

-- of the states ts, behind the standing q, those below number x were tried: kept, or one found no room; none ends a breach
pub record Tries (m : Meaning) (r : Reader) (rows : ℕ) (E : List Pair) (k : Tally) (ts : List ℕ) (q : ℕ) (F : List Pair) (k' : Tally) (x : ℕ) : Type 0 where
  pub goes : Goes_on m r rows E k F k'
  pub kept : k'.full ≡ false → (y : ℕ) → y < x → Has F k'.count (slice_index ts y) q
  pub good : (y : ℕ) → y < x → bad m r (slice_index ts y) q ≡ false

-- how far an exploration has come before it keeps a pair
abbrev pub nothing_kept : Tally
nothing_kept = record { base = 0; count = 0; full = false; depth = 1 }
