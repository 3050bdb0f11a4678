-- Which call a call of the list means, and which answer. Assumes nothing.
use Rattle.std.specs.Prelude.{ℕ, cond, List, [], ◌∷◌, length, replicate, Some, None, Ok, Err, Option, Result, nat_le, nat_lt, slice_get}
use Rattle.meaning.specs.Bytes.{Text}
use Rattle.meaning.specs.Machines.{Meaning, Lawful}
use Rattle.meaning.specs.Calls.{Machine, table, round, stuck, other, Call as Meant, opening, entering, loading, filling, beginning, scanning, searching, Answer as Given}
use Rattle.replay.specs.declared.call.Ground.{Ground}
use Rattle.replay.specs.declared.call.Ground.TheVariants.{Table, Round, Other}
use Rattle.replay.specs.declared.call.Pile.{Pile}
use Rattle.replay.specs.declared.call.Call.{Call}
use Rattle.replay.specs.declared.call.Call.TheVariants.{Open, Enter, Load, Fill, Begin, Scan, Search}
use Rattle.replay.specs.declared.answer.Answer.{Answer}
use Rattle.replay.specs.declared.answer.Answer.TheVariants.{Opened, Entered, Loaded, Filled, Begun, Scanned, Searched, NoSuchObject, ManyLayers}
use Rattle.replay.specs.Objects.{Lent}

-- a call that is made, or the answer that comes where none is made: where an object of that number is not there
abbrev pub MeantCall : Type 0
MeantCall = Result Meant Answer

-- the call where the number is below a count
abbrev pub if_below : ℕ → ℕ → MeantCall → MeantCall
if_below n count c = cond (nat_lt n count) c (Err NoSuchObject)

-- the call where there is such an object
abbrev pub if_there : {X : Type 0} → Option X → (X → Meant) → MeantCall
if_there None f = Err NoSuchObject
if_there (Some x) f = Ok (f x)

-- ---- the calls of each kind

-- on a sheet
abbrev pub opening_at : Lent → ℕ → Text → MeantCall
opening_at l s t = if_below s l.sheets (Ok (opening s t))

-- on a sheet
abbrev pub entering_at : Lent → ℕ → Text → MeantCall
entering_at l s t = if_below s l.sheets (Ok (entering s t))

-- on a sheet and a table, with the rooms of the table
abbrev pub loading_at : Lent → ℕ → ℕ → Text → MeantCall
loading_at l s t file = if_below s l.sheets (if_there (slice_get l.rooms t) (λ r. loading s t r file))

-- on a chart and a sheet, with the areas of the chart
abbrev pub filling_at : Lent → ℕ → ℕ → ℕ → MeantCall
filling_at l c s k = if_below s l.sheets (if_there (slice_get l.areas c) (λ a. filling c s k a))

-- on a chart
abbrev pub beginning_at : Lent → ℕ → MeantCall
beginning_at l c = if_below c (length l.areas) (Ok (beginning c))

-- on a chart
abbrev pub scanning_at : Lent → ℕ → ℕ → MeantCall
scanning_at l c a = if_below c (length l.areas) (Ok (scanning c a))

-- ---- the machine of a look for a breach

-- under stuck layers for these signals, from below up
abbrev pub layered : Machine → List ℕ → Machine
layered m [] = m
layered m (s ∷ ss) = layered (stuck m s) ss

-- at most three layers
abbrev pub under : List ℕ → Result Machine Answer → Result Machine Answer
under ss (Ok m) = cond (nat_le (length ss) 3) (Ok (layered m ss)) (Err ManyLayers)
under ss (Err a) = Err a

-- a table that is there, a round, or a machine of the caller's, by what it means and its laws
abbrev pub ground : {M : Type 0} → (mean : M → Meaning) → ((m : M) → Lawful (mean m)) → ℕ → Ground M → Result Machine Answer
ground mean laws tables (Table t) = cond (nat_lt t tables) (Ok (table t)) (Err NoSuchObject)
ground mean laws tables (Round w) = Ok (round w.items)
ground mean laws tables (Other m) = Ok (other (mean m) (laws m))

-- the ground under its layers
abbrev pub machine : {M : Type 0} → (mean : M → Meaning) → ((m : M) → Lawful (mean m)) → ℕ → Pile M → Result Machine Answer
machine mean laws tables p = under p.stuck.items (ground mean laws tables p.ground)

-- looking in areas of these lengths, whose walk area holds zeros
abbrev pub searching_with : ℕ → ℕ → ℕ → Result Machine Answer → MeantCall
searching_with c pairs walk (Ok m) = Ok (searching c m pairs (replicate walk 0))
searching_with c pairs walk (Err a) = Err a

-- with a chart, over such a machine
abbrev pub searching_at : {M : Type 0} → (mean : M → Meaning) → ((m : M) → Lawful (mean m)) → Lent → ℕ → Pile M → ℕ → ℕ → MeantCall
searching_at mean laws l c p pairs walk = if_below c (length l.areas) (searching_with c pairs walk (machine mean laws (length l.rooms) p))

-- ---- any call

-- which call it is, with its values; or why none is made
abbrev pub meant : {M : Type 0} → (mean : M → Meaning) → ((m : M) → Lawful (mean m)) → Lent → Call M → MeantCall
meant mean laws l (Open s t) = opening_at l s t.items
meant mean laws l (Enter s t) = entering_at l s t.items
meant mean laws l (Load s t file) = loading_at l s t file.items
meant mean laws l (Fill c s k) = filling_at l c s k
meant mean laws l (Begin c) = beginning_at l c
meant mean laws l (Scan c a) = scanning_at l c a
meant mean laws l (Search c p pairs walk) = searching_at mean laws l c p pairs walk

-- the answer that was given to a call, if it is one of its kind
abbrev pub given : (c : Meant) → Answer → Option (Given c)
given (opening s t) (Opened x) = Some x
given (opening s t) _ = None
given (entering s t) (Entered x) = Some x
given (entering s t) _ = None
given (loading s t r file) (Loaded x) = Some x
given (loading s t r file) _ = None
given (filling c s k a) (Filled x) = Some x
given (filling c s k a) _ = None
given (beginning c) (Begun x) = Some x
given (beginning c) _ = None
given (scanning c a) (Scanned x) = Some x
given (scanning c a) _ = None
given (searching c m p w) (Searched x v) = Some (x, v.items)
given (searching c m p w) _ = None
