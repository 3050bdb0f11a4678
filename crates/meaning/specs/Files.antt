-- Lines of a file, what they say and set, and the first bad one. Assumes nothing.
use Rattle.std.specs.Prelude.{◌≡◌, ℕ, ◌+◌, min, Bool, true, false, cond, not, ◌&&◌, ◌⊎◌, List, [], ◌∷◌, ◌++◌, length, Some, None, Ok, Err, codes, Option, Result, ◌==◌, nat_le, nat_lt}
use Rattle.std.specs.Str.{bytes_eq}
use Rattle.meaning.specs.declared.refusals.NamesFault.TheVariants.{Unfit}
use Rattle.meaning.specs.declared.refusals.SheetFault.{SheetFault}
use Rattle.meaning.specs.declared.refusals.TableFault.TheVariants.{Form, NoRoom}
use Rattle.meaning.specs.declared.refusals.LineFault.{LineFault}
use Rattle.meaning.specs.declared.refusals.LineFault.TheVariants.{Names, Sheet, Table}
use Rattle.meaning.specs.declared.refusals.FileFault.{FileFault}
use Rattle.meaning.specs.Bytes.{Text, is_empty, parted, after, number}
use Rattle.meaning.specs.Names.{fit, names_of}
use Rattle.meaning.specs.Entering.{RightEntering}
use Rattle.meaning.specs.Kinds.{State, Step, Lines}

-- a line: ended by its LF, or cut off by the end of the file
pub data Line : Type 0 where
  ended cut : Text → Line

-- of a file parted at its LFs, all parts but the last are ended; the last is no line if it is empty
abbrev pub lines_of : List Text → List Line
lines_of [] = []
lines_of (t ∷ []) = cond (is_empty t) [] (cut t ∷ [])
lines_of (t ∷ (u ∷ us)) = ended t ∷ lines_of (u ∷ us)

-- the lines of a file; a file without bytes has one, cut off
abbrev pub lines : Text → List Line
lines [] = cut [] ∷ []
lines (b ∷ bs) = lines_of (parted 10 (b ∷ bs))

-- what a line says: `signals,NAMES`, `rule,TEXT`, `state,NUMBER,START,LETTER`, `step,FROM,TO`
pub data Entry : Type 0 where
  signals rule : Text → Entry
  state : ℕ → ℕ → ℕ → Entry
  step : ℕ → ℕ → Entry

-- what is made of the number of a field, where it has one
abbrev pub with_number : {X : Type 0} → Option ℕ → (ℕ → Option X) → Option X
with_number None go = None
with_number (Some n) go = go n

-- what is made of a value, where there is one
abbrev pub mapped : {X Y : Type 0} → (X → Y) → Option X → Option Y
mapped f None = None
mapped f (Some x) = Some (f x)

-- the first of two values that is there
abbrev pub or_else : {X : Type 0} → Option X → Option X → Option X
or_else None y = y
or_else (Some x) y = Some x

-- the entry of three fields
abbrev pub step_fields : Text → Text → Text → Option Entry
step_fields k f t = cond (bytes_eq k (codes "step")) (with_number (number f) (λ f'. with_number (number t) (λ t'. Some (step f' t')))) None

-- the entry of four fields
abbrev pub state_fields : Text → Text → Text → Text → Option Entry
state_fields k n s a =
    cond (bytes_eq k (codes "state"))
    (with_number (number n) (λ n'. with_number (number s) (λ s'. with_number (number a) (λ a'. Some (state n' s' a')))))
    None

-- the entry of the fields of a line, by how many they are
abbrev pub of_fields : List Text → Option Entry
of_fields [] = None
of_fields (k ∷ []) = None
of_fields (k ∷ (a ∷ [])) = None
of_fields (k ∷ (a ∷ (b ∷ []))) = step_fields k a b
of_fields (k ∷ (a ∷ (b ∷ (c ∷ [])))) = state_fields k a b c
of_fields (k ∷ (a ∷ (b ∷ (c ∷ (d ∷ ds))))) = None

-- the entry of a line's bytes: NAMES and TEXT run to the end of the line, the other fields are parted by commas
abbrev pub entry : Text → Option Entry
entry t = or_else (mapped signals (after (codes "signals,") t)) (or_else (mapped rule (after (codes "rule,") t)) (of_fields (parted 44 t)))

-- what the lines so far have set; `opened`: the `signals` line has come
pub record Content : Type 0 where
  pub opened : Bool
  pub names : List Text
  pub rules : List Text
  pub states : List State
  pub steps : List Step

-- nothing has been set
abbrev pub nothing : Content
nothing = record { opened = false; names = []; rules = []; states = []; steps = [] }

-- the source of the last step so far
abbrev pub last_from : List Step → ℕ
last_from [] = 0
last_from (e ∷ []) = e.from
last_from (e ∷ (d ∷ ds)) = last_from (d ∷ ds)

-- an entry in its place: one `signals` line, then rules, states, steps; NUMBER counts on, START is 0 or 1, LETTER 0 to 255; FROM never falls, and both ends are declared
abbrev pub in_place : Content → Entry → Bool
in_place c (signals t) = not c.opened
in_place c (rule t) = c.opened && (is_empty c.states && is_empty c.steps)
in_place c (state n s a) = c.opened && (is_empty c.steps && (n == length c.states && (nat_le s 1 && nat_le a 255)))
in_place c (step f t) = c.opened && (nat_le (last_from c.steps) f && (nat_lt f (length c.states) && nat_lt t (length c.states)))

-- an entry, where it is in its place
abbrev pub placed : Content → Option Entry → Option Entry
placed c None = None
placed c (Some e) = cond (in_place c e) (Some e) None

-- the entry of a line that keeps its form
abbrev pub formed : Content → Line → Option Entry
formed c (ended t) = placed c (entry t)
formed c (cut t) = None

-- what an entry adds
abbrev pub added : Content → Entry → Content
added c (signals t) = record { opened = true; names = names_of t; rules = c.rules; states = c.states; steps = c.steps }
added c (rule t) = record { opened = c.opened; names = c.names; rules = c.rules ++ (t ∷ []); states = c.states; steps = c.steps }
added c (state n s a) = record { opened = c.opened; names = c.names; rules = c.rules; states = c.states ++ (record { start = (s == 1); letter = a } ∷ []); steps = c.steps }
added c (step f t) = record { opened = c.opened; names = c.names; rules = c.rules; states = c.states; steps = c.steps ++ (record { from = f; to = t } ∷ []) }

-- what an entry adds, where there is one
abbrev pub added_if : Content → Option Entry → Content
added_if c None = c
added_if c (Some e) = added c e

-- all that good lines set, behind those that set c
abbrev pub content_from : Content → List Line → Content
content_from c [] = c
content_from c (l ∷ ls) = content_from (added_if c (formed c l)) ls

-- what the lines of a file set
abbrev pub content : Text → Content
content file = content_from nothing (lines file)

-- the lines of the table that a file sets
abbrev pub lines_in : Content → Lines
lines_in c = record { states = c.states; steps = c.steps }

-- the areas of a table, by their lengths
pub record Rooms : Type 0 where
  pub states : ℕ
  pub steps : ℕ

-- the room for states: the area's length, at most 4,096
abbrev pub state_room : Rooms → ℕ
state_room r = min 4096 r.states

-- the room for steps: the area's length, at most 16,384
abbrev pub step_room : Rooms → ℕ
step_room r = min 16384 r.steps

-- 18: a line breaks its form: its first word, number of fields, order, or a number in it; or it is cut off
abbrev pub LineBreaksForm : Content → Line → Type 0
LineBreaksForm c l = formed c l ≡ None

-- a state or a step finds room behind those of c
abbrev pub has_room : Rooms → Content → Entry → Bool
has_room r c (signals t) = true
has_room r c (rule t) = true
has_room r c (state n s a) = nat_lt (length c.states) (state_room r)
has_room r c (step f t) = nat_lt (length c.steps) (step_room r)

-- 19: a state or a step is more than the table's areas or limits hold
abbrev pub FindsNoRoom : Rooms → Content → Entry → Type 0
FindsNoRoom r c e = has_room r c e ≡ false

-- what is said of a rule's text; nothing if it is taken
abbrev pub said_of : Result ℕ SheetFault → Option LineFault
said_of (Ok n) = None
said_of (Err e) = Some (Sheet e)

-- what is said, behind the lines that set c, of an entry that keeps its form; none if it is good
abbrev pub SaidOfEntry : Rooms → Content → Entry → Option LineFault → Type 0
SaidOfEntry r c (signals t) v = v ≡ cond (fit t) None (Some (Names Unfit))
SaidOfEntry r c (rule t) v = ∥ ((a : Result ℕ SheetFault) × RightEntering c.names c.rules t a × (v ≡ said_of a)) ∥₁
SaidOfEntry r c (state n s a) v = v ≡ cond (has_room r c (state n s a)) None (Some (Table NoRoom))
SaidOfEntry r c (step f t) v = v ≡ cond (has_room r c (step f t)) None (Some (Table NoRoom))

-- what is said of a line by its entry: without one it breaks its form, and is refused by 18 before all else
abbrev pub SaidOfLine : Rooms → Content → Option Entry → Option LineFault → Type 0
SaidOfLine r c None v = v ≡ Some (Table Form)
SaidOfLine r c (Some e) v = SaidOfEntry r c e v

-- every line from here on is good
abbrev pub AllGood : Rooms → Content → List Line → Type 0
AllGood r c [] = Unit {0}
AllGood r c (l ∷ ls) = SaidOfLine r c (formed c l) None × AllGood r (added_if c (formed c l)) ls

-- the first bad line from here on, where the next one is line n, and what is said of it
abbrev pub FirstBad : Rooms → Content → ℕ → List Line → FileFault → Type 0
FirstBad r c n [] x = ⊥
FirstBad r c n (l ∷ ls) x =
    ((x.line ≡ n) × SaidOfLine r c (formed c l) (Some x.fault))
    ⊎ (SaidOfLine r c (formed c l) None × FirstBad r (added_if c (formed c l)) (n + 1) ls x)

-- a loading is accepted if every line is good; else it is refused by the first bad line, counted from 1
abbrev pub RightLoading : Rooms → Text → Result (Unit {0}) FileFault → Type 0
RightLoading r file (Ok u) = AllGood r nothing (lines file)
RightLoading r file (Err x) = FirstBad r nothing 1 (lines file) x
