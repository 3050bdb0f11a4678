-- The call that a line of a log tells. Assumes nothing.
use Rattle.std.specs.Prelude.{ℕ, ◌+◌, cond, List, [], ◌∷◌, map, take, drop, Some, None, Option, ◌==◌, nat_lt, codes, option_map, option_and_then, position}
use Rattle.meaning.specs.Bytes.{Text, is_empty, parted, after, number}
use Rattle.replay.specs.declared.call.Ground.{Ground}
use Rattle.replay.specs.declared.call.Ground.TheVariants.{Table, Round, Other}
use Rattle.replay.specs.declared.call.Call.{Call}
use Rattle.replay.specs.declared.call.Call.TheVariants.{Open, Enter, Load, Fill, Begin, Scan, Search}
use Rattle.logs.specs.declared.machine.NoMachine.{NoMachine}

-- ---- calls by what they hold

-- what a machine stands on: a table by its number, a round of letters, or another machine, which no line tells
pub data Base : Type 0 where
  on_table : ℕ → Base
  on_round : List ℕ → Base
  on_another : Base

-- a call as a line tells it
pub data Told : Type 0 where
  opens : (sheet : ℕ) (names : Text) → Told
  enters : (sheet : ℕ) (rule : Text) → Told
  loads : (sheet table : ℕ) (file : Text) → Told
  fills : (chart sheet rule : ℕ) → Told
  begins : (chart : ℕ) → Told
  scans : (chart letter : ℕ) → Told
  -- in areas of these lengths, over a machine under stuck layers for these signals
  finds : (chart pairs walk : ℕ) (stuck : List ℕ) (base : Base) → Told

-- what the ground of a call's machine is
abbrev pub base : Ground NoMachine → Base
base (Table t) = on_table t
base (Round w) = on_round w.items
base (Other m) = on_another

-- what a call of a list holds
abbrev pub told : Call NoMachine → Told
told (Open s t) = opens s t.items
told (Enter s t) = enters s t.items
told (Load s y file) = loads s y file.items
told (Fill c s k) = fills c s k
told (Begin c) = begins c
told (Scan c a) = scans c a
told (Search c p pairs walk) = finds c pairs walk p.stuck.items (base p.ground)

-- ---- fields

-- the part before the first byte c, and what follows that byte
abbrev pub cut_at : ℕ → Text → Option (Text × Text)
cut_at c t = option_map (λ i. (take i t, drop (i + 1) t)) (position (λ b. b == c) t)

-- a number, where it is below a limit
abbrev pub if_less : ℕ → ℕ → Option ℕ
if_less limit n = cond (nat_lt n limit) (Some n) None

-- a number below 65,536
abbrev pub small : Text → Option ℕ
small t = option_and_then (if_less 65536) (number t)

-- a number below 256
abbrev pub byte : Text → Option ℕ
byte t = option_and_then (if_less 256) (number t)

-- a number below 65,536, and what follows the comma behind it
abbrev pub numbered : Text → Option (ℕ × Text)
numbered t = option_and_then (λ (p : Text × Text). option_map (λ (n : ℕ). (n, p.1)) (small p.0)) (cut_at 44 t)

-- each part a number below 256
abbrev pub bytes_in : List Text → Option (List ℕ)
bytes_in [] = Some []
bytes_in (p ∷ ps) = option_and_then (λ (n : ℕ). option_map (λ (ns : List ℕ). n ∷ ns) (bytes_in ps)) (byte p)

-- numbers below 256, parted by one space; none where the text is empty
abbrev pub bytes : Text → Option (List ℕ)
bytes t = cond (is_empty t) (Some []) (bytes_in (parted 32 t))

-- ---- what follows the word of a line

-- SHEET,NAMES
abbrev pub opening : Text → Option Told
opening t = option_map (λ (p : ℕ × Text). opens p.0 p.1) (numbered t)

-- SHEET,RULE
abbrev pub entering : Text → Option Told
entering t = option_map (λ (p : ℕ × Text). enters p.0 p.1) (numbered t)

-- a file on one line: a semicolon stands for each LF
abbrev pub unfolded : Text → Text
unfolded t = map (λ (b : ℕ). cond (b == 59) 10 b) t

-- SHEET,TABLE,FILE
abbrev pub loading : Text → Option Told
loading t = option_and_then (λ (p : ℕ × Text). option_map (λ (q : ℕ × Text). loads p.0 q.0 (unfolded q.1)) (numbered p.1)) (numbered t)

-- CHART,SHEET,RULE
abbrev pub filling : Text → Option Told
filling t = option_and_then (λ (p : ℕ × Text). option_and_then (λ (q : ℕ × Text). option_map (λ (k : ℕ). fills p.0 q.0 k) (small q.1)) (numbered p.1)) (numbered t)

-- CHART
abbrev pub beginning : Text → Option Told
beginning t = option_map begins (small t)

-- CHART,LETTER
abbrev pub scanning : Text → Option Told
scanning t = option_and_then (λ (p : ℕ × Text). option_map (λ (a : ℕ). scans p.0 a) (byte p.1)) (numbered t)

-- TABLE, as what a machine stands on
abbrev pub table_ground : Text → Option Base
table_ground t = option_map on_table (small t)

-- LETTERS, as what a machine stands on
abbrev pub round_ground : Text → Option Base
round_ground t = option_map on_round (bytes t)

-- what follows a word, by its reading; where the word does not stand in front, another reading
abbrev pub by_word : {X : Type 0} → Option Text → (Text → Option X) → Option X → Option X
by_word None f other = other
by_word (Some rest) f other = f rest

-- `table,` or `round,`, and what follows
abbrev pub ground : Text → Option Base
ground t = by_word (after (codes "table,") t) table_ground (by_word (after (codes "round,") t) round_ground None)

-- SIGNALS of stuck layers, and what the machine stands on
abbrev pub machine : Text → Option (List ℕ × Base)
machine t = option_and_then (λ (p : Text × Text). option_and_then (λ (ss : List ℕ). option_map (λ (g : Base). (ss, g)) (ground p.1)) (bytes p.0)) (cut_at 44 t)

-- a chart, the lengths of two areas, and what follows
abbrev pub chart_and_areas : Text → Option (ℕ × ℕ × ℕ × Text)
chart_and_areas t = option_and_then (λ (p : ℕ × Text). option_and_then (λ (q : ℕ × Text). option_map (λ (r : ℕ × Text). (p.0, q.0, r.0, r.1)) (numbered q.1)) (numbered p.1)) (numbered t)

-- CHART,PAIRS,WALK and a machine
abbrev pub finding : Text → Option Told
finding t = option_and_then (λ (a : ℕ × ℕ × ℕ × Text). option_map (λ (m : List ℕ × Base). finds a.0 a.1 a.2 m.0 m.1) (machine a.3)) (chart_and_areas t)

-- ---- a line: the word of a call, and its fields

-- a line that begins with the word of a call on a chart
abbrev pub chart_call : Text → Option Told
chart_call t = by_word (after (codes "fill,") t) filling (by_word (after (codes "begin,") t) beginning (by_word (after (codes "scan,") t) scanning None))

-- a line that begins with the word of any call
abbrev pub call : Text → Option Told
call t = by_word (after (codes "open,") t) opening (by_word (after (codes "enter,") t) entering (by_word (after (codes "load,") t) loading (by_word (after (codes "find,") t) finding (chart_call t))))

-- ---- a log: its lines, which LF ends; the last one may be without

-- the parts between LFs, without an empty last one
abbrev pub whole : List Text → List Text
whole [] = []
whole (p ∷ []) = cond (is_empty p) [] (p ∷ [])
whole (p ∷ (q ∷ ps)) = p ∷ whole (q ∷ ps)

-- the lines of a log
abbrev pub log_lines : Text → List Text
log_lines t = whole (parted 10 t)

-- what each line tells, if it tells a call
abbrev pub lines_told : Text → List (Option Told)
lines_told t = map call (log_lines t)

-- the calls alone
abbrev pub calls_told : List (Option Told) → List Told
calls_told [] = []
calls_told (None ∷ ts) = calls_told ts
calls_told (Some c ∷ ts) = c ∷ calls_told ts

-- for each line the number of its call, from n
abbrev pub numbers : ℕ → List (Option Told) → List (Option ℕ)
numbers n [] = []
numbers n (None ∷ ts) = None ∷ numbers n ts
numbers n (Some c ∷ ts) = Some n ∷ numbers (n + 1) ts
