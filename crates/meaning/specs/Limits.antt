-- The limits of names, rules, areas, machines and files from both sides: what is just within, and what is just beyond. Assumes nothing.
use Rattle.std.specs.Prelude.{◌≡◌, ℕ, zero, suc, ◌+◌, ◌≤◌, true, false, List, [], ◌∷◌, ◌++◌, map, length, replicate, Some, None, Ok, Err, codes, Result}
use Rattle.meaning.specs.declared.refusals.RuleFault.TheVariants.{TooDeep}
use Rattle.meaning.specs.declared.refusals.SheetFault.TheVariants.{OverKept, SheetFull}
use Rattle.meaning.specs.declared.refusals.FittingFault.TheVariants.{TooLarge}
use Rattle.meaning.specs.declared.refusals.FileFault.{FileFault}
use Rattle.meaning.specs.declared.refusals.LineFault.TheVariants.{Table}
use Rattle.meaning.specs.declared.refusals.TableFault.TheVariants.{Form, NoRoom}
use Rattle.meaning.specs.declared.refusals.SearchingFault.TheVariants.{ManyStates, ShortWalkArea}
use Rattle.logic.specs.Formula.{Formula, Letter, on}
use Rattle.logic.specs.Rule.{Rule, name, rnext}
use Rattle.meaning.specs.Bytes.{Text}
use Rattle.meaning.specs.Names.{fit}
use Rattle.meaning.specs.Written.{written}
use Rattle.meaning.specs.Full.{CanBeMeant}
use Rattle.meaning.specs.Entering.{RightEntering}
use Rattle.meaning.specs.Charts.{label_room, standing_room}
use Rattle.meaning.specs.Machines.{Meaning, Lawful}
use Rattle.meaning.specs.Kinds.{Lines, table_meaning, round_meaning, stuck_meaning, fitting}
use Rattle.meaning.specs.Files.{Rooms, Content, state, step, state_room, step_room, SaidOfEntry, RightLoading}
use Rattle.meaning.specs.Right.{Searches}
use Rattle.meaning.specs.Printed.{table_rooms, chart_areas, fault_line, PrintsLoaded, Prints}
use Rattle.meaning.specs.Examples.{two_names, times, fault}

-- ---- names: 1 to 8, of 1 to 8 letters

-- 8 names of 8 letters are fit, and 9 are not
abbrev pub NameLimits : Type 0
NameLimits = record {
  eight_names : fit (codes "a,b,c,d,e,f,g,h") ≡ true;
  nine_names : fit (codes "a,b,c,d,e,f,g,h,i") ≡ false;
  eight_letters : fit (codes "abcdefgh") ≡ true;
  nine_letters : fit (codes "abcdefghi") ≡ false;
}

-- ---- letters: a byte, one bit for each of 8 signals

-- the last letter, the first number that is none, and the bit of the last name
abbrev pub LetterLimits : Type 0
LetterLimits = record {
  letter_255 : Letter 255;
  letter_256 : ¬ Letter 256;
  eighth_signal : on 7 128 ≡ true;
  below_it : on 7 127 ≡ false;
}

-- ---- rules: 32 operators one below another, 16 rules, 32 kept formulas, 256 different subformulas

-- so many times `X` before a name
abbrev pub nexts_before : ℕ → ℕ → Rule
nexts_before zero i = name i
nexts_before (suc n) i = rnext (nexts_before n i)

-- `a` to `h`
abbrev pub eight_names : List Text
eight_names = codes "a" ∷ codes "b" ∷ codes "c" ∷ codes "d" ∷ codes "e" ∷ codes "f" ∷ codes "g" ∷ codes "h" ∷ []

-- rules of 32 subformulas each, none of them shared: 31 times `X` before each of the first seven names
abbrev pub seven_rules : List Rule
seven_rules = nexts_before 31 0 ∷ nexts_before 31 1 ∷ nexts_before 31 2 ∷ nexts_before 31 3 ∷ nexts_before 31 4 ∷ nexts_before 31 5 ∷ nexts_before 31 6 ∷ []

-- such a rule for each of the eight names
abbrev pub eight_rules : List Rule
eight_rules = nexts_before 31 7 ∷ seven_rules

-- the last text and rule within each limit, and the first beyond
abbrev pub RuleLimits : Type 0
RuleLimits = record {
  deep : fault (times 32 (codes "! ") ++ codes "stop") ≡ None;
  too_deep : fault (times 33 (codes "! ") ++ codes "stop") ≡ Some (TooDeep 64);
  meant_32 : CanBeMeant two_names (nexts_before 32 0 ∷ []);
  meant_33 : ¬ CanBeMeant two_names (nexts_before 33 0 ∷ []);
  sixteenth : RightEntering [] (replicate 15 (codes "true")) (codes "true") (Ok 15);
  seventeenth : RightEntering [] (replicate 16 (codes "true")) (codes "true") (Err SheetFull);
  kept_32 : RightEntering two_names [] (written two_names (nexts_before 31 0)) (Ok 0);
  kept_33 : RightEntering two_names [] (written two_names (nexts_before 32 0)) (Err OverKept);
  subformulas_256 : RightEntering eight_names (map (written eight_names) seven_rules) (written eight_names (nexts_before 31 7)) (Ok 7);
  subformulas_257 : RightEntering eight_names (map (written eight_names) eight_rules) (codes "true") (Err SheetFull);
}

-- ---- areas: 512 labels, 512 standings, 4,096 states and 16,384 steps of a table

-- the rooms at, below and above each limit, and the lines there
abbrev pub AreaLimits : Type 0
AreaLimits = record {
  labels_511 : label_room (record { labels = 511; records = 0; nexts = 0 }) ≡ 511;
  labels_512 : label_room (record { labels = 512; records = 0; nexts = 0 }) ≡ 512;
  labels_513 : label_room (record { labels = 513; records = 0; nexts = 0 }) ≡ 512;
  standings_511 : standing_room (record { labels = 0; records = 511; nexts = 600000 }) ≡ 511;
  standings_512 : standing_room (record { labels = 0; records = 512; nexts = 131072 }) ≡ 512;
  standings_513 : standing_room (record { labels = 0; records = 513; nexts = 131328 }) ≡ 512;
  -- 256 next numbers for each standing
  nexts_255 : standing_room (record { labels = 0; records = 600; nexts = 255 }) ≡ 0;
  nexts_256 : standing_room (record { labels = 0; records = 600; nexts = 256 }) ≡ 1;
  states_4095 : state_room (record { states = 4095; steps = 0 }) ≡ 4095;
  states_4096 : state_room (record { states = 4096; steps = 0 }) ≡ 4096;
  states_4097 : state_room (record { states = 4097; steps = 0 }) ≡ 4096;
  steps_16383 : step_room (record { states = 0; steps = 16383 }) ≡ 16383;
  steps_16384 : step_room (record { states = 0; steps = 16384 }) ≡ 16384;
  steps_16385 : step_room (record { states = 0; steps = 16385 }) ≡ 16384;
  -- a state line behind 4,095 others is good, and behind 4,096 has no room, however long the area is; a step line behind 16,383 and 16,384
  state_4096th : (r : Rooms) (c : Content) (n s a : ℕ) → 4096 ≤ r.states → length c.states ≡ 4095 → SaidOfEntry r c (state n s a) None;
  state_4097th : (r : Rooms) (c : Content) (n s a : ℕ) → length c.states ≡ 4096 → SaidOfEntry r c (state n s a) (Some (Table NoRoom));
  step_16384th : (r : Rooms) (c : Content) (f t : ℕ) → 16384 ≤ r.steps → length c.steps ≡ 16383 → SaidOfEntry r c (step f t) None;
  step_16385th : (r : Rooms) (c : Content) (f t : ℕ) → length c.steps ≡ 16384 → SaidOfEntry r c (step f t) (Some (Table NoRoom));
  -- an area that is shorter: behind as many as it has room for there is none
  state_area : (r : Rooms) (c : Content) (n s a : ℕ) → length c.states ≡ r.states → SaidOfEntry r c (state n s a) (Some (Table NoRoom));
  step_area : (r : Rooms) (c : Content) (f t : ℕ) → length c.steps ≡ r.steps → SaidOfEntry r c (step f t) (Some (Table NoRoom));
}

-- ---- machines: 32,768 states and a width of 524,288 below a stuck layer, a signal 0 to 7, a width of 1,048,576, and 65,536 states of a search

-- a machine without starts and steps, by its count and its width
abbrev pub idle : ℕ → ℕ → Meaning
idle count width = record { count = count; width = width; starts = []; letter = λ _. 0; steps = λ _. [] }

-- machines at and beyond each limit
abbrev pub MachineLimits : Type 0
MachineLimits = record {
  layer_fits : fitting (idle 32768 524288) 7 ≡ Ok tt;
  layer_many_states : fitting (idle 32769 524288) 7 ≡ Err TooLarge;
  layer_too_wide : fitting (idle 32768 524289) 7 ≡ Err TooLarge;
  layer_no_signal : fitting (idle 32768 524288) 8 ≡ Err TooLarge;
  layer_count : (stuck_meaning (idle 32768 524288) 7).count ≡ 65536;
  layer_width : (stuck_meaning (idle 32768 524288) 7).width ≡ 1048576;
  layer_none : (stuck_meaning (idle 32769 524288) 7).count ≡ 0;
  table_width : (t : Lines) → (table_meaning t).width ≡ 32768;
  round_width : (w : List ℕ) → (round_meaning w).width ≡ 1;
  widest : Lawful (idle 0 1048576);
  too_wide : ¬ Lawful (idle 0 1048577);
  -- a search over 65,536 states is not refused for them, one over 65,537 is
  states_65536 : (f : Formula) (m : Meaning) (p : ℕ) (w : List ℕ) → m.count ≡ 65536 → ¬ Searches f m p w (Err ManyStates, w);
  states_65537 : (f : Formula) (m : Meaning) (p : ℕ) (w : List ℕ) → ¬ (m.starts ≡ []) → m.count ≡ 65537 → Searches f m p w (Err ManyStates, w);
  -- a walk area one longer than the pair area is long enough, one as long is not
  walk_longer : (f : Formula) (m : Meaning) (p : ℕ) (w : List ℕ) → length w ≡ p + 1 → ¬ Searches f m p w (Err ShortWalkArea, w);
  walk_as_long : (f : Formula) (m : Meaning) (p : ℕ) (w : List ℕ) → ¬ (m.starts ≡ []) → m.count ≤ 65536 → length w ≡ p → Searches f m p w (Err ShortWalkArea, w);
}

-- ---- the program: a file of 8,192 bytes

-- files that begin with two blank lines: of 8,192 bytes line 1 is refused by 18, of 8,193 line 0 by 19, since the file is too long
abbrev pub FileLimits : Type 0
FileLimits = record {
  bytes_8192 : (rest : Text) → length rest ≡ 8190 → Prints (10 ∷ (10 ∷ rest)) (fault_line (record { line = 1; fault = Table Form }));
  bytes_8193 : (rest : Text) → length rest ≡ 8191 → Prints (10 ∷ (10 ∷ rest)) (fault_line (record { line = 0; fault = Table NoRoom }));
  -- and nothing else: every file of 8,192 bytes is loaded, and for every one of 8,193 only that line is printed
  loaded_8192 : (file out : Text) → length file ≡ 8192 → Prints file out → ∥ ((x : Result (Unit {0}) FileFault) × RightLoading table_rooms file x × PrintsLoaded file x out) ∥₁;
  only_8193 : (file out : Text) → length file ≡ 8193 → Prints file out → out ≡ fault_line (record { line = 0; fault = Table NoRoom });
}

-- its rooms: 256 states and 1,024 steps, 512 labels and 32 standings
abbrev pub ProgramLimits : Type 0
ProgramLimits = record {
  state_256th : (c : Content) (n s a : ℕ) → length c.states ≡ 255 → SaidOfEntry table_rooms c (state n s a) None;
  state_257th : (c : Content) (n s a : ℕ) → length c.states ≡ 256 → SaidOfEntry table_rooms c (state n s a) (Some (Table NoRoom));
  step_1024th : (c : Content) (f t : ℕ) → length c.steps ≡ 1023 → SaidOfEntry table_rooms c (step f t) None;
  step_1025th : (c : Content) (f t : ℕ) → length c.steps ≡ 1024 → SaidOfEntry table_rooms c (step f t) (Some (Table NoRoom));
  labels_512 : label_room chart_areas ≡ 512;
  standings_32 : standing_room chart_areas ≡ 32;
  label_area : chart_areas.labels ≡ 512;
  record_area : chart_areas.records ≡ 32;
  next_area : chart_areas.nexts ≡ 8192;
}

-- all limits
pub record Limits : Type 0 where
  pub of_names : NameLimits
  pub of_letters : LetterLimits
  pub of_rules : RuleLimits
  pub of_areas : AreaLimits
  pub of_machines : MachineLimits
  pub of_files : FileLimits
  pub of_program : ProgramLimits
