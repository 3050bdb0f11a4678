-- Worked histories and lines out of place, each by computing. Assumes nothing.
use Rattle.std.specs.Prelude.{◌≡◌, ℕ, [], ◌∷◌, Some, None, Ok, Err, codes, Option}
use Rattle.meaning.specs.declared.refusals.NamesFault.TheVariants.{Unfit}
use Rattle.meaning.specs.declared.refusals.FillingFault.TheVariants.{NoRule, LabelsExceed, StandingsExceed}
use Rattle.meaning.specs.declared.refusals.LineFault.TheVariants.{Table}
use Rattle.meaning.specs.declared.refusals.TableFault.TheVariants.{Form}
use Rattle.meaning.specs.declared.answers.Scanned.TheVariants.{GoingOn}
use Rattle.meaning.specs.Bytes.{Text}
use Rattle.meaning.specs.Charts.{Areas, label_room, standing_room}
use Rattle.meaning.specs.Kinds.{no_lines}
use Rattle.meaning.specs.Files.{Rooms, state_room, step_room, Content, Entry, state, step, ended, formed, content, lines_in}
use Rattle.meaning.specs.Calls.{opening, entering, loading, filling, beginning, scanning, Event, History}
use Rattle.meaning.specs.Histories.{names, rules, table_lines, filled_rule, watch}
use Rattle.meaning.specs.Examples.{two_names, sample}

-- areas of a table, the second larger than the limit
abbrev pub rooms : Rooms
rooms = record { states = 256; steps = 5000000 }

-- areas of a chart: 7 labels, and next numbers for 3 standings
abbrev pub areas : Areas
areas = record { labels = 7; records = 600; nexts = 1000 }

-- an opening with two names
abbrev pub opened : Event
opened = record { call = opening 0 (codes "stop,full"); answer = Ok tt }

-- a refused opening
abbrev pub not_opened : Event
not_opened = record { call = opening 0 (codes "stop,stop"); answer = Err Unfit }

-- an entering
abbrev pub entered : Event
entered = record { call = entering 0 (codes "! stop"); answer = Ok 0 }

-- a loading of the sample file
abbrev pub loaded : Event
loaded = record { call = loading 0 1 rooms sample; answer = Ok tt }

-- a refused loading
abbrev pub not_loaded : Event
not_loaded = record { call = loading 0 1 rooms []; answer = Err (record { line = 1; fault = Table Form }) }

-- a filling
abbrev pub filled : Event
filled = record { call = filling 2 0 0 areas; answer = Ok (2, 3) }

-- a filling refused by 8
abbrev pub no_rule : Event
no_rule = record { call = filling 2 0 1 areas; answer = Err NoRule }

-- a filling refused by 9
abbrev pub no_label_room : Event
no_label_room = record { call = filling 2 0 0 areas; answer = Err LabelsExceed }

-- a filling refused by 10
abbrev pub no_standing_room : Event
no_standing_room = record { call = filling 2 0 0 areas; answer = Err StandingsExceed }

-- a beginning
abbrev pub begun : Event
begun = record { call = beginning 2; answer = Ok tt }

-- a scan that goes on
abbrev pub scanned : ℕ → Event
scanned a = record { call = scanning 2 a; answer = Ok GoingOn }

-- opened, entered, filled
abbrev pub ready : History
ready = filled ∷ (entered ∷ (opened ∷ []))

-- ... and watched with two letters
abbrev pub watched : History
watched = scanned 4 ∷ (scanned 2 ∷ (begun ∷ ready))

-- what follows from these calls
abbrev pub HistoryExamples : Type 0
HistoryExamples = record {
  new_sheet : names [] 0 ≡ [];
  names_set : names ready 0 ≡ two_names;
  rules_set : rules ready 0 ≡ codes "! stop" ∷ [];
  other_sheet : rules ready 1 ≡ [];
  opening_drops : rules (opened ∷ ready) 0 ≡ [];
  refused_opening_keeps : rules (not_opened ∷ ready) 0 ≡ codes "! stop" ∷ [];
  loading_sets : rules (loaded ∷ ready) 0 ≡ codes "G ! & stop full" ∷ (codes "G -> stop X ! full" ∷ []);
  loading_lines : table_lines (loaded ∷ ready) 1 ≡ lines_in (content sample);
  refused_loading_names : names (not_loaded ∷ (loaded ∷ ready)) 0 ≡ [];
  refused_loading_rules : rules (not_loaded ∷ (loaded ∷ ready)) 0 ≡ [];
  refused_loading_lines : table_lines (not_loaded ∷ (loaded ∷ ready)) 1 ≡ no_lines;
  rule_filled : filled_rule ready 2 ≡ Some (record { under = two_names; text = codes "! stop" });
  chart_keeps_its_rule : filled_rule (not_loaded ∷ (opened ∷ ready)) 2 ≡ filled_rule ready 2;
  other_chart : filled_rule ready 0 ≡ None;
  no_watch_yet : watch ready 2 ≡ None;
  letters : watch watched 2 ≡ Some (2 ∷ (4 ∷ []));
  begun_again : watch (begun ∷ watched) 2 ≡ Some [];
  filling_ends_watch : watch (filled ∷ watched) 2 ≡ None;
  no_rule_keeps : watch (no_rule ∷ watched) 2 ≡ Some (2 ∷ (4 ∷ []));
  no_rule_keeps_rule : filled_rule (no_rule ∷ watched) 2 ≡ filled_rule ready 2;
  no_label_room_blanks : filled_rule (no_label_room ∷ watched) 2 ≡ None;
  no_label_room_ends : watch (no_label_room ∷ watched) 2 ≡ None;
  no_standing_room_blanks : filled_rule (no_standing_room ∷ watched) 2 ≡ None;
  no_standing_room_ends : watch (no_standing_room ∷ watched) 2 ≡ None;
}

-- what is set behind two states
abbrev pub two_states : Content
two_states = content (codes "signals,a\nstate,0,1,0\nstate,1,0,255\n")

-- ... and behind a step from state 1
abbrev pub one_step : Content
one_step = content (codes "signals,a\nstate,0,1,0\nstate,1,0,255\nstep,1,0\n")

-- the entry of a line there; none where it breaks its form
abbrev pub said : Content → Text → Option Entry
said c t = formed c (ended t)

-- lines out of place, and rooms
abbrev pub PlaceExamples : Type 0
PlaceExamples = record {
  second_signals : said two_states (codes "signals,b") ≡ None;
  late_rule : said two_states (codes "rule,a") ≡ None;
  late_state : said one_step (codes "state,2,0,0") ≡ None;
  gap : said two_states (codes "state,3,0,0") ≡ None;
  start_two : said two_states (codes "state,2,2,0") ≡ None;
  start_one : said two_states (codes "state,2,1,0") ≡ Some (state 2 1 0);
  letter_255 : said two_states (codes "state,2,0,255") ≡ Some (state 2 0 255);
  letter_256 : said two_states (codes "state,2,0,256") ≡ None;
  last_source : said two_states (codes "step,1,0") ≡ Some (step 1 0);
  last_end : said two_states (codes "step,0,1") ≡ Some (step 0 1);
  to_itself : said one_step (codes "step,1,1") ≡ Some (step 1 1);
  twice : said one_step (codes "step,1,0") ≡ Some (step 1 0);
  falls : said one_step (codes "step,0,1") ≡ None;
  source_not_declared : said two_states (codes "step,2,0") ≡ None;
  end_not_declared : said two_states (codes "step,0,2") ≡ None;
  leading_nought : said two_states (codes "step,0,01") ≡ None;
  space : said two_states (codes "step,0, 1") ≡ None;
  state_room_is : state_room (record { states = 5000; steps = 0 }) ≡ 4096;
  step_room_is : step_room rooms ≡ 16384;
  label_room_is : label_room areas ≡ 7;
  standing_room_is : standing_room areas ≡ 3;
  largest_rooms : label_room (record { labels = 600; records = 600; nexts = 600000 }) ≡ 512;
  largest_standing_room : standing_room (record { labels = 600; records = 600; nexts = 600000 }) ≡ 512;
}
