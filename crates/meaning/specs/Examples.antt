-- Worked examples, each by computing. Assumes nothing.
use Rattle.std.specs.Prelude.{◌≡◌, ℕ, zero, suc, ◌≤◌, true, false, List, [], ◌∷◌, ◌++◌, length, Some, None, Ok, Err, codes, Option}
use Rattle.meaning.specs.declared.refusals.RuleFault.TheVariants.{WrongWord, WordWanted, BytesFollow, TooDeep}
use Rattle.meaning.specs.declared.refusals.SheetFault.TheVariants.{SheetFull}
use Rattle.meaning.specs.declared.refusals.FittingFault.TheVariants.{TooLarge}
use Rattle.logic.specs.Labels.{kept}
use Rattle.logic.specs.Rule.{Rule, name, not, rnext, globally, both, implies, negated}
use Rattle.meaning.specs.Entering.{RightEntering}
use Rattle.meaning.specs.Machines.{Meaning}
use Rattle.meaning.specs.Bytes.{Text, number}
use Rattle.meaning.specs.Names.{fit}
use Rattle.meaning.specs.Written.{written}
use Rattle.meaning.specs.Faults.{text_fault}
use Rattle.meaning.specs.Kinds.{table_meaning, stuck_meaning, fitting}
use Rattle.meaning.specs.Files.{ended, cut, lines, content, lines_in, entry}

-- the names `stop` and `full`
abbrev pub two_names : List Text
two_names = codes "stop" ∷ (codes "full" ∷ [])

-- so many times the same bytes
abbrev pub times : ℕ → Text → Text
times zero t = []
times (suc n) t = t ++ times n t

-- the fault of a text under the names `stop` and `full`
abbrev pub fault : Text → Option Rattle.meaning.specs.declared.refusals.RuleFault.RuleFault
fault t = text_fault two_names t

-- texts and their faults
abbrev pub TextExamples : Type 0
TextExamples = record {
  wrong_word : fault (codes "G doors") ≡ Some (WrongWord 2);
  word_wanted : fault (codes "& stop") ≡ Some (WordWanted 6);
  bytes_follow : fault (codes "stop full") ≡ Some (BytesFollow 4);
  too_deep : fault (times 33 (codes "! ") ++ codes "stop") ≡ Some (TooDeep 64);
  deep : fault (times 32 (codes "! ") ++ codes "stop") ≡ None;
  wide : fault (times 33 (codes "& stop ") ++ codes "full") ≡ Some (TooDeep 224);
  no_text : fault [] ≡ Some (WordWanted 0);
  a_space : fault (codes " ") ≡ Some (WrongWord 0);
  two_spaces : fault (codes "G  ") ≡ Some (WrongWord 2);
  space_wanted : fault (codes "G ") ≡ Some (WordWanted 2);
  space_after : fault (codes "stop ") ≡ Some (BytesFollow 4);
  not_read : fault (codes "stop doors") ≡ Some (BytesFollow 4);
  deep_wrong : fault (times 32 (codes "! ") ++ codes "doors") ≡ Some (WrongWord 64);
  deep_wanted : fault (times 33 (codes "! ")) ≡ Some (TooDeep 64);
  good : fault (codes "G -> stop X ! full") ≡ None;
  -- on a sheet without names `true` is a rule and `stop` a wrong word
  blank_sheet : text_fault [] (codes "X true") ≡ None;
  blank_sheet_name : text_fault [] (codes "stop") ≡ Some (WrongWord 0);
}

-- fit and unfit names
abbrev pub NameExamples : Type 0
NameExamples = record {
  two : fit (codes "stop,full") ≡ true;
  twice : fit (codes "stop,stop") ≡ false;
  none : fit [] ≡ false;
  a_comma : fit (codes "stop,") ≡ false;
  reserved : fit (codes "stop,true") ≡ false;
  eight : fit (codes "a,b,c,d,e,f,g,h") ≡ true;
  nine : fit (codes "a,b,c,d,e,f,g,h,i") ≡ false;
  long : fit (codes "abcdefgh") ≡ true;
  longer : fit (codes "abcdefghi") ≡ false;
  capital : fit (codes "Stop") ≡ false;
  space : fit (codes "stop, full") ≡ false;
}

-- numbers in files
abbrev pub NumberExamples : Type 0
NumberExamples = record {
  nought : number (codes "0") ≡ Some 0;
  many : number (codes "65537") ≡ Some 65537;
  leading : number (codes "01") ≡ None;
  empty : number [] ≡ None;
  plus : number (codes "+1") ≡ None;
  big : number (codes "18446744073709551616") ≡ Some 18446744073709551616;
}

-- the sample file
abbrev pub sample : Text
sample = codes "signals,stop,full\nrule,G ! & stop full\nrule,G -> stop X ! full\nstate,0,1,0\nstate,1,0,3\nstep,0,1\nstep,1,0\n"

-- the rule `G ! & stop full`
abbrev pub first_rule : Rule
first_rule = globally (not (both (name 0) (name 1)))

-- the rule `G -> stop X ! full`
abbrev pub second_rule : Rule
second_rule = globally (implies (name 0) (rnext (not (name 1))))

-- what the sample file sets, and lines that break their form
abbrev pub FileExamples : Type 0
FileExamples = record {
  names : (content sample).names ≡ two_names;
  rules : (content sample).rules ≡ written two_names first_rule ∷ (written two_names second_rule ∷ []);
  states : (content sample).states ≡ record { start = true; letter = 0 } ∷ (record { start = false; letter = 3 } ∷ []);
  steps : (content sample).steps ≡ record { from = 0; to = 1 } ∷ (record { from = 1; to = 0 } ∷ []);
  starts : (table_meaning (lines_in (content sample))).starts ≡ 0 ∷ [];
  steps_of_one : (table_meaning (lines_in (content sample))).steps 1 ≡ 0 ∷ [];
  -- under the stuck layer on `stop`
  stuck_count : (stuck_meaning (table_meaning (lines_in (content sample))) 0).count ≡ 4;
  stuck_steps : (stuck_meaning (table_meaning (lines_in (content sample))) 0).steps 0 ≡ 1 ∷ (3 ∷ []);
  stuck_letter : (stuck_meaning (table_meaning (lines_in (content sample))) 0).letter 2 ≡ 1;
  no_bytes : lines [] ≡ cut [] ∷ [];
  blank_line : lines (codes "\n") ≡ ended [] ∷ [];
  no_last_lf : lines (codes "signals,a\nrule,a") ≡ ended (codes "signals,a") ∷ (cut (codes "rule,a") ∷ []);
  short_step : entry (codes "step,0") ≡ None;
  no_comma : entry (codes "signals") ≡ None;
  unknown : entry (codes "SIGNALS,a") ≡ None;
  fourth_field : entry (codes "step,0,1,2") ≡ None;
  signal_eight : fitting (table_meaning (lines_in (content sample))) 8 ≡ Err TooLarge;
  signal_seven : fitting (table_meaning (lines_in (content sample))) 7 ≡ Ok tt;
}

-- so many times `X`
abbrev pub nexts : ℕ → Rule → Rule
nexts zero r = r
nexts (suc n) r = rnext (nexts n r)

-- a rule of which too many formulas are kept, and one more rule than a sheet holds
abbrev pub RuleExamples : Type 0
RuleExamples = record {
  -- 20 `X` before `stop`, 20 before `full`
  over_kept : length (kept (negated (both (nexts 20 (name 0)) (nexts 20 (name 1))))) ≡ 43;
  a_17th : (ts : List Text) → 16 ≤ length ts → RightEntering [] ts (codes "true") (Err SheetFull);
}

-- the machine of the sample file's table
abbrev pub sample_machine : Meaning
sample_machine = table_meaning (lines_in (content sample))
