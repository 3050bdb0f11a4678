-- The limits hold from both sides. Assumes nothing.
use Rattle.std.proofs.Common.{◌≡◌, ℕ, zero, suc, ◌<◌, ◌≤◌, min, cond, ltb, List, [], ◌∷◌, map, length, replicate, Some, None, Err, sym, refl, inl, inr, ⊎_elim, arith}
use Rattle.std.proofs.lemmas.Bool.{cond-true, cond-false, lt-ltb, le-ltb}
use Rattle.meaning.specs.declared.refusals.LineFault.TheVariants.{Table}
use Rattle.meaning.specs.declared.refusals.TableFault.TheVariants.{Form, NoRoom}
use Rattle.logic.specs.Formula.{on, same}
use Rattle.logic.specs.Rule.{Rule, rtrue, negated}
use Rattle.logic.specs.Labels.{kept}
use Rattle.meaning.specs.Bytes.{Text}
use Rattle.meaning.specs.Written.{written, Means}
use Rattle.meaning.specs.Sheets.{SheetIsFull, IsOverKept}
use Rattle.meaning.specs.Reading.{GoodNames}
use Rattle.meaning.specs.Full.{different_parts, CanBeMeant}
use Rattle.meaning.specs.Limits.{nexts_before, eight_names, seven_rules, eight_rules, NameLimits, LetterLimits, RuleLimits, AreaLimits, MachineLimits, FileLimits, ProgramLimits, Limits}
use Rattle.meaning.specs.Examples.{two_names}
use Rattle.meaning.proofs.OfFull.{full_sheets_by_lists, over_kept_by_lists}

name_limits : NameLimits
name_limits = record { eight_names = refl; nine_names = refl; eight_letters = refl; nine_letters = refl }

letter_limits : LetterLimits
unfolding on
letter_limits = record { letter_255 = omega arith; letter_256 = λ l. omega arith; eighth_signal = refl; below_it = refl }

-- ---- rules

-- each way that a sheet is full fails
not_full : (ns : List Text) → GoodNames ns → (r : Rule) (rs : List Rule) → CanBeMeant ns (r ∷ rs) → length rs < 16 → length (different_parts (r ∷ rs)) ≤ 256
    → ¬ SheetIsFull ns (map (written ns) rs) (written ns r)
not_full ns g r rs h few small s = ⊎_elim (λ l. omega arith) (λ l. omega arith) ((full_sheets_by_lists ns g r rs h).0 s)

not_over : (ns : List Text) (t : Text) (r : Rule) → GoodNames ns → Means ns t r → length (kept (negated r)) ≤ 32 → ¬ IsOverKept ns t
not_over ns t r g m small h = let l = (over_kept_by_lists ns t r g m).0 h in omega arith

no_names : GoodNames []
no_names = record { are_names = refl; stand_once = refl }

two_good : GoodNames two_names
two_good = record { are_names = refl; stand_once = refl }

eight_good : GoodNames eight_names
eight_good = record { are_names = refl; stand_once = refl }

sixteen : CanBeMeant [] (replicate 16 rtrue)
sixteen = go 16
  where
    go : (n : ℕ) → CanBeMeant [] (replicate n rtrue)
    go zero = tt
    go (suc n) = (tt, omega arith, go n)

eight_meant : CanBeMeant eight_names eight_rules
eight_meant = (omega arith, omega arith, (omega arith, omega arith, (omega arith, omega arith, (omega arith, omega arith, (omega arith, omega arith, (omega arith, omega arith, (omega arith, omega arith, (omega arith, omega arith, tt))))))))

sixteen_few : length (different_parts (replicate 16 rtrue)) ≡ 1
unfolding same
sixteen_few = refl

parts_32 : length (different_parts (nexts_before 31 0 ∷ [])) ≡ 32
unfolding same
parts_32 = refl

parts_33 : length (different_parts (nexts_before 32 0 ∷ [])) ≡ 33
unfolding same
parts_33 = refl

parts_256 : length (different_parts eight_rules) ≡ 256
unfolding same
parts_256 = refl

parts_257 : length (different_parts (rtrue ∷ eight_rules)) ≡ 257
unfolding same
parts_257 = refl

kept_1 : length (kept (negated rtrue)) ≡ 1
unfolding same
kept_1 = refl

kept_first : length (kept (negated (nexts_before 31 0))) ≡ 32
unfolding same
kept_first = refl

kept_last : length (kept (negated (nexts_before 31 7))) ≡ 32
unfolding same
kept_last = refl

kept_33 : length (kept (negated (nexts_before 32 0))) ≡ 33
unfolding same
kept_33 = refl

rule_limits : RuleLimits
rule_limits = record {
  deep = refl;
  too_deep = refl;
  meant_32 = (omega arith, omega arith, tt);
  meant_33 = λ h. omega (arith, h.1);
  sixteenth = (
    refl,
    not_full [] no_names rtrue (replicate 15 rtrue) sixteen (omega arith) (omega (arith, sixteen_few)),
    not_over [] (written [] rtrue) rtrue no_names (record { writes = refl; named = tt; shallow = omega arith }) (omega (arith, kept_1)),
    refl,
  );
  seventeenth = (refl, inl (omega arith));
  kept_32 = (
    refl,
    not_full two_names two_good (nexts_before 31 0) [] (omega arith, omega arith, tt) (omega arith) (omega (arith, parts_32)),
    not_over two_names (written two_names (nexts_before 31 0)) (nexts_before 31 0) two_good (record { writes = refl; named = omega arith; shallow = omega arith }) (omega (arith, kept_first)),
    refl,
  );
  kept_33 = (
    refl,
    not_full two_names two_good (nexts_before 32 0) [] (omega arith, omega arith, tt) (omega arith) (omega (arith, parts_33)),
    (over_kept_by_lists two_names (written two_names (nexts_before 32 0)) (nexts_before 32 0) two_good (record { writes = refl; named = omega arith; shallow = omega arith })).1 (omega (arith, kept_33)),
  );
  subformulas_256 = (
    refl,
    not_full eight_names eight_good (nexts_before 31 7) seven_rules eight_meant (omega arith) (omega (arith, parts_256)),
    not_over eight_names (written eight_names (nexts_before 31 7)) (nexts_before 31 7) eight_good (record { writes = refl; named = omega arith; shallow = omega arith }) (omega (arith, kept_last)),
    refl,
  );
  subformulas_257 = (refl, (full_sheets_by_lists eight_names eight_good rtrue eight_rules (tt, omega arith, eight_meant)).1 (inr (omega (arith, parts_257))));
}

-- ---- areas

room_below : (n room : ℕ) → n < room → cond (ltb n room) None (Some (Table NoRoom)) ≡ None
room_below n room l = cond-true (ltb n room) _ _ (lt-ltb n room l)

room_none : (n room : ℕ) → room ≤ n → cond (ltb n room) None (Some (Table NoRoom)) ≡ Some (Table NoRoom)
room_none n room l = cond-false (ltb n room) _ _ (le-ltb n room l)

area_limits : AreaLimits
area_limits = record {
  labels_511 = refl;
  labels_512 = refl;
  labels_513 = refl;
  standings_511 = refl;
  standings_512 = refl;
  standings_513 = refl;
  nexts_255 = refl;
  nexts_256 = refl;
  states_4095 = refl;
  states_4096 = refl;
  states_4097 = refl;
  steps_16383 = refl;
  steps_16384 = refl;
  steps_16385 = refl;
  state_4096th = λ r c n s a l e. sym (room_below (length c.states) (min 4096 r.states) (omega arith));
  state_4097th = λ r c n s a e. sym (room_none (length c.states) (min 4096 r.states) (omega arith));
  step_16384th = λ r c f t l e. sym (room_below (length c.steps) (min 16384 r.steps) (omega arith));
  step_16385th = λ r c f t e. sym (room_none (length c.steps) (min 16384 r.steps) (omega arith));
  state_area = λ r c n s a e. sym (room_none (length c.states) (min 4096 r.states) (omega arith));
  step_area = λ r c f t e. sym (room_none (length c.steps) (min 16384 r.steps) (omega arith));
}

-- ---- machines

machine_limits : MachineLimits
machine_limits = record {
  layer_fits = refl;
  layer_many_states = refl;
  layer_too_wide = refl;
  layer_no_signal = refl;
  layer_count = refl;
  layer_width = refl;
  layer_none = refl;
  table_width = λ t. refl;
  round_width = λ w. refl;
  widest = record {
    starts_below = tt;
    starts_once = tt;
    steps_below = λ s l. tt;
    steps_few = λ s l. omega arith;
    letters_small = λ s l. omega arith;
    width_small = omega arith;
  };
  too_wide = λ l. omega (arith, l.width_small);
  states_65536 = λ f m p w e s. omega (arith, s.1);
  states_65537 = λ f m p w n e. (n, omega arith, refl);
  walk_longer = λ f m p w e s. omega (arith, s.2);
  walk_as_long = λ f m p w n few e. (n, few, omega arith, refl);
}

-- ---- the program

file_limits : FileLimits
file_limits = record {
  bytes_8192 = λ rest e. inr (omega arith, ∣ (Err (record { line = 1; fault = Table Form }), inl (refl, refl), refl) ∣₁);
  bytes_8193 = λ rest e. inl (omega arith, refl);
  loaded_8192 = λ file out e p. ⊎_elim (λ a. absurd (omega (arith, a.0))) (λ b. b.1) p;
  only_8193 = λ file out e p. ⊎_elim (λ a. a.1) (λ b. absurd (omega (arith, b.0))) p;
}

program_limits : ProgramLimits
program_limits = record {
  state_256th = λ c n s a e. sym (room_below (length c.states) 256 (omega arith));
  state_257th = λ c n s a e. sym (room_none (length c.states) 256 (omega arith));
  step_1024th = λ c f t e. sym (room_below (length c.steps) 1024 (omega arith));
  step_1025th = λ c f t e. sym (room_none (length c.steps) 1024 (omega arith));
  labels_512 = refl;
  standings_32 = refl;
  label_area = refl;
  record_area = refl;
  next_area = refl;
}

pub limits : Limits
limits = record { of_names = name_limits; of_letters = letter_limits; of_rules = rule_limits; of_areas = area_limits; of_machines = machine_limits; of_files = file_limits; of_program = program_limits }
