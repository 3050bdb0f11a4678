-- The lines of a file one after another, and what is left of it.
use Rattle.std.proofs.Common.{◌≡◌, ℕ, ◌+◌, ◌<◌, ◌≤◌, true, List, [], ◌∷◌, length, Ok, Err, Result, sym, refl, ap, ◌∙◌, inl, inr, arith}
use Rattle.meaning.specs.declared.refusals.LineFault.{LineFault}
use Rattle.meaning.specs.declared.refusals.FileFault.{FileFault}
use Rattle.meaning.specs.Bytes.{Text, parted}
use Rattle.meaning.specs.Kinds.{Lines}
use Rattle.meaning.specs.Files.{Line, ended, Rooms, Content, nothing, content, content_from, formed, added_if, lines, lines_of, lines_in, AllGood, FirstBad}
use Rattle.rules.specs.declared.sheet.Sheet.{Sheet}
use Rattle.lines.proofs.OfFields.{parted_some}
use Rattle.loading.specs.Takes.{Holds, Takes}
use Rattle.loading.specs.Loads.{with_line, HasFile}

-- ---- what is left of a file

-- the lines of what is left
abbrev pub left : Text → List Line
left t = lines_of (parted 10 t)

lines_ended : (a : Text) (ps : List Text) → (ps ≡ [] → ⊥) → lines_of (a ∷ ps) ≡ ended a ∷ lines_of ps
lines_ended a [] h = absurd (h refl)
lines_ended a (p ∷ ps) h = refl

left_ended : (t a more : Text) → parted 10 t ≡ a ∷ parted 10 more → left t ≡ ended a ∷ left more
left_ended t a more e = ap lines_of e ∙ lines_ended a (parted 10 more) (parted_some 10 more)

left_none : (t : Text) → length t ≤ 0 → left t ≡ []
left_none [] h = refl
left_none (b ∷ bs) h = absurd (omega arith)

lines_left : (t : Text) → 0 < length t → lines t ≡ left t
lines_left [] h = absurd (omega arith)
lines_left (b ∷ bs) h = refl

-- ---- behind n lines that set c, the rest decides

pub record Left (r : Rooms) (file : Text) (c : Content) (n : ℕ) (rest : Text) : Type 0 where
  pub good : AllGood r c (left rest) → AllGood r nothing (lines file)
  pub bad : (x : FileFault) → FirstBad r c (n + 1) (left rest) x → FirstBad r nothing 1 (lines file) x
  pub whole : content_from c (left rest) ≡ content file

-- and the sheet and the table hold what they set
pub record Goes (r : Rooms) (file : Text) (s : Sheet) (ls : Lines) (n : ℕ) (rest : Text) : Type 0 where
  pub so_far : Content
  pub holds : Holds s ls true so_far
  pub left_over : Left r file so_far n rest

pub left_start : (r : Rooms) (file : Text) → 0 < length file → Left r file nothing 0 file
left_start r file h =
    let e = sym (lines_left file h) in
    record { good = λ g. rw e at g; bad = λ x g. rw e at g; whole = ap (content_from nothing) e }

-- a line of which something is said
pub bad_line : (r : Rooms) (file : Text) (c : Content) (n : ℕ) (rest a more : Text) (k : Result (Unit {0}) LineFault) (s : Sheet) (ls : Lines) (y : FileFault)
    → Left r file c n rest → parted 10 rest ≡ a ∷ parted 10 more → Takes r c (formed c (ended a)) k s ls → Err y ≡ with_line (n + 1) k → FirstBad r nothing 1 (lines file) y
bad_line r file c n rest a more (Ok u) s ls y g e h q = cc
bad_line r file c n rest a more (Err x) s ls y g e h q =
    let w : FileFault = record { line = n + 1; fault = x } in
    let i : w ≡ y = cc in
    rw (← i) (g.bad w (rw (left_ended rest a more e) (inl (refl, h))))

-- a good line
pub good_line : (r : Rooms) (file : Text) (c : Content) (n : ℕ) (rest a more : Text) (k : Result (Unit {0}) LineFault) (s : Sheet) (ls : Lines) (u : Unit {0})
    → Left r file c n rest → parted 10 rest ≡ a ∷ parted 10 more → Takes r c (formed c (ended a)) k s ls → Ok u ≡ with_line (n + 1) k → Goes r file s ls (n + 1) more
good_line r file c n rest a more (Err x) s ls u g e h q = cc
good_line r file c n rest a more (Ok v) s ls u g e h q =
    let l = left_ended rest a more e in
    record {
      so_far = added_if c (formed c (ended a));
      holds = h.1;
      left_over = record {
        good = λ b. g.good (rw l (h.0, b));
        bad = λ x b. g.bad x (rw l (inr (h.0, b)));
        whole = ap (content_from c) (sym l) ∙ g.whole;
      };
    }

-- no line left
pub no_more : (r : Rooms) (file : Text) (s : Sheet) (ls : Lines) (n : ℕ) (rest : Text) → Goes r file s ls n rest → length rest ≤ 0 → HasFile file s ls
no_more r file s ls n rest g h =
    let i : g.so_far ≡ content file = ap (content_from g.so_far) (sym (left_none rest h)) ∙ g.left_over.whole in
    (rw i at g.holds.sheet, g.holds.table ∙ ap lines_in i)
