-- Lines that are read one after another. Assumes nothing.
use Rattle.std.proofs.Common.{◌≡◌, ℕ, ◌+◌, List, [], ◌∷◌, ◌++◌, map, length, cond, true, false, Some, None, Err, Option, refl, sym, ap, subst, ◌∙◌, append_assoc, append-nil, ◌==◌, arith}
use Rattle.std.proofs.lemmas.Bool.{eqb-true}
use Rattle.std.proofs.lemmas.List.{length-map}
use Rattle.meaning.specs.Bytes.{Text, is_empty, parted}
use Rattle.replay.specs.declared.call.Call.{Call}
use Rattle.logs.specs.declared.machine.NoMachine.{NoMachine}
use Rattle.logs.specs.Told.{Told, told, call, whole, log_lines, lines_told, calls_told, numbers}
use Rattle.logs.specs.declared.unread.Unread.{Unread}
use Rattle.logs.specs.declared.unread.Unread.TheVariants.{NoForm}
use Rattle.logs.specs.Reads.{Reads}
use Rattle.logs.specs.Replays.{HoldsLines}

-- ---- one line more

map_more : {X Y : Type 0} (f : X → Y) (xs : List X) (x : X) → map f (xs ++ (x ∷ [])) ≡ map f xs ++ (f x ∷ [])
map_more f [] x = refl
map_more f (y ∷ xs) x = ap (λ ys. f y ∷ ys) (map_more f xs x)

calls_stay : (ts : List (Option Told)) → calls_told (ts ++ (None ∷ [])) ≡ calls_told ts
calls_stay [] = refl
calls_stay (None ∷ ts) = calls_stay ts
calls_stay (Some c ∷ ts) = ap (λ cs. c ∷ cs) (calls_stay ts)

calls_more : (ts : List (Option Told)) (c : Told) → calls_told (ts ++ (Some c ∷ [])) ≡ calls_told ts ++ (c ∷ [])
calls_more [] c = refl
calls_more (None ∷ ts) c = calls_more ts c
calls_more (Some d ∷ ts) c = ap (λ cs. d ∷ cs) (calls_more ts c)

numbers_none : (n : ℕ) (ts : List (Option Told)) → numbers n (ts ++ (None ∷ [])) ≡ numbers n ts ++ (None ∷ [])
numbers_none n [] = refl
numbers_none n (None ∷ ts) = ap (λ ks. None ∷ ks) (numbers_none n ts)
numbers_none n (Some c ∷ ts) = ap (λ ks. Some n ∷ ks) (numbers_none (n + 1) ts)

numbers_some : (n m : ℕ) (ts : List (Option Told)) (c : Told) → m ≡ n + length (calls_told ts) → numbers n (ts ++ (Some c ∷ [])) ≡ numbers n ts ++ (Some m ∷ [])
numbers_some n m [] c e = let i : n ≡ m = omega arith in ap (λ k. Some k ∷ []) i
numbers_some n m (None ∷ ts) c e = ap (λ ks. None ∷ ks) (numbers_some n m ts c e)
numbers_some n m (Some d ∷ ts) c e = ap (λ ks. Some n ∷ ks) (numbers_some (n + 1) m ts c (omega arith))

pub no_call_held : (ts : List (Option Told)) (t : Option Told) (ks ks' : List (Option ℕ)) (cs : List (Call NoMachine)) → HoldsLines ts ks cs → None ≡ t → ks' ≡ ks ++ (None ∷ []) → HoldsLines (ts ++ (t ∷ [])) ks' cs
no_call_held ts t ks ks' cs h i j =
    subst (λ u. HoldsLines (ts ++ (u ∷ [])) ks' cs) i (record {
      calls_are = h.calls_are ∙ sym (calls_stay ts);
      numbers_are = j ∙ ap (λ l. l ++ (None ∷ [])) h.numbers_are ∙ sym (numbers_none 0 ts);
    })

pub unread_held : (ts : List (Option Told)) (t : Option Told) (ks ks' : List (Option ℕ)) (cs cs' : List (Call NoMachine)) (e : Unread) → HoldsLines ts ks cs
    → Reads told t (Err e) → (e ≡ NoForm) × (ks' ≡ ks ++ (None ∷ [])) × (cs' ≡ cs) → HoldsLines (ts ++ (t ∷ [])) ks' cs'
unread_held ts t ks ks' cs cs' e h r a =
    let held = no_call_held ts t ks ks' cs h (subst (λ (u : Unread). Reads told t (Err u)) a.0 r) a.1 in
    subst (λ ds. HoldsLines (ts ++ (t ∷ [])) ks' ds) (sym a.2) held

pub call_held : (ts : List (Option Told)) (t : Option Told) (ks ks' : List (Option ℕ)) (cs cs' : List (Call NoMachine)) (c : Call NoMachine) (n : ℕ)
    → HoldsLines ts ks cs → Some (told c) ≡ t → n ≡ length cs → cs' ≡ cs ++ (c ∷ []) → ks' ≡ ks ++ (Some n ∷ []) → HoldsLines (ts ++ (t ∷ [])) ks' cs'
call_held ts t ks ks' cs cs' c n h i l j k =
    let count : n ≡ 0 + length (calls_told ts) = omega (arith, length-map cs told, ap length h.calls_are) in
    subst (λ u. HoldsLines (ts ++ (u ∷ [])) ks' cs') i (record {
      calls_are = ap (map told) j ∙ map_more told cs c ∙ ap (λ ds. ds ++ (told c ∷ [])) h.calls_are ∙ sym (calls_more ts (told c));
      numbers_are = k ∙ ap (λ l. l ++ (Some n ∷ [])) h.numbers_are ∙ sym (numbers_some 0 n ts (told c) count);
    })

-- ---- the lines of a log

-- the lines before the rest are read
pub record ReadLines (log rest : Text) (ks : List (Option ℕ)) (cs : List (Call NoMachine)) : Type 0 where
  pub before : List Text
  pub parts : parted 10 log ≡ before ++ parted 10 rest
  pub held : HoldsLines (map call before) ks cs

pub line_read : (log rest line more : Text) (ks ks' : List (Option ℕ)) (cs cs' : List (Call NoMachine)) (r : ReadLines log rest ks cs)
    → parted 10 rest ≡ line ∷ parted 10 more → HoldsLines (map call r.before ++ (call line ∷ [])) ks' cs' → ReadLines log more ks' cs'
line_read log rest line more ks ks' cs cs' r e h = record {
  before = r.before ++ (line ∷ []);
  parts = r.parts ∙ ap (λ ps. r.before ++ ps) e ∙ sym (append_assoc r.before (line ∷ []) (parted 10 more));
  held = subst (λ ts. HoldsLines ts ks' cs') (sym (map_more call r.before line)) h;
}

-- all lines, with the last one
whole_last : (ps : List Text) (p : Text) → whole (ps ++ (p ∷ [])) ≡ ps ++ cond (is_empty p) [] (p ∷ [])
whole_last [] p = refl
whole_last (q ∷ []) p = refl
whole_last (q ∷ (r ∷ ps)) p = ap (λ qs. q ∷ qs) (whole_last (r ∷ ps) p)

lines_are : (log rest : Text) (ps : List Text) → parted 10 log ≡ ps ++ parted 10 rest → parted 10 rest ≡ rest ∷ [] → log_lines log ≡ ps ++ cond (is_empty rest) [] (rest ∷ [])
lines_are log rest ps e i = ap whole (e ∙ ap (λ qs. ps ++ qs) i) ∙ whole_last ps rest

filled_not_empty : (b : ℕ) (bs : Text) → true ≡ (length (b ∷ bs) == 0) → ⊥
filled_not_empty b bs e = let i : length (b ∷ bs) ≡ 0 = eqb-true (length (b ∷ bs)) 0 (sym e) in absurd (omega arith)

empty_not_filled : false ≡ (length {A = ℕ} [] == 0) → ⊥
empty_not_filled e = cc

pub all_read : (log rest : Text) (ks : List (Option ℕ)) (cs : List (Call NoMachine)) (r : ReadLines log rest ks cs) → parted 10 rest ≡ rest ∷ [] → true ≡ (length rest == 0)
    → HoldsLines (lines_told log) ks cs
all_read log [] ks cs r e i =
    let lines : log_lines log ≡ r.before = lines_are log [] r.before r.parts e ∙ append-nil r.before in
    subst (λ ls. HoldsLines (map call ls) ks cs) (sym lines) r.held
all_read log (b ∷ bs) ks cs r e i = absurd (filled_not_empty b bs i)

pub all_read_with_last : (log rest : Text) (ks ks' : List (Option ℕ)) (cs cs' : List (Call NoMachine)) (r : ReadLines log rest ks cs) → parted 10 rest ≡ rest ∷ [] → false ≡ (length rest == 0)
    → HoldsLines (map call r.before ++ (call rest ∷ [])) ks' cs' → HoldsLines (lines_told log) ks' cs'
all_read_with_last log [] ks ks' cs cs' r e i h = absurd (empty_not_filled i)
all_read_with_last log (b ∷ bs) ks ks' cs cs' r e i h =
    let lines : log_lines log ≡ r.before ++ ((b ∷ bs) ∷ []) = lines_are log (b ∷ bs) r.before r.parts e in
    subst (λ ls. HoldsLines (map call ls) ks' cs') (sym lines) (subst (λ ts. HoldsLines ts ks' cs') (sym (map_more call r.before (b ∷ bs))) h)
