-- Lists of calls that were made one after another, with their answers. Assumes nothing.
use Rattle.std.specs.Prelude.{◌≡◌, ℕ, ◌≤◌, ◌⊎◌, List, [], ◌∷◌, length, take, Some, None, Ok, Err, Option, Result, slice_get}
use Rattle.meaning.specs.Machines.{Meaning, Lawful}
use Rattle.meaning.specs.Calls.{Call as Meant, Answer as Given, History}
use Rattle.meaning.specs.Right.{Right, AllRight}
use Rattle.meaning.specs.Claims.{sheet_of, table_of, chart_of}
use Rattle.replay.specs.declared.call.Call.{Call}
use Rattle.replay.specs.declared.answer.Answer.{Answer}
use Rattle.replay.specs.Objects.{Objects, ObjectsLed, AllNew, Lent, lent, loans}
use Rattle.replay.specs.Meant.{meant, given}

-- ---- one call

-- it was answered rightly after the history h; an answer of another kind is none
abbrev pub RightGiven : History → (c : Meant) → Option (Given c) → Type 0
RightGiven h c None = ⊥
RightGiven h c (Some x) = Right h c x

-- where no call is made, the answer is the one that says why
abbrev pub RightAnswer : History → Result Meant Answer → Answer → Type 0
RightAnswer h (Ok c) a = RightGiven h c (given c a)
RightAnswer h (Err why) a = a ≡ why

-- the history with a call and the answer given to it in front
abbrev pub with_given : (c : Meant) → Option (Given c) → History → History
with_given c None h = h
with_given c (Some x) h = record { call = c; answer = x } ∷ h

-- the history with this call and its answer in front; where no call is made it stays
abbrev pub with_answer : Result Meant Answer → Answer → History → History
with_answer (Ok c) a h = with_given c (given c a) h
with_answer (Err why) a h = h

-- the call is made on sheet k, which it may change; where no call is made, on none
abbrev pub OnSheet : Result Meant Answer → ℕ → Type 0
OnSheet (Ok c) k = sheet_of c ≡ Some k
OnSheet (Err why) k = ⊥

-- the same of table k
abbrev pub OnTable : Result Meant Answer → ℕ → Type 0
OnTable (Ok c) k = table_of c ≡ Some k
OnTable (Err why) k = ⊥

-- the same of chart k
abbrev pub OnChart : Result Meant Answer → ℕ → Type 0
OnChart (Ok c) k = chart_of c ≡ Some k
OnChart (Err why) k = ⊥

-- the objects of which these facts do not hold are equal before and after
pub record OthersStay (sheet table chart : ℕ → Type 0) (o o' : Objects) : Type 0 where
  pub sheets : (k : ℕ) → ¬ sheet k → slice_get o'.sheets k ≡ slice_get o.sheets k
  pub tables : (k : ℕ) → ¬ table k → slice_get o'.tables k ≡ slice_get o.tables k
  pub charts : (k : ℕ) → ¬ chart k → slice_get o'.charts k ≡ slice_get o.charts k

-- after every list of calls that led to the objects o the answer is right, and with it the objects are o'; they keep their areas, on the same loans,
-- and those that the call is not made on are equal to what they were
pub record StepLed (c : Result Meant Answer) (a : Answer) (o o' : Objects) : Type 0 where
  pub same : lent o' ≡ lent o
  pub on_loan : loans o' ≡ loans o
  pub others : OthersStay (OnSheet c) (OnTable c) (OnChart c) o o'
  pub right : (h : History) → ObjectsLed h o → RightAnswer h c a
  pub led : (h : History) → ObjectsLed h o → ObjectsLed (with_answer c a h) o'

-- ---- a list of calls

-- the history after the calls with these answers
abbrev pub history : {M : Type 0} → (mean : M → Meaning) → ((m : M) → Lawful (mean m)) → Lent → List (Call M) → List Answer → History → History
history mean laws l [] xs h = h
history mean laws l (c ∷ cs) [] h = h
history mean laws l (c ∷ cs) (a ∷ xs) h = history mean laws l cs xs (with_answer (meant mean laws l c) a h)

-- there is one answer for each call, and each is right after the history h with the calls before it
abbrev pub RightAnswers : {M : Type 0} → (mean : M → Meaning) → ((m : M) → Lawful (mean m)) → Lent → History → List (Call M) → List Answer → Type 0
RightAnswers mean laws l h [] [] = Unit {0}
RightAnswers mean laws l h [] (a ∷ xs) = ⊥
RightAnswers mean laws l h (c ∷ cs) [] = ⊥
RightAnswers mean laws l h (c ∷ cs) (a ∷ xs) =
    RightAnswer h (meant mean laws l c) a × RightAnswers mean laws l (with_answer (meant mean laws l c) a h) cs xs

-- one of the calls is made on object k of a kind
abbrev pub AnyOn : {M : Type 0} → (mean : M → Meaning) → ((m : M) → Lawful (mean m)) → Lent → (Result Meant Answer → ℕ → Type 0) → List (Call M) → ℕ → Type 0
AnyOn mean laws l on [] k = ⊥
AnyOn mean laws l on (c ∷ cs) k = on (meant mean laws l c) k ⊎ AnyOn mean laws l on cs k

-- after every list of calls that led to the objects o, the answers xs to the calls cs are right, the longer list has only right answers
-- if it had so before, and the objects o' are as it says; they keep their areas, on the same loans, and those that no call is made on are equal to what they were
pub record Replayed {M : Type 0} (mean : M → Meaning) (laws : (m : M) → Lawful (mean m)) (cs : List (Call M)) (xs : List Answer) (o o' : Objects) : Type 0 where
  pub same : lent o' ≡ lent o
  pub on_loan : loans o' ≡ loans o
  pub others : OthersStay (AnyOn mean laws (lent o) OnSheet cs) (AnyOn mean laws (lent o) OnTable cs) (AnyOn mean laws (lent o) OnChart cs) o o'
  pub right : (h : History) → ObjectsLed h o → RightAnswers mean laws (lent o) h cs xs
  pub all_right : (h : History) → ObjectsLed h o → AllRight h → AllRight (history mean laws (lent o) cs xs h)
  pub led : (h : History) → ObjectsLed h o → ObjectsLed (history mean laws (lent o) cs xs h) o'
  -- on new objects the list itself has only right answers
  pub from_new : AllNew o → AllRight (history mean laws (lent o) cs xs [])

-- memory ended after the first n calls, to whom the answers were xs; none was made after them
pub record CutOff {M : Type 0} (mean : M → Meaning) (laws : (m : M) → Lawful (mean m)) (cs : List (Call M)) (o o' : Objects) : Type 0 where
  pub made : ℕ
  pub answers : List Answer
  pub within : made ≤ length cs
  pub replayed : Replayed mean laws (take made cs) answers o o'
