-- A list of calls with one more. Assumes nothing.
use Rattle.std.proofs.Common.{◌≡◌, ℕ, ◌+◌, ◌<◌, List, [], ◌∷◌, ◌++◌, length, take, Some, None, Ok, Err, Option, Result, inl, inr, refl, sym, ap, subst, ◌∙◌, slice_index_or}
use Rattle.std.proofs.lemmas.List.{take_more}
use Rattle.meaning.specs.Machines.{Meaning, Lawful}
use Rattle.meaning.specs.Calls.{Call as Called, Answer as Given, History}
use Rattle.meaning.specs.Right.{AllRight}
use Rattle.replay.specs.declared.call.Call.{Call}
use Rattle.replay.specs.declared.answer.Answer.{Answer}
use Rattle.replay.specs.Objects.{Objects, ObjectsLed, AllNew, Lent, lent}
use Rattle.replay.specs.Meant.{MeantCall, meant, given}
use Rattle.replay.specs.Replayed.{RightGiven, RightAnswer, with_given, with_answer, OnSheet, OnTable, OnChart, StepLed, AnyOn, history, RightAnswers, Replayed}

-- a right answer more
given_right : (h : History) (c : Called) (g : Option (Given c)) → RightGiven h c g → AllRight h → AllRight (with_given c g h)
given_right h c None right all = absurd right
given_right h c (Some x) right all = (right, all)

answer_right : (h : History) (c : MeantCall) (a : Answer) → RightAnswer h c a → AllRight h → AllRight (with_answer c a h)
answer_right h (Ok c) a right all = given_right h c (given c a) right all
answer_right h (Err why) a right all = all

-- right answers to a list of calls leave a history of right answers
pub answers_right : {M : Type 0} (mean : M → Meaning) (laws : (m : M) → Lawful (mean m)) (l : Lent) (cs : List (Call M)) (xs : List Answer) (h : History)
    → RightAnswers mean laws l h cs xs → AllRight h → AllRight (history mean laws l cs xs h)
answers_right mean laws l [] [] h right all = all
answers_right mean laws l [] (x ∷ xs) h right all = absurd right
answers_right mean laws l (c ∷ cs) [] h right all = absurd right
answers_right mean laws l (c ∷ cs) (x ∷ xs) h right all =
    answers_right mean laws l cs xs (with_answer (meant mean laws l c) x h) right.1 (answer_right h (meant mean laws l c) x right.0 all)

history_more : {M : Type 0} (mean : M → Meaning) (laws : (m : M) → Lawful (mean m)) (l : Lent) (cs : List (Call M)) (xs : List Answer) (c : Call M) (a : Answer) (h : History)
    → RightAnswers mean laws l h cs xs
    → history mean laws l (cs ++ (c ∷ [])) (xs ++ (a ∷ [])) h ≡ with_answer (meant mean laws l c) a (history mean laws l cs xs h)
history_more mean laws l [] [] c a h right = refl
history_more mean laws l [] (x ∷ xs) c a h right = absurd right
history_more mean laws l (b ∷ cs) [] c a h right = absurd right
history_more mean laws l (b ∷ cs) (x ∷ xs) c a h right = history_more mean laws l cs xs c a (with_answer (meant mean laws l b) x h) right.1

right_more : {M : Type 0} (mean : M → Meaning) (laws : (m : M) → Lawful (mean m)) (l : Lent) (cs : List (Call M)) (xs : List Answer) (c : Call M) (a : Answer) (h : History)
    → RightAnswers mean laws l h cs xs → RightAnswer (history mean laws l cs xs h) (meant mean laws l c) a
    → RightAnswers mean laws l h (cs ++ (c ∷ [])) (xs ++ (a ∷ []))
right_more mean laws l [] [] c a h right one = (one, tt)
right_more mean laws l [] (x ∷ xs) c a h right one = absurd right
right_more mean laws l (b ∷ cs) [] c a h right one = absurd right
right_more mean laws l (b ∷ cs) (x ∷ xs) c a h right one = (right.0, right_more mean laws l cs xs c a (with_answer (meant mean laws l b) x h) right.1 one)

-- new objects are as the empty history says
new_led : (o : Objects) → AllNew o → ObjectsLed [] o
new_led o new = record { sheets = new.sheets; tables = new.tables; charts = new.charts }

-- what a call of the list is made on, a call of a longer list is made on
on_longer : {M : Type 0} (mean : M → Meaning) (laws : (m : M) → Lawful (mean m)) (l : Lent) (on : MeantCall → ℕ → Type 0) (cs ds : List (Call M)) (k : ℕ)
    → AnyOn mean laws l on cs k → AnyOn mean laws l on (cs ++ ds) k
on_longer mean laws l on [] ds k a = absurd a
on_longer mean laws l on (c ∷ cs) ds k (inl a) = inl a
on_longer mean laws l on (c ∷ cs) ds k (inr a) = inr (on_longer mean laws l on cs ds k a)

on_last : {M : Type 0} (mean : M → Meaning) (laws : (m : M) → Lawful (mean m)) (l : Lent) (on : MeantCall → ℕ → Type 0) (cs : List (Call M)) (c : Call M) (k : ℕ)
    → on (meant mean laws l c) k → AnyOn mean laws l on (cs ++ (c ∷ [])) k
on_last mean laws l on [] c k a = inl a
on_last mean laws l on (b ∷ cs) c k a = inr (on_last mean laws l on cs c k a)

pub replayed_more : {M : Type 0} (mean : M → Meaning) (laws : (m : M) → Lawful (mean m)) (cs : List (Call M)) (xs : List Answer) (c : Call M) (a : Answer) (o o' o'' : Objects)
    → Replayed mean laws cs xs o o' → StepLed (meant mean laws (lent o') c) a o' o'' → Replayed mean laws (cs ++ (c ∷ [])) (xs ++ (a ∷ [])) o o''
replayed_more mean laws cs xs c a o o' o'' p q =
    let l = lent o in
    let step = subst (λ k. StepLed (meant mean laws k c) a o' o'') p.same q in
    let more = λ (h : History) (led : ObjectsLed h o). history_more mean laws l cs xs c a h (p.right h led) in
    let one = λ (h : History) (led : ObjectsLed h o). step.right (history mean laws l cs xs h) (p.led h led) in
    let all = λ (h : History) (led : ObjectsLed h o) (before : AllRight h). subst (λ k. AllRight k) (sym (more h led)) (answer_right (history mean laws l cs xs h) (meant mean laws l c) a (one h led) (p.all_right h led before)) in
    record {
      same = step.same ∙ p.same;
      on_loan = step.on_loan ∙ p.on_loan;
      others = record {
        sheets = λ k ne. step.others.sheets k (λ a. ne (on_last mean laws l OnSheet cs c k a)) ∙ p.others.sheets k (λ a. ne (on_longer mean laws l OnSheet cs (c ∷ []) k a));
        tables = λ k ne. step.others.tables k (λ a. ne (on_last mean laws l OnTable cs c k a)) ∙ p.others.tables k (λ a. ne (on_longer mean laws l OnTable cs (c ∷ []) k a));
        charts = λ k ne. step.others.charts k (λ a. ne (on_last mean laws l OnChart cs c k a)) ∙ p.others.charts k (λ a. ne (on_longer mean laws l OnChart cs (c ∷ []) k a));
      };
      right = λ h led. right_more mean laws l cs xs c a h (p.right h led) (one h led);
      all_right = all;
      led = λ h led. subst (λ k. ObjectsLed k o'') (sym (more h led)) (step.led (history mean laws l cs xs h) (p.led h led));
      from_new = λ new. all [] (new_led o new) tt;
    }

-- after one call more, which is the next of the list
pub next_replayed : {M : Type 0} (mean : M → Meaning) (laws : (m : M) → Lawful (mean m)) (cs : List (Call M)) (n : ℕ) (xs : List Answer) (c : Call M) (a : Answer) (o o' o'' : Objects)
    → n < length cs → c ≡ slice_index_or cs n c → Replayed mean laws (take n cs) xs o o' → StepLed (meant mean laws (lent o') c) a o' o''
    → Replayed mean laws (take (n + 1) cs) (xs ++ (a ∷ [])) o o''
next_replayed mean laws cs n xs c a o o' o'' l is p q =
    let more : take (n + 1) cs ≡ take n cs ++ (c ∷ []) = take_more cs n c l ∙ ap (λ d. take n cs ++ (d ∷ [])) (sym is) in
    subst (λ ds. Replayed mean laws ds (xs ++ (a ∷ [])) o o'') (sym more) (replayed_more mean laws (take n cs) xs c a o o' o'' p q)
